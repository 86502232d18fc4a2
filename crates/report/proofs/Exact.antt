-- A call's answer and buffers are the rules'.
use Prim.Native.Nat.{ℕ, ◌-◌, ◌≤◌}
use native.Mathlib.Omega.{arith}
use borrow.Author.Tests.{lt-ltb}
use native.Mathlib.Nat.{sub-zero}
use mathlib.Core.Path.{◌≡◌, refl, sym, ap, ap₂, ◌∙◌}
use mathlib.Core.Option.{Option, none, some}
use mathlib.Core.Bool.{Bool, true}
use mathlib.Core.List.{List, [], ◌∷◌, ◌++◌}
use lib.ListN.{length, take, replicate}
use lib.Dec.{ltb}
use lib.Seq.{length-take-le}
use Rattle.rules.specs.Refusal.{accepted}
use Rattle.rules.specs.Report as Reports
use Rattle.rules.specs.Report.{yield_of, quotient_of, remainder_of}
use Rattle.rules.specs.Set.{KmerSet, offering, opened}
use Rattle.rules.specs.Index.{index_check}
use Rattle.rules.specs.Job.{Entry, Confirmed}
use Rattle.rules.specs.Counts.{sum, all_passes, turns, lookups, attempts, corrections, support_over, w_of}
use Rattle.rules.specs.Calls.{Given, After, unchanged, no_room, too_long, results, report, corrected}
use Rattle.rules_ceiling.proofs.Demands.{ceilings}
use Rattle.rules_laws.proofs.Offered.{same-report}
use Rattle.turn.specs.declared.Counts.{Counts}
use Rattle.report.specs.declared.Report.{Report}
use Rattle.refusal.specs.declared.Refusal.{Refusal}
use Rattle.refusal.specs.declared.Refusal.TheVariants.{NoRoom}
use Rattle.std.specs.Prelude.{Result, Ok, Err}
use Rattle.refusal.specs.Refusal.{refusal_of}
use Rattle.support.specs.Support.{support_of}
use Rattle.correct.specs.Pass.{Tally, tally_of}
use Rattle.report.specs.Answer.{report_of, answer_of, Exact, Ceiling}
use Rattle.report.specs.Ending.{Cleared, support_with, report_on}
use Rattle.rules_laws.proofs.Calls.{corrected-full, corrected-fits}

-- All of a call's reads: the bytes written, and what all passes count.
unfoldable pub through_all : KmerSet → List Entry → List ℕ → List (List ℕ) → Tally
unfolding results sum all_passes turns lookups attempts corrections w_of
through_all set es ending reads =
    let ps = all_passes set es reads in
    record {
      bytes = results set es ending reads;
      turns = sum (turns set) ps;
      lookups = sum (lookups set) ps;
      attempts = sum (attempts set) ps;
      accepted = sum (corrections set) ps;
      support = support_over set ps;
      bases = sum (w_of set) ps;
    }

-- Refusals that change no lent byte.
pub refused-exact : (g : Given) (after : After) (r : Refusal) → after ≡ unchanged g (refusal_of r) → Exact after (Err r) g.output g.work
unfolding unchanged
refused-exact g after r e =
    record {
      answer = ap (λ (a : After). a.answer) (sym e);
      output = ap (λ (a : After). a.output) (sym e);
      work = ap (λ (a : After). a.work) (sym e);
    }

-- The support that is told is the rules': none where no counts are offered.
support-is : (has_counts : Bool) (counts : List ℕ) (done : Counts) (o : Option ℕ) → has_counts ≡ ltb 0 (length counts) → support_of done.support ≡ o
    → support_of (support_with has_counts done.support) ≡ elim counts [ [] ↦ none | c ∷ cs ↦ o ]
support-is has_counts [] done o e h = rw e
support-is has_counts (c ∷ cs) done o e h =
    let has-some : ltb 0 (length (c ∷ cs)) ≡ true = lt-ltb 0 (length (c ∷ cs)) (omega arith) in
    rw (e ∙ has-some) h

module _ (set : KmerSet) (es : List Entry) (ending : List ℕ) (g : Given) (reads : List (List ℕ)) where
  abbrev after : After
  after = corrected set es ending g reads

  -- Refusal 11.
  pub full-exact : (line : ℕ) {r : Result Report Refusal} {o w : List ℕ} → too_long set es ending 0 (length g.output) reads ≡ some line
      → (out : List ℕ) → length out ≡ length g.output → r ≡ Err (NoRoom line) → Cleared 0 out (length g.work) o w → Exact after r o w
  unfolding no_room
  full-exact line e out same a h =
      let is = corrected-full set es ending g reads line e in
      record {
        answer = ap answer_of a ∙ ap (λ (x : After). x.answer) (sym is);
        output = h.output ∙ rw (sub-zero (length out), same, ap (λ (x : After). x.output) is);
        work = h.work ∙ ap (λ (a : After). a.work) (sym is);
      }

  pub report-is : (done : Counts) (has_counts : Bool) (out : List ℕ) → has_counts ≡ ltb 0 (length set.counts) → done.written ≤ length out
      → tally_of done out ≡ through_all set es ending reads → report_of (report_on has_counts done) ≡ report set es ending reads
  unfolding report through_all
  report-is done has_counts out f l e = λ i. record {
    written = (sym (length-take-le done.written out l) ∙ ap (λ (p : Tally). length p.bytes) e) i;
    turns = (e i).turns;
    lookups = (e i).lookups;
    attempts = (e i).attempts;
    accepted = (e i).accepted;
    yield = yield_of (e i).accepted (e i).attempts;
    support = support-is has_counts set.counts done (support_over set (all_passes set es reads)) f (ap (λ (p : Tally). p.support) e) i;
    quotient = quotient_of (e i).lookups (e i).bases;
    remainder = remainder_of (e i).lookups (e i).bases;
    bases = (e i).bases;
  }

  -- Accepted: out holds the results when the rest is cleared.
  pub fits-exact : (done : Counts) (has_counts : Bool) (out : List ℕ) {r : Result Report Refusal} {o w : List ℕ} → has_counts ≡ ltb 0 (length set.counts) → too_long set es ending 0 (length g.output) reads ≡ none
      → tally_of done out ≡ through_all set es ending reads → done.written ≤ length out
      → length out ≡ length g.output → r ≡ Ok (report_on has_counts done) → Cleared done.written out (length g.work) o w → Exact after r o w
  unfolding through_all
  fits-exact done has_counts out f e s l same a h =
      let is = corrected-fits set es ending g reads e in
      let t : take done.written out ≡ results set es ending reads = ap (λ (p : Tally). p.bytes) s in
      let left : length out - done.written ≡ length g.output - length (results set es ending reads) =
      omega (arith, length-take-le done.written out l, ap length t) in
      record {
        answer = ap answer_of a ∙ ap accepted (report-is done has_counts out f l s) ∙ ap (λ (x : After). x.answer) (sym is);
        output = h.output ∙ ap₂ (λ (l : List ℕ) (n : ℕ). l ++ replicate n 0) t left ∙ ap (λ (a : After). a.output) (sym is);
        work = h.work ∙ ap (λ (a : After). a.work) (sym is);
      }

  -- An exact report is the rules'.
  reported : (r : Report) {o w : List ℕ} → Exact after (Ok r) o w → report_of r ≡ report set es ending reads
  unfolding no_room
  reported r e = go (too_long set es ending 0 (length g.output) reads) refl
    where
      go : (t : Option ℕ) → too_long set es ending 0 (length g.output) reads ≡ t → report_of r ≡ report set es ending reads
      go (some line) f =
          let a : accepted (report_of r) ≡ (no_room g line).answer = e.answer ∙ ap (λ (a : After). a.answer) (corrected-full set es ending g reads line f) in
          absurd (let z : ◌≡◌ {A = ℕ} 0 1 = cc in omega arith)
      go none f =
          let a : accepted (report_of r) ≡ accepted (report set es ending reads) =
          e.answer ∙ ap (λ (a : After). a.answer) (corrected-fits set es ending g reads f) in
          cc

-- Demand 3, of an exact answer, whatever counts are offered and whatever index that passes 15.
pub under-ceiling : (file : KmerSet) (es : List Entry) (ending : List ℕ) (g : Given) (reads : List (List ℕ)) (bytes : List ℕ) → opened bytes ≡ accepted file
    → (index counts : List ℕ) → index_check file index ≡ none → Confirmed es
    → (r : Result Report Refusal) {o w : List ℕ} → Exact (corrected (offering [] counts file) es ending g reads) r o w → Ceiling (offering index counts file) es reads r
unfolding report
under-ceiling file es ending g reads bytes h index counts i l (Err r) e = tt
under-ceiling file es ending g reads bytes h index counts i l (Ok r) e =
    let is = reported (offering [] counts file) es ending g reads r e ∙ sym (same-report bytes file h index counts i es ending reads) in
    rw (ap (λ (x : Reports.Report). x.turns) is, ap (λ (x : Reports.Report). x.lookups) is) (ceilings bytes file h index counts es l reads)
