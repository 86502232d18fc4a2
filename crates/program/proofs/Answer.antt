-- What a batch call leaves on an empty page, whose first bytes are its output.
use Prim.Native.Nat.{ℕ, ◌+◌, ◌-◌, ◌≤◌}
use native.Mathlib.Omega.{arith}
use mathlib.Core.Path.{◌≡◌, refl, sym, ap, ◌∙◌, subst}
use mathlib.Core.Option.{Option, none, some}
use mathlib.Core.List.{List, [], ◌∷◌, ◌++◌, append_assoc}
use lib.ListN.{length, take, drop, replicate, length-append, length-replicate}
use lib.Seq.{take-append_seam}
use Rattle.rules.specs.Refusal.{Refusal, Check, Outcome, accepted, refused, ◌or_else◌, unless}
use Rattle.rules.specs.Report as Reports
use Rattle.rules.specs.Set.{KmerSet, offering, opened}
use Rattle.rules.specs.Job.{Entry, entries_of, lines}
use Rattle.rules.specs.Calls.{Given, without_index, After, unchanged, no_room, too_long, results, report, corrected, offer_check, call, batch_right, given_check, correct_batch}
use Rattle.rules_program.specs.Program.{zeros, refusal_line, counts_line, printed_for}
use Rattle.refusal.specs.declared.Refusal.{Refusal as Refused·by}
use Rattle.refusal.specs.Refusal.{refusal_of}
use Rattle.rules_laws.proofs.Calls.{corrected-full, corrected-fits, call-refused, call-not-opened, call-offer-wrong, call-opened}
use Rattle.report.specs.declared.Report.{Report}
use Rattle.std.specs.Prelude.{Result, Ok, Err}
use Rattle.report.specs.Answer.{report_of, answer_of, given, Exact}
use Rattle.page.specs.Page.{Page, Puts, page_length}
use Rattle.page.proofs.Text.{length-zeros, zeros-append, drop-zeros, take-zeros, length-page}
use Rattle.program.specs.Answered.{Answered}

-- An output of n zeros is left as it was by a refusal; an accepted call leaves the bytes written and zeros behind them.
pub record Leaves (n : ℕ) (after : After) : Type 0 where
  pub nothing : (x : Refusal) → after.answer ≡ refused x → after.output ≡ zeros n
  pub written : (r : Reports.Report) → after.answer ≡ accepted r → after.output ≡ take r.written after.output ++ zeros (n - r.written)
  pub within : (r : Reports.Report) → after.answer ≡ accepted r → r.written ≤ length after.output

module _ (n : ℕ) (g : Given) (out : g.output ≡ zeros n) where
  unchanged-leaves : (x : Refusal) → Leaves n (unchanged g x)
  unfolding unchanged
  unchanged-leaves x =
      record {
        nothing = λ y e. out;
        written = λ r e. absurd (let z : ◌≡◌ {A = ℕ} 0 1 = cc in omega arith);
        within = λ r e. absurd (let z : ◌≡◌ {A = ℕ} 0 1 = cc in omega arith);
      }

  full-leaves : (line : ℕ) → Leaves n (no_room g line)
  unfolding no_room zeros
  full-leaves line =
      record {
        nothing = λ y e. rw (out, length-replicate {A = ℕ} n 0);
        written = λ r e. absurd (let z : ◌≡◌ {A = ℕ} 0 1 = cc in omega arith);
        within = λ r e. absurd (let z : ◌≡◌ {A = ℕ} 0 1 = cc in omega arith);
      }

  module _ (ending : List ℕ) (reads : List (List ℕ)) where
    module _ (set : KmerSet) (es : List Entry) where
      abbrev bytes : List ℕ
      bytes = results set es ending reads

      abbrev fits : After
      fits =
          record {
            answer = accepted (report set es ending reads);
            output = bytes ++ replicate (length g.output - length bytes) 0;
            work = replicate (length g.work) 0;
          }

      written_is : (r : Reports.Report) → fits.answer ≡ accepted r → r.written ≡ length bytes
      unfolding report
      written_is r e = let is : report set es ending reads ≡ r = cc in ap (λ (x : Reports.Report). x.written) (sym is)

      fits-leaves : Leaves n fits
      unfolding zeros
      fits-leaves =
          record {
            nothing = λ x e. absurd (let z : ◌≡◌ {A = ℕ} 0 1 = cc in omega arith);
            written = λ r e.
                rw (written_is r e, take-append_seam bytes (replicate (length g.output - length bytes) 0), out, length-replicate {A = ℕ} n 0);
            within = λ r e. omega (arith, written_is r e, length-append bytes (replicate (length g.output - length bytes) 0));
          }

      corrected-leaves : Leaves n (corrected set es ending g reads)
      corrected-leaves = go (too_long set es ending 0 (length g.output) reads) refl
        where
          go : (t : Option ℕ) → too_long set es ending 0 (length g.output) reads ≡ t → Leaves n (corrected set es ending g reads)
          go (some line) t = rw (corrected-full set es ending g reads line t) (full-leaves line)
          go none t = rw (corrected-fits set es ending g reads t) fits-leaves

    call-leaves : (check : Check) → Leaves n (call ending reads check g)
    unfolding corrected no_room without_index
    call-leaves (some x) = rw (call-refused ending reads (some x) g x refl) (unchanged-leaves x)
    call-leaves none = go (opened g.set) refl
      where
        go : (o : Outcome KmerSet) → opened g.set ≡ o → Leaves n (call ending reads none g)
        go (refused x) o = rw (call-not-opened ending reads none g x refl o) (unchanged-leaves x)
        go (accepted set) o = on (offer_check set g.index g.counts) refl
          where
            on : (d : Check) → offer_check set g.index g.counts ≡ d → Leaves n (call ending reads none g)
            on (some x) d = rw (call-offer-wrong ending reads none g set refl o x d) (unchanged-leaves x)
            on none d = rw (call-opened ending reads none g set refl o d) (corrected-leaves (offering [] g.counts set) (entries_of g.job))

  batch-leaves : Leaves n (correct_batch g)
  unfolding correct_batch
  batch-leaves = call-leaves (10 ∷ []) (lines g.input) (given_check g or_else unless (batch_right g.input) 6)

-- A page that was empty, behind the call: its output, and the zeros that were not lent.
module _ (set job batch page₀ work : List ℕ) (a : Result Report Refused·by) (o w : List ℕ) (empty : Page [] 0 page₀) (zero-work : work ≡ zeros 65536)
    (h : Exact (correct_batch (given set [] [] job batch (take 32768 page₀) work)) a o w) (long : length o ≡ length (take 32768 page₀)) where
  abbrev g : Given
  g = given set [] [] job batch (zeros 32768) (zeros 65536)

  abbrev page : List ℕ
  page = o ++ drop 32768 page₀

  zero-output : take 32768 page₀ ≡ zeros 32768
  zero-output = ap (take 32768) empty.page ∙ take-zeros 32768 32896 (omega arith)

  lent : page ≡ o ++ zeros 128
  lent = ap (λ (x : List ℕ). o ++ drop 32768 x) empty.page ∙ ap (λ (x : List ℕ). o ++ x) (drop-zeros 32768 32896)

  exact : Exact (correct_batch g) a o w
  exact = subst (λ (x : List ℕ). Exact (correct_batch (given set [] [] job batch x (zeros 65536))) a o w) zero-output
      (subst (λ (x : List ℕ). Exact (correct_batch (given set [] [] job batch (take 32768 page₀) x)) a o w) zero-work h)

  leaves : Leaves 32768 (correct_batch g)
  leaves = batch-leaves 32768 g refl

  length-output : length o ≡ 32768
  length-output = long ∙ ap length zero-output ∙ length-zeros 32768

  abbrev lines_of : Report → List ℕ
  lines_of r = take r.written (correct_batch g).output

  module _ (r : Report) (is : a ≡ Ok r) where
    is_accepted : (correct_batch g).answer ≡ accepted (report_of r)
    is_accepted = sym exact.answer ∙ ap answer_of is

    written-fits : r.written ≤ 32768
    written-fits = omega (arith, leaves.within (report_of r) is_accepted, ap length exact.output, length-output)

    lines-page : Page (lines_of r) r.written page
    lines-page =
        let shape = exact.output ∙ leaves.written (report_of r) is_accepted in
        let total : 32768 - r.written + 128 ≡ page_length - r.written = omega (arith, written-fits) in
        record {
          bytes = omega (
            arith,
            length-append (lines_of r) (zeros (32768 - r.written)),
            ap length shape,
            length-zeros (32768 - r.written),
            written-fits,
            length-output,
          );
          fits = omega (arith, written-fits);
          page = lent ∙ ap (λ (x : List ℕ). x ++ zeros 128) shape ∙ append_assoc (lines_of r) (zeros (32768 - r.written)) (zeros 128)
              ∙ ap (λ (x : List ℕ). lines_of r ++ x) (zeros-append (32768 - r.written) 128 ∙ ap zeros total);
        }

    prints-counts : printed_for (correct_batch g) ≡ lines_of r ++ counts_line (report_of r)
    unfolding printed_for
    prints-counts = rw (printed_for, is_accepted)

  module _ (x : Refused·by) (is : a ≡ Err x) where
    is-refused : (correct_batch g).answer ≡ refused (refusal_of x)
    is-refused = sym exact.answer ∙ ap answer_of is

    empty-page : Page [] 0 page
    empty-page =
        let all : zeros 32768 ++ zeros 128 ≡ zeros page_length = zeros-append 32768 128 in
        record {
          bytes = refl;
          fits = omega arith;
          page = lent ∙ ap (λ (y : List ℕ). y ++ zeros 128) (exact.output ∙ leaves.nothing (refusal_of x) is-refused) ∙ all;
        }

    prints-refusal : printed_for (correct_batch g) ≡ refusal_line (refusal_of x)
    unfolding printed_for
    prints-refusal = rw (printed_for, is-refused)

  pub answered : Answered (correct_batch g) a page
  answered = go a refl
    where
      go : (b : Result Report Refused·by) → a ≡ b → Answered (correct_batch g) b page
      go (Ok r) is = (lines-page r is, written-fits r is, prints-counts r is)
      go (Err x) is = (empty-page x is, prints-refusal x is)

-- ---- the counts, or the refusal, put behind it

module _ (after : After) (page : List ℕ) where
  module _ (r : Report) (h : Answered after (Ok r) page) where
    pub counts-fit : r.written + 128 ≤ length page
    counts-fit = omega (arith, length-page _ r.written page h.0, h.1)

    pub report-printed : {n : ℕ} {page' : List ℕ} → Puts page r.written (counts_line (report_of r)) n page' → Page (printed_for after) n page'
    report-printed put = rw h.2 (put _ h.0)

  module _ (x : Refused·by) (h : Answered after (Err x) page) where
    pub refusal-fits : 128 ≤ length page
    refusal-fits = omega (arith, length-page [] 0 page h.0)

    pub refusal-printed : {n : ℕ} {page' : List ℕ} → Puts page 0 (refusal_line (refusal_of x)) n page' → Page (printed_for after) n page'
    refusal-printed put = rw h.1 (put [] h.0)
