-- A batch line by line: what is done and what is left.
use Prim.Native.Nat.{ℕ, ◌+◌, ◌*◌, ◌-◌, ◌^◌, ◌≤◌, ◌<◌}
use native.Mathlib.Omega.{arith}
use native.Mathlib.Nat.{add-zero, zero-add, add_assoc, sub-zero}
use native.Mathlib.Numerals.{add-one}
use mathlib.Core.Path.{◌≡◌, refl, sym, ap, ap₂, ◌∙◌}
use mathlib.Core.Bool.{Bool, true}
use mathlib.Core.Option.{none, some}
use mathlib.Core.List.{List, [], ◌∷◌, ◌++◌, append-nil, append_assoc}
use lib.ListN.{length, take, drop, length-append, length-drop}
use lib.Dec.{ltb}
use lib.Seq.{length-take-le, take-add}
use Rattle.rules.specs.Set.{KmerSet, offering}
use Rattle.rules.specs.Driver.{weaker}
use Rattle.rules.specs.Job.{Entry, result, entries_of, lines}
use Rattle.rules.specs.Counts.{sum, all_passes, turns, lookups, attempts, corrections, support_over, w_of}
use Rattle.rules.specs.Calls.{Given, max_methods, max_lines, batch_right, too_long, results, corrected}
use Rattle.turn.specs.declared.Counts.{Counts}
use Rattle.turn.specs.declared.Full.{Full}
use Rattle.std.specs.Prelude.{Option as Told, None, Result, Ok, Err}
use Rattle.refusal.specs.declared.Refusal.TheVariants.{NoRoom}
use Rattle.refusal.specs.declared.Refusal.{Refusal}
use Rattle.report.specs.declared.Report.{Report}
use Rattle.report.specs.Answer.{Exact}
use Rattle.correct.specs.Pass.{Tally, tally_of, Small}
use Rattle.through.specs.Through.{through}
use Rattle.turn.specs.Turn.{Fits, summed}
use Rattle.lines.specs.Lines.{line_through, LineIs}
use Rattle.report.specs.Ending.{Cleared, report_on}
use Rattle.input.specs.Input.{Within}
use Rattle.rules_laws.proofs.Job.{entries_of-length}
use Rattle.report.proofs.Within.{few-lines}
use Rattle.report.proofs.Exact.{through_all, full-exact, fits-exact}
use Rattle.rules_laws.proofs.Support.{weaker-none, weaker-assoc}
use Rattle.support.specs.Support.{support_of}
use Rattle.set.specs.Counted.{set_with}
use Rattle.rules_laws.proofs.Calls.{sum_first, support-first, too-long-here, too-long-later}

-- What q writes and counts, behind p.
abbrev pub behind : Tally → Tally → Tally
behind p q =
    record {
      bytes = p.bytes ++ q.bytes;
      turns = p.turns + q.turns;
      lookups = p.lookups + q.lookups;
      attempts = p.attempts + q.attempts;
      accepted = p.accepted + q.accepted;
      support = weaker p.support q.support;
      bases = p.bases + q.bases;
    }

pub behind-assoc : (p q r : Tally) → behind (behind p q) r ≡ behind p (behind q r)
behind-assoc p q r = λ i. record {
  bytes = append_assoc p.bytes q.bytes r.bytes i;
  turns = add_assoc p.turns q.turns r.turns i;
  lookups = add_assoc p.lookups q.lookups r.lookups i;
  attempts = add_assoc p.attempts q.attempts r.attempts i;
  accepted = add_assoc p.accepted q.accepted r.accepted i;
  support = weaker-assoc p.support q.support r.support i;
  bases = add_assoc p.bases q.bases r.bases i;
}

-- s is the support of a and b together.
abbrev pub Weaker : Counts → Counts → Told ℕ → Type 0
Weaker a b s = support_of s ≡ weaker (support_of a.support) (support_of b.support)

abbrev pub nothing : Counts
nothing = record { written = 0; turns = 0; lookups = 0; attempts = 0; accepted = 0; support = None; bases = 0 }

-- What `Counts::default()` says.
pub default-is : (n : Counts)
    → (n.written ≡ 0) × ((n.turns ≡ 0) × ((n.lookups ≡ 0) × ((n.attempts ≡ 0) × ((n.accepted ≡ 0) × ((n.support ≡ None) × (n.bases ≡ 0))))))
    → n ≡ nothing
default-is n z = λ i. record {
  written = z.0 i;
  turns = z.1.0 i;
  lookups = z.1.1.0 i;
  attempts = z.1.1.1.0 i;
  accepted = z.1.1.1.1.0 i;
  support = z.1.1.1.1.1.0 i;
  bases = z.1.1.1.1.1.1 i;
}

module _ (set : KmerSet) (es : List Entry) where
  abbrev ending : List ℕ
  ending = 10 ∷ []

  abbrev all : List (List ℕ) → Tally
  all = through_all set es ending

  all_first : (read : List ℕ) (reads : List (List ℕ)) → behind (line_through set es read) (all reads) ≡ all (read ∷ reads)
  unfolding through_all through results
  all_first read reads = λ i. record {
    bytes = append_assoc (result set es read) ending (results set es ending reads) i;
    turns = sym (sum_first set es (turns set) read reads) i;
    lookups = sym (sum_first set es (lookups set) read reads) i;
    attempts = sym (sum_first set es (attempts set) read reads) i;
    accepted = sym (sum_first set es (corrections set) read reads) i;
    support = sym (support-first set es read reads) i;
    bases = sym (sum_first set es (w_of set) read reads) i;
  }

  all_none : (p : Tally) → behind p (all []) ≡ p
  unfolding through_all results all_passes sum support_over
  all_none p = λ i. record {
    bytes = append-nil p.bytes i;
    turns = add-zero p.turns i;
    lookups = add-zero p.lookups i;
    attempts = add-zero p.attempts i;
    accepted = add-zero p.accepted i;
    support = weaker-none p.support i;
    bases = add-zero p.bases i;
  }

  -- `line` of the reads are done, and the rest is left; o is the output, which has room for `room` bytes.
  pub record Going (room : ℕ) (reads rest : List (List ℕ)) (line : ℕ) (done : Counts) (o : List ℕ) : Type 0 where
    pub lines : line + length rest ≡ length reads
    pub length_is : length o ≡ room
    pub written : done.written ≤ length o
    pub left : too_long set es ending 0 room reads ≡ too_long set es ending line (room - done.written) rest
    pub whole : behind (tally_of done o) (all rest) ≡ all reads
    pub small : Small (max_methods * line) (tally_of done o)

  pub begin : (reads : List (List ℕ)) (o : List ℕ) → Going (length o) reads reads 0 nothing o
  unfolding weaker
  begin reads o =
      record {
        lines = zero-add (length reads);
        length_is = refl;
        written = omega arith;
        left = ap (λ (n : ℕ). too_long set es ending 0 n reads) (sym (sub-zero (length o)));
        whole = λ i. record {
          bytes = (all reads).bytes;
          turns = zero-add (all reads).turns i;
          lookups = zero-add (all reads).lookups i;
          attempts = zero-add (all reads).attempts i;
          accepted = zero-add (all reads).accepted i;
          support = (all reads).support;
          bases = zero-add (all reads).bases i;
        };
        small = record { turns = omega arith; lookups = omega arith; attempts = omega arith; accepted = omega arith; bases = omega arith };
      }

  module _ (room : ℕ) (reads : List (List ℕ)) (read : List ℕ) (rest : List (List ℕ)) (line : ℕ) (done : Counts) (o o' : List ℕ)
      (g : Going room reads (read ∷ rest) line done o) where
    line-full : (full : Full) → LineIs set es read done.written o o' (Err full) → too_long set es ending 0 room reads ≡ some line
    line-full full h = g.left ∙ too-long-here set es ending line (room - done.written) read rest (omega (arith, g.length_is))

    -- A line more.
    line-bytes : (r : Counts) (s : Told ℕ) → Weaker done r s → LineIs set es read done.written o o' (Ok r) → length o' ≡ length o
        → tally_of (summed done r s) o' ≡ behind (tally_of done o) (line_through set es read)
    line-bytes r s v h same =
        let e = h.0 in
        λ i. record {
          bytes = (take-add done.written r.written o' ∙ ap₂ (λ (a b : List ℕ). a ++ b) h.1 (ap (λ (p : Tally). p.bytes) e)) i;
          turns = done.turns + (e i).turns;
          lookups = done.lookups + (e i).lookups;
          attempts = done.attempts + (e i).attempts;
          accepted = done.accepted + (e i).accepted;
          support = (v ∙ ap (λ (p : Tally). weaker (support_of done.support) p.support) e) i;
          bases = done.bases + (e i).bases;
        }

    line-done : (r : Counts) (s : Told ℕ) → Weaker done r s → length es ≤ max_methods
        → LineIs set es read done.written o o' (Ok r) → length o' ≡ length o
        → Going room reads rest (line + 1) (summed done r s) o'
    unfolding through
    line-done r s v few h same =
        let w = r.written in
        let bytes : take w (drop done.written o') ≡ result set es read ++ ending = ap (λ (p : Tally). p.bytes) h.0 in
        let w-is : w ≡ length (result set es read) + 1 =
        sym (length-take-le w (drop done.written o') (omega (arith, length-drop done.written o', h.2)))
        ∙ ap length bytes ∙ length-append (result set es read) ending in
        let left_is : room - done.written - (length (result set es read) + 1) ≡ room - (done.written + w) = omega arith in
        let more = h.4 in
        let t = g.small in
        record {
          lines = omega (arith, g.lines);
          length_is = same ∙ g.length_is;
          written = omega (arith, h.2);
          left = g.left ∙ too-long-later set es ending line (room - done.written) read rest (omega (arith, h.3, g.length_is))
              ∙ ap₂ (λ (i n : ℕ). too_long set es ending i n rest) (sym (add-one line)) left_is;
          whole = ap (λ (p : Tally). behind p (all rest)) (line-bytes r s v h same)
              ∙ behind-assoc (tally_of done o) (line_through set es read) (all rest)
              ∙ ap (behind (tally_of done o)) (all_first read rest)
              ∙ g.whole;
          small = record {
            turns = omega (arith, more.turns, t.turns, few);
            lookups = omega (arith, more.lookups, t.lookups, few);
            attempts = omega (arith, more.attempts, t.attempts, few);
            accepted = omega (arith, more.accepted, t.accepted, few);
            bases = omega (arith, more.bases, t.bases, few);
          };
        }

  module _ (room : ℕ) (reads : List (List ℕ)) (line : ℕ) (done : Counts) (o : List ℕ) (g : Going room reads [] line done o) where
    all_fit : too_long set es ending 0 room reads ≡ none
    unfolding too_long
    all_fit = g.left

    all_done : tally_of done o ≡ all reads
    all_done = sym (all_none (tally_of done o)) ∙ g.whole

-- ---- the call's batch

module _ (g : Given) where
  abbrev set : KmerSet
  set = set_with g.set g.counts

  abbrev es : List Entry
  es = entries_of g.job

  abbrev pub going : List (List ℕ) → ℕ → Counts → List ℕ → Type 0
  going = Going set es (length g.output) (lines g.input)

  abbrev pub checked : Type 0
  checked = Within g.job (length g.input) (length g.output) (length g.work)

  abbrev exactly : Result Report Refusal → List ℕ → List ℕ → Type 0
  exactly = Exact (corrected set es (10 ∷ []) g (lines g.input))

  module _ (l : List ℕ) (rest : List (List ℕ)) (line : ℕ) (done : Counts) (o o' : List ℕ) (i : going (l ∷ rest) line done o) (same : length o' ≡ length o) where
    pub batch-no-room : (full : Full) → LineIs set es l done.written o o' (Err full) → (w : List ℕ) {r : Refusal} {o'' w'' : List ℕ}
        → length w ≡ length g.work → (r ≡ NoRoom line) × Cleared 0 o' (length w) o'' w'' → exactly (Err r) o'' w''
    batch-no-room full h w same-work n =
        full-exact set es (10 ∷ []) g (lines g.input) line
        (line-full set es (length g.output) (lines g.input) l rest line done o o' i full h)
        o' (same ∙ i.length_is) (ap (λ (r : Refusal). Err r) n.0) (rw same-work at n.1)

    pub batch-next : (r : Counts) → LineIs set es l done.written o o' (Ok r) → (s : Told ℕ) → Weaker done r s → checked
        → going rest (line + 1) (summed done r s) o'
    batch-next r h s v k =
        line-done set es (length g.output) (lines g.input) l rest line done o o' i
        r s v (omega (arith, entries_of-length g.job, k.entries)) h same

  module _ (rest : List (List ℕ)) (line : ℕ) (done : Counts) (o : List ℕ) (i : going rest line done o) (k : checked) (b : batch_right g.input ≡ true) where
    batch-few : line ≤ max_lines
    batch-few = omega (arith, i.lines, few-lines g.input b)

    pub batch-small : (done.written ≤ length o) × (done.accepted < 2 ^ 54)
    batch-small = (i.written, omega (arith, i.small.accepted, batch-few))

  pub batch-fits : (rest : List (List ℕ)) (line : ℕ) (x y : Counts) (s : Told ℕ) (o : List ℕ) → going rest line (summed x y s) o → checked → batch_right g.input ≡ true → Fits x y
  batch-fits rest line x y s o i k b =
      let few = batch-few rest line (summed x y s) o i k b in
      let l = i.small in
      record {
        written = omega (arith, i.written, i.length_is, k.output);
        turns = omega (arith, l.turns);
        lookups = omega (arith, l.lookups);
        attempts = omega (arith, l.attempts);
        accepted = omega (arith, l.accepted);
        bases = omega (arith, l.bases);
      }

  pub batch-accepted : (rest : List (List ℕ)) (line : ℕ) (done : Counts) (o w : List ℕ) (offered : Bool) {r : Report} {o' w' : List ℕ} → going rest line done o
      → rest ≡ [] → length w ≡ length g.work → offered ≡ ltb 0 (length g.counts)
      → (r ≡ report_on offered done) × Cleared done.written o (length w) o' w' → exactly (Ok r) o' w'
  unfolding offering
  batch-accepted rest line done o w offered i over same f a =
      let last : Going set es (length g.output) (lines g.input) [] line done o = rw over at i in
      fits-exact set es (10 ∷ []) g (lines g.input) done offered o f
      (all_fit set es (length g.output) (lines g.input) line done o last)
      (all_done set es (length g.output) (lines g.input) line done o last)
      i.written i.length_is (ap (λ (r : Report). Ok r) a.0) (rw same at a.1)
