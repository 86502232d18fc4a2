-- A single read is a list of one read, with nothing behind it.
use Prim.Native.Nat.{ℕ, ◌^◌, ◌≤◌, ◌<◌}
use native.Mathlib.Omega.{arith}
use mathlib.Core.Path.{◌≡◌, sym, ap, ◌∙◌}
use mathlib.Core.Bool.{Bool}
use mathlib.Core.Option.{none, some}
use mathlib.Core.List.{List, [], ◌∷◌, ◌++◌, append-nil}
use lib.ListN.{length, take, drop}
use lib.Dec.{ltb}
use lib.Seq.{length_front}
use Rattle.rules.specs.Set.{KmerSet, offering}
use Rattle.set.specs.Counted.{set_with}
use Rattle.rules.specs.Job.{Entry, entries_of, result}
use Rattle.rules.specs.Counts.{sum, passes_of, all_passes, turns, lookups, attempts, corrections, support_over, w_of}
use Rattle.rules.specs.Calls.{longest, too_long, results, corrected}
use Rattle.turn.specs.declared.Counts.{Counts}
use Rattle.turn.specs.declared.Full.{Full}
use Rattle.std.specs.Prelude.{Result, Ok, Err}
use Rattle.refusal.specs.declared.Refusal.{Refusal}
use Rattle.refusal.specs.declared.Refusal.TheVariants.{NoRoom}
use Rattle.report.specs.declared.Report.{Report}
use Rattle.through.specs.Through.{through, ThroughIs}
use Rattle.report.specs.Answer.{given, Exact}
use Rattle.input.specs.Input.{Within}
use Rattle.report.specs.Ending.{Cleared, report_on}
use Rattle.rules_laws.proofs.Job.{entries_of-length}
use Rattle.rules_laws.proofs.Calls.{too-long-here, too-long-later}
use Rattle.report.proofs.Exact.{through_all, full-exact, fits-exact}

module _ (set : KmerSet) (es : List Entry) (read : List ℕ) where
  passes-are : all_passes set es (read ∷ []) ≡ passes_of set es read
  unfolding all_passes
  passes-are = append-nil (passes_of set es read)

  pub single-all : through_all set es [] (read ∷ []) ≡ through set es read
  unfolding through_all through results
  single-all = λ i. record {
    bytes = append-nil (result set es read) i;
    turns = sum (turns set) (passes-are i);
    lookups = sum (lookups set) (passes-are i);
    attempts = sum (attempts set) (passes-are i);
    accepted = sum (corrections set) (passes-are i);
    support = support_over set (passes-are i);
    bases = sum (w_of set) (passes-are i);
  }

  pub single-full : (room : ℕ) → room < longest set es read → too_long set es [] 0 room (read ∷ []) ≡ some 0
  single-full room h = too-long-here set es [] 0 room read [] (omega arith)

  pub single-fits : (room : ℕ) → longest set es read ≤ room → too_long set es [] 0 room (read ∷ []) ≡ none
  unfolding too_long
  single-fits room h = too-long-later set es [] 0 room read [] (omega arith)

-- What becomes of a read's way through the entries: o₁ is the output after it, and part what the lent part of work holds.
module _ (bytes counts job read output o₁ : List ℕ) (work part : List ℕ) (same : length o₁ ≡ length output) (same_part : length part ≡ length (take (length output) work)) where
  abbrev set : KmerSet
  set = set_with bytes counts

  abbrev es : List Entry
  es = entries_of job

  abbrev exactly : Result Report Refusal → List ℕ → List ℕ → Type 0
  exactly = Exact (corrected set es [] (given bytes [] counts job read output work) (read ∷ []))

  abbrev w₁ : List ℕ
  w₁ = part ++ drop (length output) work

  work-same : length w₁ ≡ length work
  work-same = length_front work part (length output) same_part

  pub single-no-room : (full : Full) → ThroughIs set es read (length output) o₁ (Err full) → {r : Refusal} {o w : List ℕ}
      → (r ≡ NoRoom 0) × Cleared 0 o₁ (length w₁) o w → exactly (Err r) o w
  single-no-room full is h =
      full-exact set es [] (given bytes [] counts job read output work) (read ∷ []) 0
      (single-full set es read (length output) is)
      o₁ same (ap (λ (r : Refusal). Err r) h.0) (rw work-same at h.1)

  module _ (done : Counts) (is : ThroughIs set es read (length output) o₁ (Ok done)) where
    pub single-small : Within job (length read) (length output) (length work) → (done.written ≤ length o₁) × (done.accepted < 2 ^ 54)
    single-small h = (is.1, omega (arith, is.3.accepted, entries_of-length job, h.entries))

    pub single-accepted : (offered : Bool) {r : Report} {o w : List ℕ} → offered ≡ ltb 0 (length counts)
        → (r ≡ report_on offered done) × Cleared done.written o₁ (length w₁) o w → exactly (Ok r) o w
    unfolding offering
    single-accepted offered f h =
        fits-exact set es [] (given bytes [] counts job read output work) (read ∷ []) done offered o₁ f
        (single-fits set es read (length output) is.2)
        (is.0 ∙ sym (single-all set es read)) is.1 same (ap (λ (r : Report). Ok r) h.0) (rw work-same at h.1)
