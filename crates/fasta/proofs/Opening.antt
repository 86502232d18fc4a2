-- The call up to its opened set.
use Prim.Native.Nat.{ℕ}
use mathlib.Core.Path.{◌≡◌, sym, subst}
use mathlib.Core.Bool.{true, false}
use mathlib.Core.Option.{none, some}
use mathlib.Core.Logic.{⊎_elim}
use mathlib.Core.List.{List, []}
use lib.ListN.{length}
use Rattle.rules.specs.Refusal.{Check, accepted, ◌or_else◌, unless, at_place}
use Rattle.rules.specs.Set.{set_of, offering, opened}
use Rattle.rules.specs.Job.{entries_of, lines}
use Rattle.rules.specs.Calls.{Given, After, without_index, input_check, given_check, offer_check}
use Rattle.rules_laws.proofs.Opened.{passed, unless-passed}
use Rattle.rules_fasta.specs.Fasta.{records, reads_of, file_right, first_wrong, fasta_check, corrected_records, correct_fasta}
use Rattle.rules_fasta.specs.Shares.{given_set}
use Rattle.rules_fasta.proofs.Calls.{fasta-checked, fasta-not-opened, fasta-offer-wrong, fasta-opened, fasta-demand3}
use Rattle.refusal.specs.declared.Refusal.{Refusal}
use Rattle.refusal.specs.Refusal.{refusal_of}
use Rattle.offered.specs.Offered.{RefusedBy}
use Rattle.std.specs.Prelude.{Result, Ok, Err}
use Rattle.report.specs.declared.Report.{Report}
use Rattle.report.specs.Answer.{report_of, Exact, Ceiling}
use Rattle.report.proofs.Exact.{refused-exact}
use Rattle.records.specs.Records.{file_check}

-- 6 lets pass what 6 and 18 do.
pub file-right : (file : List ℕ) → file_check file ≡ none → file_right file ≡ true
file-right file f = unless-passed (file_right file) 6 (passed (unless (file_right file) 6) (at_place 18 (first_wrong false 0 (lines file))) f).0

module _ (g : Given) where
  abbrev checks : Check
  checks = input_check (length g.input) g.job (length g.output) (length g.work)

  -- 15 and 16, of a set that opens.
  abbrev offer-check : Check
  offer-check = offer_check (set_of g.set) g.index g.counts

  module _ (r : Refusal) where
    pub fasta-refused : checks ≡ some (refusal_of r) → Exact (correct_fasta g) (Err r) g.output g.work
    unfolding fasta_check given_check ◌or_else◌
    fasta-refused e = refused-exact g (correct_fasta g) r (fasta-checked g (refusal_of r) (rw e))

    pub file-refused : checks ≡ none → file_check g.input ≡ some (refusal_of r) → Exact (correct_fasta g) (Err r) g.output g.work
    unfolding fasta_check given_check ◌or_else◌
    file-refused e f = refused-exact g (correct_fasta g) r (fasta-checked g (refusal_of r) (rw e f))

  module _ (e : checks ≡ none) (f : file_check g.input ≡ none) where
    passed-all : fasta_check g ≡ none
    unfolding fasta_check given_check ◌or_else◌
    passed-all = rw e f

    pub fasta-not-offered : (r : Refusal) → RefusedBy g.set g.index g.counts r → Exact (correct_fasta g) (Err r) g.output g.work
    fasta-not-offered r o =
        refused-exact g (correct_fasta g) r
        (⊎_elim (λ n. fasta-not-opened g (refusal_of r) passed-all n) (λ n. fasta-offer-wrong g (set_of g.set) passed-all n.0 (refusal_of r) n.1) o)

    pub fasta-corrected : opened g.set ≡ accepted (set_of g.set) → offer-check ≡ none
        → (r : Result Report Refusal) {o w : List ℕ} → Exact (corrected_records (offering [] g.counts (set_of g.set)) (entries_of g.job) (without_index g) (records g.input)) r o w
        → Exact (correct_fasta g) r o w
    fasta-corrected opens d r {o} {w} h =
        subst (λ (a : After). Exact a r o w) (sym (fasta-opened g (set_of g.set) passed-all opens d)) h

  -- Demand 3, of an exact answer.
  pub fasta-ceiling : (r : Result Report Refusal) {o w : List ℕ} → Exact (correct_fasta g) r o w
      → Ceiling (offering g.index g.counts (set_of g.set)) (entries_of g.job) (reads_of (records g.input)) r
  unfolding given_set
  fasta-ceiling (Err r) h = tt
  fasta-ceiling (Ok r) h = fasta-demand3 g (report_of r) (sym h.answer)
