-- A call up to its opened set.
use Prim.Native.Nat.{ℕ}
use mathlib.Core.Path.{◌≡◌, sym, ap, subst}
use mathlib.Core.Option.{none, some}
use mathlib.Core.Logic.{⊎_elim}
use mathlib.Core.List.{List, [], ◌∷◌}
use lib.ListN.{length}
use Rattle.rules.specs.Refusal.{Check, accepted, ◌or_else◌, unless}
use Rattle.rules.specs.Set.{set_of, offering, opened}
use Rattle.rules.specs.Job.{entries_of, Confirmed, lines}
use Rattle.rules.specs.Calls.{Given, After, without_index, unchanged, input_check, batch_right, given_check, offer_check, call, corrected, correct_read, correct_batch}
use Rattle.refusal.specs.declared.Refusal.{Refusal}
use Rattle.std.specs.Prelude.{Result, Err}
use Rattle.report.specs.declared.Report.{Report}
use Rattle.report.specs.Answer.{Exact, Ceiling}
use Rattle.refusal.specs.Refusal.{refusal_of}
use Rattle.offered.specs.Offered.{RefusedBy}
use Rattle.rules_laws.proofs.Opened.{passed-15}
use Rattle.rules_laws.proofs.Calls.{call-refused, call-not-opened, call-offer-wrong, call-opened}
use Rattle.report.proofs.Exact.{refused-exact, under-ceiling}

-- ---- the two calls, by what the checks of the input say

module _ (g : Given) where
  abbrev checks : Check
  checks = input_check (length g.input) g.job (length g.output) (length g.work)

  -- 15 and 16, of a set that opens.
  abbrev offer-check : Check
  offer-check = offer_check (set_of g.set) g.index g.counts

  abbrev ceiling : List (List ℕ) → Result Report Refusal → Type 0
  ceiling = Ceiling (offering g.index g.counts (set_of g.set)) (entries_of g.job)

  -- What a call whose set opened does with its reads, an ending behind each.
  abbrev with-set : List ℕ → List (List ℕ) → After
  with-set ending reads = corrected (offering [] g.counts (set_of g.set)) (entries_of g.job) ending (without_index g) reads

  module _ (ending : List ℕ) (reads : List (List ℕ)) (check : Check) (e : check ≡ none) where
    not_opened : (r : Refusal) → RefusedBy g.set g.index g.counts r → call ending reads check g ≡ unchanged g (refusal_of r)
    not_opened r =
        ⊎_elim (λ o. call-not-opened ending reads check g (refusal_of r) e o)
        (λ o. call-offer-wrong ending reads check g (set_of g.set) e o.0 (refusal_of r) o.1)

    call-corrected : opened g.set ≡ accepted (set_of g.set) → offer-check ≡ none → Confirmed (entries_of g.job)
        → (r : Result Report Refusal) {o w : List ℕ} → Exact (with-set ending reads) r o w → Exact (call ending reads check g) r o w × ceiling reads r
    call-corrected opens d low r {o} {w} h =
        let i = passed-15 (set_of g.set) g.index g.counts d in (
          subst (λ (a : After). Exact a r o w) (sym (call-opened ending reads check g (set_of g.set) e opens d)) h,
          under-ceiling (set_of g.set) (entries_of g.job) ending (without_index g) reads g.set opens g.index g.counts i low r h,
        )

  module _ (r : Refusal) where
    pub read-refused : checks ≡ some (refusal_of r) → Exact (correct_read g) (Err r) g.output g.work
    unfolding correct_read given_check
    read-refused e = refused-exact g (correct_read g) r (call-refused [] (g.input ∷ []) checks g (refusal_of r) e)

    pub read-not-opened : checks ≡ none → RefusedBy g.set g.index g.counts r → Exact (correct_read g) (Err r) g.output g.work
    unfolding correct_read given_check
    read-not-opened e o = refused-exact g (correct_read g) r (not_opened [] (g.input ∷ []) checks e r o)

  pub read-corrected : (r : Result Report Refusal) {o w : List ℕ} → checks ≡ none → opened g.set ≡ accepted (set_of g.set) → offer-check ≡ none
      → Confirmed (entries_of g.job) → Exact (with-set [] (g.input ∷ [])) r o w → Exact (correct_read g) r o w × ceiling (g.input ∷ []) r
  unfolding correct_read given_check
  read-corrected r e opens d low h = call-corrected [] (g.input ∷ []) checks e opens d low r h

  -- 6 comes after 5.
  abbrev six : Check
  six = unless (batch_right g.input) 6

  module _ (r : Refusal) where
    pub batch-refused : checks ≡ some (refusal_of r) → Exact (correct_batch g) (Err r) g.output g.work
    unfolding correct_batch given_check ◌or_else◌
    batch-refused e =
        refused-exact g (correct_batch g) r
        (call-refused (10 ∷ []) (lines g.input) (checks or_else six) g (refusal_of r) (ap (λ (c : Check). c or_else six) e))

  module _ (e : checks ≡ none) where
    pub batch-not-right : (r : Refusal) → some (refusal_of r) ≡ six → Exact (correct_batch g) (Err r) g.output g.work
    unfolding correct_batch given_check ◌or_else◌
    batch-not-right r b =
        refused-exact g (correct_batch g) r
        (call-refused (10 ∷ []) (lines g.input) (checks or_else six) g (refusal_of r) (rw e (sym b)))

    module _ (b : six ≡ none) where
      passed : (checks or_else six) ≡ none
      unfolding ◌or_else◌
      passed = rw e b

      pub batch-not-opened : (r : Refusal) → RefusedBy g.set g.index g.counts r → Exact (correct_batch g) (Err r) g.output g.work
      unfolding correct_batch given_check
      batch-not-opened r o = refused-exact g (correct_batch g) r (not_opened (10 ∷ []) (lines g.input) (checks or_else six) passed r o)

      pub batch-corrected : (r : Result Report Refusal) {o w : List ℕ} → opened g.set ≡ accepted (set_of g.set) → offer-check ≡ none
          → Confirmed (entries_of g.job) → Exact (with-set (10 ∷ []) (lines g.input)) r o w → Exact (correct_batch g) r o w × ceiling (lines g.input) r
      unfolding correct_batch given_check
      batch-corrected r opens d low h = call-corrected (10 ∷ []) (lines g.input) (checks or_else six) passed opens d low r h
