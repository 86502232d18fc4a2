-- The call up to its opened set, by the rules.
use Prim.Native.Nat.{ℕ}
use mathlib.Core.Path.{◌≡◌, refl, sym, subst}
use mathlib.Core.Bool.{true}
use mathlib.Core.Option.{none, some}
use mathlib.Core.Logic.{⊎_elim}
use mathlib.Core.List.{List, []}
use lib.ListN.{length, replicate}
use Rattle.rules.specs.Refusal.{Check, accepted, ◌or_else◌, unless}
use Rattle.rules.specs.Set.{set_of, offering, opened}
use Rattle.rules.specs.Job.{entries_of, lines}
use Rattle.rules.specs.Index.{index_check}
use Rattle.rules.specs.Calls.{batch_right, offer_check}
use Rattle.rules_needs.specs.Needs as goal
use Rattle.rules_needs.specs.Needs.{needs_check, asked_check, declined}
use Rattle.rules_needs.proofs.Needs.{needed-any, needs-right, needs-checked, needs-not-opened, needs-offer-wrong, needs-opened, needs-demand3}
use Rattle.refusal.specs.declared.Refusal.{Refusal}
use Rattle.refusal.specs.Refusal.{refusal_of}
use Rattle.std.specs.Prelude.{Result, Ok, Err}
use Rattle.needs.specs.declared.Need.{Need}
use Rattle.set.specs.Counted.{set_with}
use Rattle.offered.specs.Offered.{RefusedBy}
use Rattle.needs.specs.Needs.{needs_of, Exact, Ceiling, Bookable, counted}

-- What checks 1 to 5 leave.
pub bookable : (batch : ℕ) (job : List ℕ) (work : ℕ) → needs_check batch job work ≡ none → Bookable job batch work
bookable batch job work h = let p = needs-right batch job work h in record { input = p.0; one = p.1; room = p.3 }

module _ (a : goal.Asked) where
  refused-exact : (r : Refusal) → goal.needs a ≡ declined a (refusal_of r) → Exact (goal.needs a) (Err r) a.work
  unfolding declined
  refused-exact r e = rw e (record { answer = refl; zeroed = refl })

  -- Demand 3 follows from the answer.
  pub ceiling : (r : Result Need Refusal) {w : List ℕ} → Exact (goal.needs a) r w
      → Ceiling (offering a.index a.counts (set_of a.set)) (entries_of a.job) (lines a.batch) r
  ceiling (Ok n) x = needs-demand3 a (needs_of n) (sym x.answer)
  ceiling (Err r) x = tt

  abbrev checks : Check
  checks = needs_check (length a.batch) a.job (length a.work)

  pub checked_refused : (r : Refusal) → checks ≡ some (refusal_of r) → Exact (goal.needs a) (Err r) a.work
  unfolding asked_check ◌or_else◌
  checked_refused r e = refused-exact r (needs-checked a (refusal_of r) (rw e))

  module _ (e : checks ≡ none) where
    pub not_right : (r : Refusal) → some (refusal_of r) ≡ unless (batch_right a.batch) 6 → Exact (goal.needs a) (Err r) a.work
    unfolding asked_check ◌or_else◌
    not_right r six = refused-exact r (needs-checked a (refusal_of r) (rw e (sym six)))

    module _ (b : batch_right a.batch ≡ true) where
      passed-six : asked_check a ≡ none
      unfolding asked_check ◌or_else◌ unless
      passed-six = rw (e, b)

      pub not_opened : (r : Refusal) → RefusedBy a.set a.index a.counts r → Exact (goal.needs a) (Err r) a.work
      not_opened r =
          ⊎_elim (λ o. refused-exact r (needs-not-opened a (refusal_of r) passed-six o))
          (λ o. refused-exact r (needs-offer-wrong a (set_of a.set) passed-six o.0 (refusal_of r) o.1))

      -- The numbers are the same without index and counts.
      pub counted-exact : opened a.set ≡ accepted (set_of a.set) → offer_check (set_of a.set) a.index a.counts ≡ none → (r : Result Need Refusal) {w : List ℕ}
          → Exact (counted (set_with a.set a.counts) a.job a.batch a.work) r w → Exact (goal.needs a) r w
      unfolding index_check
      counted-exact o p r {w} x =
          rw (needs-opened a (set_of a.set) passed-six o p)
          (subst (λ (n : goal.Needs). Exact (record { answer = accepted n; work = replicate (length a.work) 0 }) r w)
          (needed-any a.set (set_of a.set) o [] a.counts refl (entries_of a.job) (lines a.batch)) x)
