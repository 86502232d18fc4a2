-- A call without index and counts: only the set can refuse it.
use Prim.Native.Nat.{ℕ}
use mathlib.Core.Path.{◌≡◌}
use mathlib.Core.Logic.{inl, inr}
use mathlib.Core.Option.{none, some}
use mathlib.Core.List.{List, []}
use Rattle.rules.specs.Refusal as Rules
use Rattle.rules.specs.Refusal.{refused, ◌or_else◌}
use Rattle.rules.specs.Set.{opened}
use Rattle.rules.specs.Index.{index_check}
use Rattle.rules.specs.Calls.{counts_check, offer_check}
use Rattle.refusal.specs.declared.Refusal.{Refusal}
use Rattle.refusal.specs.Refusal.{refusal_of}
use Rattle.offered.specs.Offered.{RefusedBy}

pub set-refused : (bytes : List ℕ) (r : Refusal) → RefusedBy bytes [] [] r → opened bytes ≡ refused (refusal_of r)
unfolding offer_check index_check counts_check ◌or_else◌
set-refused bytes r (inl o) = o
set-refused bytes r (inr o) = absurd (let e : ◌≡◌ {A = Rules.Check} none (some (refusal_of r)) = o.1 in cc)
