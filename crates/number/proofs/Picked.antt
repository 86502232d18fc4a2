-- Laws of a pick.
use Prim.Native.Nat.{ℕ}
use mathlib.Core.Path.{◌≡◌}
use mathlib.Core.Bool.{Bool, true, false, cond}

-- What holds of both holds of the one that is picked.
pub picked : (P : ℕ → Type 0) (r : ℕ) (b : Bool) (x y : ℕ) → r ≡ cond b x y → P x → P y → P r
picked P r true x y e p q = rw e p
picked P r false x y e p q = rw e q
