-- When a walk met the whole of the partner's read.
use Rattle.std.specs.Prelude.{ℕ, Bool, List, [], ◌∷◌}
use mathlib.Core.Bool.{true, false}
use mathlib.Core.Option.{Option, none, some}

-- All bases were the partner's, and none of his is left.
unfoldable pub is_done : Option (List ℕ) → Bool
is_done none = false
is_done (some []) = true
is_done (some (b ∷ l)) = false
