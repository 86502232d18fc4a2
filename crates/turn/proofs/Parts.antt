-- Parts of a buffer.
use Prim.Native.Nat.{ℕ, ◌-◌}
use native.Mathlib.Nat.{le_of_eq}
use mathlib.Core.Path.{◌≡◌}
use mathlib.Core.List.{List}
use lib.ListN.{length, take, drop, length-drop}
use lib.Seq.{take_all}

-- `&d[a..]`
pub tail-part : (d : List ℕ) (a : ℕ) → take (length d - a) (drop a d) ≡ drop a d
tail-part d a = take_all (length d - a) (drop a d) (le_of_eq (length-drop a d))
