-- What a turn puts out, in the part of the output that it is lent.
use Prim.Native.Nat.{ℕ, ◌+◌, ◌-◌, ◌≤◌}
use native.Mathlib.Nat.{le_of_eq}
use mathlib.Core.Path.{◌≡◌, sym, ap, ◌∙◌}
use mathlib.Core.List.{List, ◌++◌, append-nil}
use lib.ListN.{length, take, drop, length-drop, drop_of_length-le}
use lib.Seq.{take-append-add, length-take-le}

-- what stands in d once `&mut d[a..]` comes back as l
pub tail-back : (d l : List ℕ) (a : ℕ) → take a d ++ (l ++ drop (length d - a) (drop a d)) ≡ take a d ++ l
tail-back d l a = rw (drop_of_length-le (drop a d) {i = length d - a} (le_of_eq (length-drop a d)), append-nil)

-- bytes at its start are behind those at d's
pub behind : (d l more : List ℕ) (a : ℕ) → a ≤ length d → take (length more) l ≡ more → take (a + length more) (take a d ++ l) ≡ take a d ++ more
behind d l more a le e =
    let n : length (take a d) ≡ a = length-take-le a d le in
    ap (λ (i : ℕ). take (i + length more) (take a d ++ l)) (sym n) ∙ take-append-add (take a d) l (length more) ∙ ap (λ (q : List ℕ). take a d ++ q) e
