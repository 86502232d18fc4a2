-- Whether a k-mer is among those that letters lead through.
use Prim.Native.Nat.{ℕ, ◌+◌, ◌-◌, ◌≤◌, ◌<◌}
use native.Mathlib.Omega.{arith}
use native.Mathlib.Numerals.{add-one}
use mathlib.Core.Path.{◌≡◌, sym, ap}
use mathlib.Core.Bool.{true, false}
use mathlib.Core.List.{List, ◌∷◌}
use lib.ListN.{length, take, drop, get_or, drop_of_length-le}
use lib.Seq.{drop-cons}
use Rattle.rules.specs.Letters.{Kmer, same, met, add_base}
use Rattle.std.proofs.lemmas.List.{drop-take}
use Rattle.passed.specs.Passed.{onward, passed}

-- whether z is among those that the bases from i on lead through; y' is the first of them
module _ (z : Kmer) (k : ℕ) (y : Kmer) (i : ℕ) (s : List ℕ) where
  module _ {y' : Kmer} (lt : i < length s) (is : y' ≡ add_base k y (get_or s i 0)) where
    first : onward k y (drop i s) ≡ y' ∷ onward k y' (drop (i + 1) s)
    unfolding onward
    first = rw (drop-cons s i 0 lt, add-one, is)

    pub seen_here : same z y' ≡ true → met z (onward k y (drop i s)) ≡ true
    unfolding met
    seen_here e = rw (first, e)

    pub seen-on : same z y' ≡ false → met z (onward k y (drop i s)) ≡ met z (onward k y' (drop (i + 1) s))
    unfolding met
    seen-on e = rw (first, e)

  pub seen_end : length s ≤ i → met z (onward k y (drop i s)) ≡ false
  unfolding met onward
  seen_end h = rw (drop_of_length-le s h)

-- the letters of so many moves, as a part of the letters
pub passed-is : (k : ℕ) (x : Kmer) (m : ℕ) (s : List ℕ) → x ∷ onward k x (take (m + 1 - 1) (drop 1 s)) ≡ passed k x m s
passed-is k x m s = ap (λ (l : List ℕ). x ∷ onward k x l) part
  where
    part : take (m + 1 - 1) (drop 1 s) ≡ drop 1 (take (m + 1) s)
    part = let e : m + 1 - 1 ≡ m = omega arith in let f : m + 1 ≡ 1 + m = omega arith in rw (e, f) (sym (drop-take 1 m s))
