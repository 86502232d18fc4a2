-- Laws of a search: where key x cannot stand, and what is left of the keys.
use Prim.Native.Nat.{ℕ, ◌+◌, ◌≤◌, ◌<◌}
use native.Mathlib.Omega.{arith}
use native.Mathlib.Nat.{eq-or-lt_of_le}
use native.Mathlib.Decide.{dec_lt}
use mathlib.Core.Path.{◌≡◌}
use mathlib.Core.Logic.{◌⊎◌, inl, inr}
use mathlib.Core.List.{List}
use Rattle.std.specs.Prelude.{Option, Some, None}
use Rattle.few_keys.specs.Find.{key_in, Sorted, LowerBefore, HigherFrom, Bracket, Answers}

module _ {skip : ℕ} {part : List ℕ} {first last : ℕ} (sorted : Sorted skip part first last) (x m : ℕ) where
  -- Key m is below x, and so is every key before it.
  pub lower-through : m < last → key_in skip part m < x → LowerBefore skip part first last x (m + 1)
  lower-through h l j f g k = before (eq-or-lt_of_le {n = j} {m = m} (omega arith))
    where
      before : (j ≡ m) ⊎ (j < m) → key_in skip part j < x
      before (inl e) = rw e l
      before (inr k) = omega (arith, sorted.rising j m f k h)

  -- Key m is above x, and so is every key behind it.
  pub higher-from : first ≤ m → x < key_in skip part m → HigherFrom skip part first last x m
  higher-from h l j f g k = behind (eq-or-lt_of_le k)
    where
      behind : (m ≡ j) ⊎ (m < j) → x < key_in skip part j
      behind (inl e) = rw (← e) l
      behind (inr k) = omega (arith, sorted.rising m j h k g)

module _ {skip : ℕ} {part : List ℕ} {first last x lo hi : ℕ} (b : Bracket skip part first last x lo hi) where
  -- It is enough to look where x can stand.
  pub answers-all : (r : Option ℕ) → Answers skip part x lo hi r → Answers skip part x first last r
  answers-all (Some i) h = (omega (arith, b.within), omega (arith, b.within), h.2)
  answers-all None h = λ i l g e. out i l g e (dec_lt i lo) (dec_lt i hi)
    where
      out : (i : ℕ) → first ≤ i → i < last → key_in skip part i ≡ x → Dec (i < lo) → Dec (i < hi) → ⊥
      out i l g e (yes k) d = omega (arith, b.below i l g k)
      out i l g e (no f) (yes k) = h i (omega arith) k e
      out i l g e (no f) (no k) = omega (arith, b.above i l g (omega arith))

  -- Where nothing is left x is no key.
  pub answers-none : hi ≤ lo → Answers skip part x first last None
  answers-none h = answers-all None (λ i l g e. omega arith)
