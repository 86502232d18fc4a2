-- Laws of the first index, from i up to an end e, at which a test fails.
use Rattle.std.proofs.Common.{◌≡◌, ℕ, suc, ◌+◌, ◌-◌, ◌<◌, ◌≤◌, Bool, true, false, ◌&&◌, add-one, arith}
use Prim.Native.Nat.{zero}
use mathlib.Core.Path.{refl}
use mathlib.Core.Option.{none, some}
use Rattle.std.specs.List.{list_all, range_with_len}
use Rattle.rules.specs.Refusal.{first_failing}
use Rattle.rules.specs.Set.{is_none}

module _ (ok : ℕ → Bool) (i e : ℕ) where
  pub passed : i < e → ok i ≡ true → first_failing ok i (e - i) ≡ first_failing ok (i + 1) (e - (i + 1))
  unfolding first_failing
  passed l h = let n : e - i ≡ suc (e - (i + 1)) = omega arith in rw (n, h, first_failing, add-one)

  pub failed : i < e → ok i ≡ false → first_failing ok i (e - i) ≡ some i
  unfolding first_failing
  failed l h = let n : e - i ≡ suc (e - (i + 1)) = omega arith in rw (n, h, first_failing)

  pub ended : e ≤ i → first_failing ok i (e - i) ≡ none
  unfolding first_failing
  ended l = let n : e - i ≡ 0 = omega arith in rw n

-- Of m numbers from i on, all pass, or one is the first that fails.
pub all-hold : (ok : ℕ → Bool) (i m : ℕ) → list_all ok (range_with_len i m) ≡ is_none (first_failing ok i m)
unfolding is_none first_failing
all-hold ok i zero = refl
all-hold ok i (suc m) = go (ok i) (rw add-one (all-hold ok (suc i) m))
  where
    go : (t : Bool) → list_all ok (range_with_len (i + 1) m) ≡ is_none (first_failing ok (suc i) m)
        → (t && list_all ok (range_with_len (i + 1) m)) ≡ is_none (elim t [ true ↦ first_failing ok (suc i) m | false ↦ some i ])
    go true e = e
    go false e = refl
