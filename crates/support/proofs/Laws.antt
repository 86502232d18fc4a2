-- Supports, and the check of the counts.
use Prim.Native.Nat.{ℕ}
use native.Mathlib.Omega.{arith}
use mathlib.Core.Path.{◌≡◌, refl}
use mathlib.Core.Bool.{true}
use mathlib.Core.Option.{Option, none, some}
use mathlib.Core.List.{List, [], ◌∷◌}
use lib.Dec.{eqb}
use lib.ListN.{length}
use Rattle.std.specs.Prelude.{Option as Told, Some, None}
use Rattle.rules.specs.Refusal.{unless}
use Rattle.rules.specs.Set.{KmerSet}
use Rattle.rules.specs.Calls.{counts_check}
use Rattle.support.specs.Support.{support_of}

-- A support of the rules as the code has it.
abbrev pub told : Option ℕ → Told ℕ
told none = None
told (some s) = Some s

pub told-is : (o : Option ℕ) → support_of (told o) ≡ o
told-is none = refl
told-is (some s) = refl

-- An offered list has as many counts as the set has keys.
pub counts-passed : (set : KmerSet) (counts : List ℕ) → length counts ≡ 0 → unless true 16 ≡ counts_check set counts
unfolding counts_check unless
counts-passed set [] e = refl
counts-passed set (c ∷ cs) e = absurd (omega arith)

pub counts-offered : (set : KmerSet) (counts : List ℕ) (n : ℕ) → (length counts ≡ 0 → ⊥) → length set.keys ≡ n
    → unless (eqb (length counts) n) 16 ≡ counts_check set counts
unfolding counts_check
counts-offered set [] n h e = absurd (h refl)
counts-offered set (c ∷ cs) n h e = rw e
