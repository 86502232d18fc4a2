-- Counts offered with a set: a lookup is the same, and a k-mer's count is that of its key.
use Prim.Native.Nat.{ℕ}
use mathlib.Core.Path.{◌≡◌, refl}
use mathlib.Core.Option.{some}
use mathlib.Core.List.{List}
use lib.ListN.{get_or}
use Rattle.rules.specs.Letters.{Kmer}
use Rattle.rules.specs.Set.{set_of, offering, first_for, keys_for, lookup, solid, count_of}
use Rattle.set.specs.Counted.{set_with}

module _ (bytes counts : List ℕ) where
  pub with-solid : solid (set_with bytes counts) ≡ solid (set_of bytes)
  unfolding solid lookup first_for keys_for offering set_of
  with-solid = refl

  pub with-lookup : lookup (set_with bytes counts) ≡ lookup (set_of bytes)
  unfolding lookup first_for keys_for offering set_of
  with-lookup = refl

  pub with-count : (y : Kmer) (i : ℕ) → lookup (set_of bytes) y.code ≡ some i → count_of (set_with bytes counts) y ≡ get_or counts i 0
  unfolding count_of lookup first_for keys_for offering set_of
  with-count y i e = rw (e, count_of)
