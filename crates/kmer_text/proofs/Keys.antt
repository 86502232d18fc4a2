-- The keys of lines.
use Prim.Native.Nat.{ℕ}
use mathlib.Core.Path.{◌≡◌}
use mathlib.Core.Bool.{true, false}
use mathlib.Core.List.{List, ◌∷◌}
use Rattle.rules_make.specs.MakeSet.{line_key, kept, kept_lines, line_keys}

abbrev pub keys_of : ℕ → ℕ → List (List ℕ) → List ℕ
keys_of k least ls = line_keys k (kept_lines k least ls)

module _ (k least : ℕ) (line : List ℕ) (rest : List (List ℕ)) where
  pub key-kept : kept k least line ≡ true → keys_of k least (line ∷ rest) ≡ line_key k line ∷ keys_of k least rest
  unfolding kept_lines line_keys
  key-kept e = rw (e, kept_lines)

  pub key-passed : kept k least line ≡ false → keys_of k least (line ∷ rest) ≡ keys_of k least rest
  unfolding kept_lines
  key-passed e = rw (e, kept_lines)
