-- A search's answer as that of a lookup.
use Rattle.std.specs.Prelude.{ℕ, Bool, true, false}
use Rattle.std.proofs.Math.Option.{Option as MaybeOf, none, some}
use Rattle.std.specs.Prelude.{Option, Some, None}

-- The key's index, or that there is none.
abbrev pub index_of : Option ℕ → MaybeOf ℕ
index_of (Some i) = some i
index_of None = none

-- Whether there is a key.
abbrev pub is_key : Option ℕ → Bool
is_key (Some i) = true
is_key None = false

-- An index, or n where there is none.
abbrev pub place_in : ℕ → MaybeOf ℕ → ℕ
place_in n none = n
place_in n (some i) = i
