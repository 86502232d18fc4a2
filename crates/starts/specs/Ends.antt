-- The table while it is filled: where prefixes end.
use Rattle.std.specs.Prelude.{ℕ, zero, suc, ◌+◌, ◌≤◌, ◌<◌, max, ◌≡◌, List, get_or}
use Rattle.rules.specs.Set.{key_word}
use Rattle.set.specs.Ready.{prefix}

-- Where prefix v ends among the first m keys: 0 where none has it.
pub record EndsAt (bytes : List ℕ) (shift m v end : ℕ) : Type 0 where
  pub within : end ≤ m
  pub last : (i : ℕ) → end ≡ suc i → prefix shift (key_word bytes i) ≡ v
  pub rest : (i : ℕ) → end ≤ i → i < m → prefix shift (key_word bytes i) ≡ v → ⊥

-- The keys from i on and before end have prefix v.
abbrev pub Run : List ℕ → ℕ → ℕ → ℕ → ℕ → Type 0
Run bytes shift v i end = (j : ℕ) → i ≤ j → j < end → prefix shift (key_word bytes j) ≡ v

-- Entry v + 1 says where prefix v ends; entry 0 is 0.
abbrev pub Marked : List ℕ → ℕ → ℕ → ℕ → List ℕ → Type 0
Marked bytes shift m prefixes starts =
    (get_or starts 0 0 ≡ 0) × ((v : ℕ) → v < prefixes → EndsAt bytes shift m v (get_or starts (v + 1) 0))

-- The highest of a table's entries up to v.
unfoldable pub highest : List ℕ → ℕ → ℕ
highest starts zero = get_or starts 0 0
highest starts (suc v) = max (highest starts v) (get_or starts (suc v) 0)
