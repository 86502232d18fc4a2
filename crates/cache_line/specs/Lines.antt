-- Lines of a set's key blocks.
use Rattle.std.specs.Prelude.{ℕ, ◌+◌, ◌*◌, ◌-◌, ◌/◌, ◌≤◌, List, length, Bool, ◌&&◌, leb}
use Rattle.rules.specs.Set.{max_keys}
use Rattle.few_keys.specs.Find.{key_in}
use Rattle.few_keys.specs.declared.key_part.KeyPart.{KeyPart}

-- The key at the start of a line, a part of 8 words of the key blocks, counted from 0: one word in 8 lines is a check word.
abbrev pub first_key : ℕ → ℕ
first_key line = 8 * line - line / 8

-- The part holds every word of the lines from `line` on and before `next`.
pub record Lines (skip : ℕ) (part : List ℕ) (line next : ℕ) : Type 0 where
  pub few : next ≤ max_keys
  pub starts : skip ≤ 512 + 64 * line
  pub ends : 512 + 64 * next ≤ skip + length part

-- The keys of the lines from `line` on and before `next` are all in the part.
abbrev pub HasLines : KeyPart → ℕ → ℕ → Type 0
HasLines part line next = (part.first ≤ first_key line) × (first_key next ≤ part.last)

-- Whether x is between the first of three lines' keys and the last that is surely none of their check words.
abbrev pub in_window : ℕ → List ℕ → ℕ → ℕ → Bool
in_window skip part x line = leb (key_in skip part (first_key line)) x && leb x (key_in skip part (first_key (line + 2) + 6))
