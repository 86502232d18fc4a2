-- Lines that a search may read.
use Rattle.std.specs.Prelude.{ℕ, ◌+◌, ◌≤◌, ◌<◌, ◌≡◌, ◌⊎◌}
use Rattle.rules.specs.Set.{max_keys}
use Rattle.cache_line.specs.Lines.{first_key}

-- Three lines from this one on are within the keys from `first` on and before `last`, or it lies behind every set.
abbrev pub WithinKeys : ℕ → ℕ → ℕ → Type 0
WithinKeys first last line = (line ≡ max_keys) ⊎ ((first ≤ first_key line) × (first_key (line + 3) < last))
