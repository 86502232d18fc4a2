-- A set's bytes with a list of counts.
use Rattle.std.specs.Prelude.{ℕ, List, []}
use Rattle.rules.specs.Set.{KmerSet, set_of, offering}

-- The set with its keys' counts offered, and no index: a lookup answers the same with one (the theorem `offered-agrees`).
abbrev pub set_with : List ℕ → List ℕ → KmerSet
set_with bytes counts = offering [] counts (set_of bytes)
