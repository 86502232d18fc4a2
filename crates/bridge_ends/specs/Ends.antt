-- An end of a bridge by the rules.
use Rattle.std.specs.Prelude.{ℕ, ◌≡◌, true, false, Option, Some, None}
use Rattle.rules.specs.Set.{KmerSet}
use Rattle.rules_bridge.specs.Bridge.{known, solid_code}
use Rattle.kmer.specs.declared.Kmer.{Kmer}
use Rattle.kmer.specs.Kmer.{HasLetters}

-- A code asked: its k-mer if it is solid.
abbrev pub SolidIs : ℕ → KmerSet → ℕ → Option Kmer → Type 0
SolidIs k set code (Some y) = (solid_code set code ≡ true) × HasLetters k (known code) y
SolidIs k set code None = solid_code set code ≡ false
