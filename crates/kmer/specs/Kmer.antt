-- What the functions over k-mers ask and give.
use Rattle.std.specs.Prelude.{ℕ, ◌^◌, ◌<◌, ◌≡◌}
use Rattle.rules.specs.Letters.{complement, revcomp}
use Rattle.rules.specs.Letters as rules
use Rattle.kmer.specs.Masked.{Masked}
use Rattle.kmer.specs.declared.shifts.Header.{Header}
use Rattle.kmer.specs.declared.Kmer.{Kmer}

-- The header's mask belongs to its k.
abbrev pub Shifts : Header → Type 0
Shifts head = Masked head.k head.mask

-- The code of k letters, beside it that of its reverse complement, and a bit for each letter.
pub record IsKmer (k : ℕ) (y : Kmer) : Type 0 where
  pub small : y.code < 4 ^ k
  pub turned : y.rev ≡ revcomp k y.code
  pub unknown_lt : y.unknown < 2 ^ k

-- A k-mer by the rules.
unfoldable pub kmer_of : Kmer → rules.Kmer
kmer_of y = record { code = y.code; unknown = y.unknown }

-- r is the k-mer y of the rules.
pub record HasLetters (k : ℕ) (y : rules.Kmer) (r : Kmer) : Type 0 where
  pub is : kmer_of r ≡ y
  pub kmer : IsKmer k r
