-- What an attempt's answer means by the rules.
use Rattle.std.specs.Prelude.{ℕ, ◌≤◌, ◌<◌, ◌≡◌, List, length, take}
use Rattle.std.proofs.Math.Option.{Option, none, some}
use Rattle.rules.specs.Letters.{Kmer, in_place}
use Rattle.rules.specs.Counted.{Try}
use Rattle.rules.specs.Driver.{weakest}
use Rattle.rules.specs.Exist as rules
use Rattle.kmer.specs.declared.Kmer.{Kmer as KmerOf}
use Rattle.kmer.specs.Kmer.{HasLetters}
use Rattle.scan.specs.declared.Attempt.{Attempt}
use Rattle.scan.specs.declared.Attempt.TheVariants.{Mend, Refused, Full}

-- A mend of the rules at the bad k-mer y, whose n letters stand at the start of out if it has room for them; the smallest count of the
-- k-mers that it rests on; and y with the letters in place of its last one.
pub record MendIs (k : ℕ) (y : Kmer) (count : Kmer → ℕ) (out : List ℕ) (m : Option rules.Mend) (n r support : ℕ) (kmer : KmerOf) : Type 0 where
  pub letters : List ℕ
  pub on : List Kmer
  pub is : m ≡ some (record { letters = letters; resume = r; on = on })
  pub many : length letters ≡ n
  pub written : n ≤ length out → take n out ≡ letters
  pub weakest_is : weakest count on ≡ some support
  pub placed : HasLetters k (in_place k y letters) kmer

-- The answer to the rules' attempt t at the bad k-mer y, whose scan reaches index; out at entry, out' at exit. It is Full only where out has
-- room neither for the letters of a mend nor for the bases that the scan passed.
abbrev pub AttemptIs : ℕ → Kmer → (Kmer → ℕ) → ℕ → List ℕ → List ℕ → Try rules.Mend → Attempt → Type 0
AttemptIs k y count index out out' t (Mend n r l support kmer) = MendIs k y count out' t.answer n r support kmer × (t.lookups ≡ l)
AttemptIs k y count index out out' t (Refused l) = (t.answer ≡ none) × (t.lookups ≡ l)
AttemptIs k y count index out out' t Full =
    ((m : rules.Mend) → t.answer ≡ some m → length out < length m.letters) × (length out < index)

pub record Attempted (k : ℕ) (y : Kmer) (count : Kmer → ℕ) (index : ℕ) (out out' : List ℕ) (t : Try rules.Mend) (r : Attempt) : Type 0 where
  pub is : AttemptIs k y count index out out' t r
  pub room : length out' ≡ length out
