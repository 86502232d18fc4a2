-- What the answers of the successors mean by the rules.
use Rattle.std.specs.Prelude.{ℕ, ◌≡◌, List, [], ◌∷◌, length, Option, Some, None, Result, Ok, Err}
use Rattle.std.proofs.Math.Option.{Option as MaybeOf, none, some}
use Rattle.rules.specs.Set.{KmerSet, lookup}
use Rattle.rules.specs.Letters as letters
use Rattle.rules.specs.Counted.{Try}
use Rattle.kmer.specs.declared.Kmer.{Kmer}
use Rattle.kmer.specs.Kmer.{kmer_of, IsKmer}
use Rattle.set.specs.Found.{place_in}
use Rattle.successors.specs.declared.Alt.{Alt}

-- The letter's code, or a refusal.
abbrev pub nuc_of : Option ℕ → MaybeOf ℕ
nuc_of (Some a) = some a
nuc_of None = none

-- A sole successor by the rules' t, after its 4 lookups; or a refusal, after the lookups made.
abbrev pub NextIs : ℕ → Try letters.Kmer → Result Kmer ℕ → Type 0
NextIs k t (Ok y) = (t ≡ record { answer = some (kmer_of y); lookups = 4 }) × IsKmer k y
NextIs k t (Err made) = t ≡ record { answer = none; lookups = made }

-- The same with the index of its key.
abbrev pub AltIs : ℕ → KmerSet → Try letters.Kmer → Result Alt ℕ → Type 0
AltIs k set t (Ok x) = (t ≡ record { answer = some (kmer_of x.kmer); lookups = 4 }) × IsKmer k x.kmer × (lookup set x.kmer.code ≡ some x.place)
AltIs k set t (Err made) = t ≡ record { answer = none; lookups = made }

-- The indices of the keys of y's four successors; the number of keys where there is none.
abbrev pub place_at : KmerSet → ℕ → letters.Kmer → ℕ → ℕ
place_at set k y a = place_in (length set.keys) (lookup set (letters.add k y a).code)

abbrev pub places_of : KmerSet → ℕ → letters.Kmer → List ℕ
places_of set k y = place_at set k y 0 ∷ place_at set k y 1 ∷ place_at set k y 2 ∷ place_at set k y 3 ∷ []
