-- The k-mers of a read, and how many of them are solid: a call beside document 01's, with its refusals 1 and 7 to 10. One that holds an
-- unknown letter is a k-mer of the read, and not solid.
use Rattle.std.specs.Prelude.{ℕ, suc, true, false, List, [], ◌∷◌, length, take, drop, ltb, leb}
use Rattle.std.proofs.Math.Option.{none, some}
use Rattle.rules.specs.Letters.{Kmer, add, add_base, code, kmer}
use Rattle.rules.specs.Refusal.{Outcome, accepted, refused, unless}
use Rattle.rules.specs.Set.{KmerSet, solid, opened}
use Rattle.rules.specs.Scan.{ask}
use Rattle.rules.specs.Calls.{max_read}

-- The k-mers behind y, one for each base.
unfoldable pub kmers_behind : ℕ → Kmer → List ℕ → List Kmer
unfolding add code
kmers_behind k y [] = []
kmers_behind k y (b ∷ bs) = add_base k y b ∷ kmers_behind k (add_base k y b) bs

-- The first k-mer, and those behind it; none where the read is shorter than k.
unfoldable pub kmers_of : ℕ → List ℕ → List Kmer
unfolding kmers_behind kmer
kmers_of k read =
    let first : Kmer = kmer k (take k read) in
    elim (ltb (length read) k) [ true ↦ [] | false ↦ first ∷ kmers_behind k first (drop k read) ]

-- How many of a list are solid.
unfoldable pub solids : KmerSet → List Kmer → ℕ
unfolding solid ask
solids set [] = 0
solids set (y ∷ ys) = elim (ask (solid set) y).answer [ true ↦ suc (solids set ys) | false ↦ solids set ys ]

-- The k-mers of a read, and the solid ones among them.
pub record Solids : Type 0 where
  pub kmers : ℕ
  pub solid : ℕ

-- With an opened set.
unfoldable pub solids_of : KmerSet → List ℕ → Solids
unfolding kmers_of solids
solids_of set read = record { kmers = length (kmers_of set.k read); solid = solids set (kmers_of set.k read) }

-- The call: 1 for a read over 1,048,576 bytes, then 7 to 10 for the set.
unfoldable pub count_solid : List ℕ → List ℕ → Outcome Solids
unfolding unless opened solids_of
count_solid bytes read =
    elim (unless (leb (length read) max_read) 1) [
      | some r ↦ refused r
      | none ↦ elim (opened bytes) [ refused r ↦ refused r | accepted set ↦ accepted (solids_of set read) ]
    ]
