-- A gap from x on.
use Rattle.std.specs.Prelude.{ℕ, ◌+◌, ◌-◌, ◌^◌, ◌≤◌, ◌<◌, ◌≡◌, Bool, true, List, [], ◌∷◌, length}
use Rattle.rules.specs.Letters as rules
use Rattle.rules.specs.Set.{solid, set_of, count_of}
use Rattle.rules.specs.Counted.{Try, after, give, ◌>>=◌}
use Rattle.rules.specs.Scan.{ask}
use Rattle.rules.specs.Exist.{Mend}
use Rattle.rules.specs.Graph.{spell}
use Rattle.rules.specs.GapSize.{gap}
use Rattle.kmer.specs.declared.Kmer.{Kmer}
use Rattle.kmer.specs.Kmer.{kmer_of, IsKmer}
use Rattle.set.specs.declared.ready.KmerSet.{KmerSet}
use Rattle.set.specs.Counted.{set_with}
use Rattle.scan.specs.declared.Scan.{Scan}
use Rattle.scan.specs.declared.Attempt.{Attempt}
use Rattle.scan.specs.Attempt.{Attempted}

-- That many moves from x; resume is the count of letters. It rests on every k-mer from x on.
unfoldable pub gap_mend : ℕ → (ℕ → Bool) → ℕ → rules.Kmer → Try Mend
unfolding gap spell ◌>>=◌ give
gap_mend k sol moves x = gap k sol moves (x ∷ []) x 0 >>= (λ seen. give (record { letters = spell seen; resume = length seen; on = seen }))

-- What the moves of a gap ask: x is solid and has that count, index is not below k, and there is room for all letters.
pub record Fillable (set : KmerSet) (scan : Scan) (x : Kmer) (count : ℕ) (out : List ℕ) : Type 0 where
  pub kmer : IsKmer set.head.k x
  pub lit : (ask (solid (set_of set.bytes.now)) (kmer_of x)).answer ≡ true
  pub weighs : count ≡ count_of (set_with set.bytes.now set.counts.now) (kmer_of x)
  pub above : set.head.k ≤ scan.index
  pub room : scan.index - set.head.k < length out
  pub few : scan.lookups < 2 ^ 63

-- What they give at any bad k-mer y in whose place x stands.
abbrev pub GapIs : KmerSet → Scan → Kmer → List ℕ → List ℕ → Attempt → Type 0
GapIs set scan x out out' r =
    (y : rules.Kmer) → rules.in_place set.head.k y (rules.last_letter (kmer_of x) ∷ []) ≡ kmer_of x
    → Attempted set.head.k y (count_of (set_with set.bytes.now set.counts.now)) scan.index out out'
    (after (scan.lookups + 4) (gap_mend set.head.k (solid (set_of set.bytes.now)) (scan.index - set.head.k) (kmer_of x)))
    r
