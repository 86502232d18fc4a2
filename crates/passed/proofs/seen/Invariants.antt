use mathlib.Core.Path.{◌≡◌}
use mathlib.Core.List.{◌∷◌}
use lib.ListN.{drop}
use Rattle.rules.specs.Letters.{met}
use Rattle.kmer.specs.Kmer.{kmer_of, IsKmer}
use Rattle.passed.specs.Passed.{onward}
use Rattle.passed.proofs.seen.Given as goal

abbrev pub invariant-loop-letter : goal.invariant-loop-letter
invariant-loop-letter l =
    IsKmer l.head.k l.at
    × (met (kmer_of l.kmer) (kmer_of l.fn.x ∷ onward l.head.k (kmer_of l.fn.x) l.letters)
    ≡ met (kmer_of l.kmer) (onward l.head.k (kmer_of l.at) (drop l.letter-index l.letters)))
