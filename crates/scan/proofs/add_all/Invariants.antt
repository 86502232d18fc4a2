use mathlib.Core.Path.{◌≡◌}
use lib.ListN.{drop}
use Rattle.rules.specs.Letters.{add_all}
use Rattle.kmer.specs.Kmer.{kmer_of, IsKmer}
use Rattle.scan.proofs.add_all.Given as goal

abbrev pub invariant-loop-base : goal.invariant-loop-base
invariant-loop-base l =
    IsKmer l.head.k l.last × (add_all l.head.k (kmer_of l.initial.last) l.bases ≡ add_all l.head.k (kmer_of l.last) (drop l.base-index l.bases))
