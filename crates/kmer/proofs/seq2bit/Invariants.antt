use mathlib.Core.Path.{◌≡◌}
use lib.ListN.{take}
use lib.ListN.{drop}
use Rattle.rules.specs.Letters.{add_all}
use Rattle.kmer.specs.Kmer.{IsKmer, kmer_of}
use Rattle.kmer.proofs.seq2bit.Given as goal

abbrev pub invariant-loop-nuc : goal.invariant-loop-nuc
invariant-loop-nuc l =
    IsKmer l.head.k l.kmer
    × (add_all l.head.k (kmer_of l.kmer) (drop l.nuc-index l.nuc-items) ≡ add_all l.head.k (record { code = 0; unknown = 0 }) (take l.head.k l.seq))
