use Rattle.std.proofs.Common.{◌≡◌, ◌≤◌, ◌+◌, drop}
use Rattle.rules.specs.Set.{set_of}
use Rattle.kmer.specs.Kmer.{kmer_of, IsKmer}
use Rattle.rules.specs.Solid.{kmers_behind, kmers_of, solids}
use Rattle.solid.proofs.count_kmers.Given as goal

abbrev pub invariant-loop-i : goal.invariant-loop-i
invariant-loop-i l =
    (l.count ≤ l.i) × IsKmer l.set.head.k l.kmer
    × (solids (set_of l.set.bytes.now) (kmers_of l.set.head.k l.read)
    ≡ l.count + solids (set_of l.set.bytes.now) (kmers_behind l.set.head.k (kmer_of l.kmer) (drop l.i l.read)))
