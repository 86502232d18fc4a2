use Rattle.kmer.specs.Kmer.{IsKmer}
use Rattle.scan.proofs.first_lines.Given as goal

abbrev pub invariant-loop-i : goal.invariant-loop-i
invariant-loop-i l = IsKmer l.set.head.k l.last
