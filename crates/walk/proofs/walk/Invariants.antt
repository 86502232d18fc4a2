use Prim.Native.Nat.{◌+◌, ◌*◌, ◌≤◌}
use mathlib.Core.Path.{◌≡◌}
use lib.ListN.{length}
use Rattle.rules.specs.Set.{solid, set_of, count_of}
use Rattle.rules_laws.proofs.Kmer.{Known}
use Rattle.kmer.specs.Kmer.{kmer_of, IsKmer}
use Rattle.set.specs.Counted.{set_with}
use Rattle.walk.proofs.Laws.{Going}
use Rattle.walk.proofs.walk.Given as goal

abbrev pub invariant-loop-moves : goal.invariant-loop-moves
invariant-loop-moves l =
    (l.moves ≤ l.fuel)
    × (l.fuel ≤ 100663296)
    × (l.marks_at ≤ 2 * l.moves + 1)
    × (l.lookups ≡ l.initial.lookups + 4 * l.moves)
    × (length l.out ≡ length l.initial.out)
    × IsKmer l.set.head.k l.at
    × Known (kmer_of l.at)
    × Going l.set.head.k l.set.head.n (solid (set_of l.set.bytes.now)) (count_of (set_with l.set.bytes.now l.set.counts.now)) (kmer_of l.end) (kmer_of l.initial.at) (kmer_of l.at) (kmer_of l.mark) l.moves l.marks_at l.weakest l.out
