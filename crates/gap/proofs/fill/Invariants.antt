use Prim.Native.Nat.{◌+◌, ◌*◌, ◌≤◌, ◌<◌}
use mathlib.Core.Path.{◌≡◌}
use lib.ListN.{length}
use Rattle.rules.specs.Set.{solid, set_of, count_of}
use Rattle.rules_laws.proofs.Kmer.{Known}
use Rattle.kmer.specs.Kmer.{kmer_of, IsKmer}
use Rattle.set.specs.Counted.{set_with}
use Rattle.passed.specs.Passed.{passed}
use Rattle.passed.specs.Filter.{suffix, Covers}
use Rattle.gap.proofs.Laws.{Filling}
use Rattle.gap.proofs.fill.Given as goal

abbrev pub invariant-loop-i : goal.invariant-loop-i
invariant-loop-i l =
    (l.i ≤ l.moves)
    × (l.moves < length l.out)
    × (l.lookups ≡ l.initial.lookups + 4 * l.i)
    × (length l.filter ≡ length l.initial.filter)
    × (length l.out ≡ length l.initial.out)
    × IsKmer l.set.head.k l.at
    × Known (kmer_of l.at)
    × Filling l.set.head.k (solid (set_of l.set.bytes.now)) (count_of (set_with l.set.bytes.now l.set.counts.now)) l.moves (kmer_of l.x) (kmer_of l.at) l.i l.weakest l.out
    × Covers l.set.head.k l.filter (passed l.set.head.k (kmer_of l.x) l.i l.out) (suffix l.set.head.k (kmer_of l.at)) l.before
