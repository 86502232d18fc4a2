use Prim.Native.Nat.{◌≤◌, ◌+◌}
use mathlib.Core.Path.{◌≡◌}
use lib.ListN.{drop, length}
use Rattle.rules.specs.Set.{solid, set_of}
use Rattle.rules.specs.Scan.{scan_from, error_len}
use Rattle.kmer.specs.Kmer.{kmer_of, IsKmer}
use Rattle.scan.proofs.error_len.Given as goal

abbrev pub invariant-loop-j : goal.invariant-loop-j
invariant-loop-j l =
    (l.j ≤ length l.s) × (l.lookups + 1 ≤ l.j) × IsKmer l.set.head.k l.last
    × (error_len l.set.head.k (solid (set_of l.set.bytes.now)) (kmer_of l.initial.last) l.s
    ≡ scan_from l.set.head.k (solid (set_of l.set.bytes.now)) l.lookups l.j (kmer_of l.last) (drop l.j l.s))
