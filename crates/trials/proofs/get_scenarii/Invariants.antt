use Prim.Native.Nat.{◌+◌, ◌*◌, ◌≤◌}
use mathlib.Core.Path.{◌≡◌}
use mathlib.Core.List.{map}
use lib.ListN.{length}
use Rattle.std.specs.List.{All}
use Rattle.rules.specs.Set.{solid, set_of}
use Rattle.kmer.specs.Kmer.{kmer_of, IsKmer}
use Rattle.scenario.specs.Scenario.{spelled_out}
use Rattle.trials.specs.Trials.{Placed}
use Rattle.trials.proofs.Scores.{Run, Done}
use Rattle.trials.proofs.get_scenarii.Given as goal

abbrev pub invariant-loop-base : goal.invariant-loop-base
invariant-loop-base g l =
    IsKmer l.set.head.k l.kmer × (l.lookups ≡ l.initial.lookups + l.base-index)
    × Run l.set.head.k (solid (set_of l.set.bytes.now)) l.base-items (kmer_of l.initial.kmer) l.base-index (kmer_of l.kmer)

abbrev pub invariant-scenarios : goal.invariant-scenarios
invariant-scenarios g l =
    (length l.kept ≤ l.scenario-index) × (l.lookups ≤ l.scenario-index * 263) × All (Placed (set_of l.set.bytes.now)) l.kept
    × Done l.set.head.k (solid (set_of l.set.bytes.now)) l.c l.s
    (g.S.Scenario.scenarios l.set.head.k (solid (set_of l.set.bytes.now)) (kmer_of l.x) l.s)
    l.scenario-index (map spelled_out l.kept) l.lookups
