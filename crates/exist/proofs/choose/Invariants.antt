use Prim.Native.Nat.{◌≤◌}
use mathlib.Core.List.{map}
use Rattle.rules.specs.Set.{solid, set_of}
use Rattle.kmer.specs.Kmer.{kmer_of}
use Rattle.scenario.specs.Scenario.{spelled_out}
use Rattle.exist.proofs.Chosen.{last_of, ChosenIs, Asked}
use Rattle.exist.proofs.choose.Given as goal

abbrev pub invariant-loop-mend : goal.invariant-loop-mend
invariant-loop-mend l =
    (l.remaining ≤ l.mend-index) × (l.lookups ≤ l.mend-index) × ChosenIs (set_of l.set.bytes.now) l.remaining l.chosen
    × Asked l.set.head.k (solid (set_of l.set.bytes.now)) l.c l.s (kmer_of l.kmer) (map spelled_out l.kept) l.mend-index l.remaining (last_of l.chosen) l.lookups
