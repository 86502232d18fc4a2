use mathlib.Core.Path.{◌≡◌}
use lib.ListN.{drop}
use Rattle.rules.specs.Set.{solid, set_of}
use Rattle.kmer.specs.Kmer.{IsKmer}
use Rattle.edit_walk.specs.Walk.{stand_of, pass_over}
use Rattle.edit_walk.proofs.pass_over.Given as goal

abbrev pub invariant-loop-base : goal.invariant-loop-base
invariant-loop-base l =
    IsKmer l.set.head.k l.walk.kmer
    × (pass_over l.set.head.k (solid (set_of l.set.bytes.now)) l.then l.part (stand_of l.initial.walk)
    ≡ pass_over l.set.head.k (solid (set_of l.set.bytes.now)) l.then (drop l.base-index l.part) (stand_of l.walk))
