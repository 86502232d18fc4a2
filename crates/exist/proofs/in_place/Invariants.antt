use Prim.Native.Nat.{◌≤◌}
use mathlib.Core.Path.{◌≡◌}
use lib.ListN.{drop}
use Rattle.rules.specs.Letters.{add_all}
use Rattle.kmer.specs.Kmer.{kmer_of, IsKmer}
use Rattle.scenario.specs.Scenario.{spelled_out}
use Rattle.exist.proofs.in_place.Given as goal

abbrev pub invariant-loop-i : goal.invariant-loop-i
invariant-loop-i l =
    (l.i ≤ l.mend.letters) × IsKmer l.head.k l.placed
    × (add_all l.head.k (kmer_of l.initial.placed) (spelled_out l.mend).letters ≡ add_all l.head.k (kmer_of l.placed) (drop l.i (spelled_out l.mend).letters))
