use Prim.Native.Nat.{◌≤◌}
use mathlib.Core.Path.{◌≡◌}
use lib.ListN.{length, take}
use Rattle.scenario.specs.Scenario.{spelled_out}
use Rattle.exist.proofs.write.Given as goal

abbrev pub invariant-loop-i : goal.invariant-loop-i
invariant-loop-i l =
    (l.i ≤ l.mend.letters) × (length l.out ≡ length l.initial.out) × (take l.i l.out ≡ take l.i (spelled_out l.mend).letters)
