use Prim.Native.Nat.{◌≤◌}
use mathlib.Core.Path.{◌≡◌}
use Rattle.set_checks.specs.Keys.{least_key}
use Rattle.set_checks.specs.Checks.{wrong_key}
use Rattle.set_checks.proofs.look_at_keys.Given as goal

abbrev pub invariant-loop-i : goal.invariant-loop-i
invariant-loop-i l =
    (l.from ≤ l.i)
    × (l.i ≤ l.end)
    × (l.least ≡ least_key l.set l.i)
    × (wrong_key l.set l.from ≡ wrong_key l.set l.i)
