use Prim.Native.Nat.{◌*◌, ◌-◌, ◌≤◌, min}
use mathlib.Core.Path.{◌≡◌}
use Rattle.set_checks.specs.Keys.{least_key}
use Rattle.set_checks.specs.Checks.{first_wrong, wrong_key}
use Rattle.opening.proofs.check_keys.Given as goal

-- the blocks before this one are checked, and their keys are looked at
abbrev pub invariant-loop-block : goal.invariant-loop-block
invariant-loop-block l =
    (1 ≤ l.block)
    × (l.block ≤ l.block-end)
    × (l.least ≡ least_key l.set (min l.n (63 * (l.block - 1))))
    × (first_wrong l.set 0 ≡ first_wrong l.set l.block)
    × (wrong_key l.set 0 ≡ wrong_key l.set (min l.n (63 * (l.block - 1))))
