use Prim.Native.Nat.{◌-◌, ◌≤◌, ◌<◌}
use Rattle.few_keys.specs.Part.{BracketIn}
use Rattle.keys.proofs.search.Given as goal

abbrev pub invariant-loop-low : goal.invariant-loop-low
invariant-loop-low l =
    BracketIn l.part l.key l.low l.high × (l.low < l.high → (l.low ≤ l.i) × (l.i < l.high)) × (l.step ≤ 16777216)

abbrev pub decreases-loop-low : goal.decreases-loop-low
decreases-loop-low l = l.high - l.low
