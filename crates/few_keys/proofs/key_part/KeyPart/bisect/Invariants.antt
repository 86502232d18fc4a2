use Prim.Native.Nat.{◌-◌}
use Rattle.few_keys.specs.Part.{BracketIn}
use Rattle.few_keys.proofs.key_part.KeyPart.bisect.Given as goal

abbrev pub invariant-loop-low : goal.invariant-loop-low
invariant-loop-low l = BracketIn l.self l.key l.low l.high

abbrev pub decreases-loop-low : goal.decreases-loop-low
decreases-loop-low l = l.high - l.low
