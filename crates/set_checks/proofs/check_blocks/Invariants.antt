use mathlib.Core.Path.{◌≡◌}
use Rattle.set_checks.specs.Checks.{first_wrong}
use Rattle.set_checks.proofs.check_blocks.Given as goal

abbrev pub invariant-loop-block : goal.invariant-loop-block
invariant-loop-block l = first_wrong l.set l.from ≡ first_wrong l.set l.block
