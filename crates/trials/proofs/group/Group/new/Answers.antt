use Rattle.std.specs.Prelude.{replicate}
use Rattle.std.proofs.Common.{arith, ap, refl}
use Rattle.trials.proofs.Blanks.{blank-is}
use Rattle.trials.proofs.group.Group.new.Goals as goal

pub invariant_of-result : goal.invariant_of-result
invariant_of-result c = (omega arith, refl, ap (replicate 13) (blank-is _))
