use Rattle.edit_walk.proofs.Steps.{stand-is}
use Rattle.edit_walk.proofs.take_base.Goals as goal

pub returns-clause-stand : goal.returns-clause-stand
returns-clause-stand c = stand-is c.args.head.k c.args.«then» c.args.base _ c.add_base.ensures.is c.left_behind.ensures
