use Rattle.scenario.specs.Scenario.{sole_after}
use Rattle.scenario.proofs.two.sole_after.Goals as goal

pub returns : goal.returns
unfolding sole_after
returns c = rw c.with.ensures.is at c.sole.ensures.0
