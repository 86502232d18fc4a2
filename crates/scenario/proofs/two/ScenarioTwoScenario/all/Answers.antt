use mathlib.Core.Path.{refl}
use Rattle.rules.specs.Exist.{row, two}
use Rattle.scenario.specs.Scenario.{nth}
use Rattle.scenario.proofs.two.ScenarioTwoScenario.all.Goals as goal

pub returns-clause-whole : goal.returns-clause-whole
unfolding nth two row
returns-clause-whole c k sol x s = refl
