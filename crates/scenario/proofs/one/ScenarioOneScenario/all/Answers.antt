use mathlib.Core.Path.{refl}
use Rattle.rules.specs.Exist.{row, one}
use Rattle.scenario.specs.Scenario.{nth}
use Rattle.scenario.proofs.one.ScenarioOneScenario.all.Goals as goal

pub returns-clause-whole : goal.returns-clause-whole
unfolding nth one row
returns-clause-whole c k sol x s = refl
