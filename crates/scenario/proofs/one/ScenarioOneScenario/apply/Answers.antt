use lib.Dec.{lit≤}
use Rattle.rules.specs.Counted.{give}
use Rattle.scenario.proofs.Trials.{one-trial, by-given}
use Rattle.scenario.proofs.one.ScenarioOneScenario.apply.Goals as goal

pub returns : goal.returns
unfolding give
returns c = by-given _ c.given.ensures (one-trial c.args.self _ _ _ _) c.requires (lit≤ tt)
