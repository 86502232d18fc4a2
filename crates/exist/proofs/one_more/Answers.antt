use mathlib.Core.Path.{refl}
use lib.Dec.{lit≤}
use Rattle.scenario.specs.Scenario.{spelled_out}
use Rattle.scenario.proofs.Trials.{asked-le}
use Rattle.exist.proofs.Chosen.{more-short, more-long}
use Rattle.exist.proofs.one_more.Goals as goal

pub returns-then-s-end : goal.returns-then-s-end
returns-then-s-end c =
    record { is = more-short _ _ _ _ _ (spelled_out c.args.mend) c.if-s-end.true; few = lit≤ tt }

pub returns : goal.returns
returns c =
    let a = c.args in
    let e = rw c.in_place-placed.ensures.is at c.add_all.ensures.is in
    record { is = more-long _ _ _ _ _ (spelled_out a.mend) c.if-s-end.false refl e c.ask.ensures; few = asked-le _ _ c.ask.ensures }
