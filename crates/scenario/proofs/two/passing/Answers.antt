use mathlib.Core.Path.{sym, ap}
use lib.Dec.{lit≤}
use Rattle.rules.specs.Counted.{give}
use Rattle.scenario.proofs.Trials.{by-given}
use Rattle.scenario.specs.Scenario.{passing_of}
use Rattle.scenario.proofs.two.passing.Goals as goal

pub returns : goal.returns
unfolding passing_of give
returns c =
    let e = c.with-2.ensures in
    by-given _ c.given.ensures (ap give (sym (rw c.with.ensures.is at e.is))) e.kmer (lit≤ tt)
