use native.Mathlib.Omega.{arith}
use Rattle.scenario.proofs.Trials.{by-given, by-refused, asked-le, solid-yes, solid-no}
use Rattle.scenario.specs.Scenario.{solid_after}
use Rattle.scenario.proofs.two.solid_after.Goals as goal

pub returns-then-asked : goal.returns-then-asked
unfolding solid_after
returns-then-asked c =
    let w = c.with-kmer.ensures in
    let a = c.ask-asked.ensures in
    by-given _ c.given.ensures (rw (← w.is) (solid-yes _ _ a _ c.if-asked.true)) w.kmer (omega (arith, asked-le _ _ a))

pub returns-else-asked : goal.returns-else-asked
unfolding solid_after
returns-else-asked c =
    let a = c.ask-asked.ensures in
    by-refused _ c.refused.ensures (rw (← c.with-kmer.ensures.is) (solid-no _ _ a _ c.if-asked.false)) (omega (arith, asked-le _ _ a))
