use native.Mathlib.Omega.{arith}
use Rattle.scenario.proofs.Trials.{by-refused, trial-after, asked-le, instead-refused, instead-on}
use Rattle.scenario.proofs.two.instead.Goals as goal

pub returns-then-asked : goal.returns-then-asked
returns-then-asked c =
    let a = rw c.with.ensures.is at c.ask-asked.ensures in
    by-refused _ c.refused.ensures (instead-refused _ _ _ _ a c.if-asked.true) (omega (arith, asked-le _ _ a))

pub overflow_add-result : goal.overflow_add-result
overflow_add-result c = omega (arith, asked-le _ _ c.ask-asked.ensures, c.sole-on.ensures.1)

pub returns : goal.returns
returns c =
    let a = rw c.with.ensures.is at c.ask-asked.ensures in
    trial-after _ (instead-on _ _ _ _ a c.if-asked.false) c.sole-on.result c.sole-on.ensures.0 (omega (arith, asked-le _ _ a, c.sole-on.ensures.1))
