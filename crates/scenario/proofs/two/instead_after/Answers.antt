use native.Mathlib.Omega.{arith}
use borrow.Author.Tests.{not-true, not-false}
use Rattle.scenario.proofs.Trials.{by-refused, trial-after, asked-le, after-refused, after-solid, after-on}
use Rattle.scenario.proofs.two.instead_after.Goals as goal

pub returns-then-not-first : goal.returns-then-not-first
returns-then-not-first c =
    let a = rw c.with-y.ensures.is at c.ask-first.ensures in
    by-refused _ c.refused.ensures (after-refused _ _ _ _ a (not-true _ c.if-not-first.true)) (omega (arith, asked-le _ _ a))

pub overflow_add-lookups : goal.overflow_add-lookups
overflow_add-lookups c = omega (arith, asked-le _ _ c.ask-first.ensures, asked-le _ _ c.ask-second.ensures)

pub returns-then-second : goal.returns-then-second
returns-then-second c =
    let y = c.with-y.ensures.is in
    let a = rw y at c.ask-first.ensures in
    let a2 = rw (c.with.ensures.is, y) at c.ask-second.ensures in
    by-refused _ c.refused-then-second.ensures (after-solid _ _ _ _ a a2 (not-false _ c.if-not-first.false) c.if-second.true)
    (omega (arith, asked-le _ _ c.ask-first.ensures, asked-le _ _ c.ask-second.ensures))

pub overflow_add-result : goal.overflow_add-result
overflow_add-result c = omega (arith, asked-le _ _ c.ask-first.ensures, asked-le _ _ c.ask-second.ensures, c.sole-on.ensures.1)

pub returns : goal.returns
returns c =
    let y = c.with-y.ensures.is in
    let a = rw y at c.ask-first.ensures in
    let a2 = rw (c.with.ensures.is, y) at c.ask-second.ensures in
    trial-after _ (after-on _ _ _ _ a a2 (not-false _ c.if-not-first.false) c.if-second.false) c.sole-on.result (rw y at c.sole-on.ensures.0)
    (omega (arith, asked-le _ _ c.ask-first.ensures, asked-le _ _ c.ask-second.ensures, c.sole-on.ensures.1))
