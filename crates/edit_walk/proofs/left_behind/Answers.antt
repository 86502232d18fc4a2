use Rattle.std.proofs.Common.{refl}
use Rattle.edit_walk.specs.Walk.{next}
use Rattle.edit_walk.proofs.Steps.{next-end, next-same, next-other}
use Rattle.edit_walk.proofs.left_behind.Goals as goal

pub returns-in_err-left : goal.returns-in_err-left
unfolding next
returns-in_err-left c = rw (c.from_residual.ensures, c.in_err-left.was) refl

pub returns-in_err-first : goal.returns-in_err-first
returns-in_err-first c =
    rw (c.from_residual-in_err-first.ensures, c.in_ok-left.was) (next-end c.args.base c.in_ok-left.field-0.now c.in_err-first.ensures.cases)

pub returns-then-first-base : goal.returns-then-first-base
returns-then-first-base c =
    rw (c.in_ok-left.was, c.in_ok-first.ensures.cases.0) (next-same c.args.base c.in_ok-first.first.now c.in_ok-first.rest.now c.if-first-base.true)

pub returns-else-first-base : goal.returns-else-first-base
returns-else-first-base c =
    rw (c.in_ok-left.was, c.in_ok-first.ensures.cases.0) (next-other c.args.base c.in_ok-first.first.now c.in_ok-first.rest.now c.if-first-base.false)
