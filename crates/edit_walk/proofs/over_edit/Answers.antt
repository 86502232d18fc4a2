use Rattle.std.proofs.Common.{sym, ◌∙◌}
use borrow.Author.Tests.{not-true, not-false}
use Rattle.std.proofs.lemmas.Result.{err_from_is_err_and}
use Rattle.rules.specs.Set.{solid, set_of}
use Rattle.edit_walk.specs.Walk.{stand_of}
use Rattle.edit_walk.proofs.Steps.{edit-stopped, edit-offends, edit-on, same_step}
use Rattle.edit_walk.proofs.over_edit.Goals as goal

pub returns-in_err-before : goal.returns-in_err-before
returns-in_err-before c =
    let a = c.args in
    let p = err_from_is_err_and c.from_residual.result c.from_residual.ensures.1 in
    rw (p.1, p.2)
    (edit-stopped a.set.now.head.k (solid (set_of a.set.now.bytes.now)) a.i a.kept.now a.letters.now (stand_of a.walk) c.in_err-before.ensures)

pub returns-then-not-ask : goal.returns-then-not-ask
returns-then-not-ask c =
    let a = c.args in
    edit-offends a.set.now.head.k (solid (set_of a.set.now.bytes.now)) a.i a.kept.now a.letters.now (stand_of a.walk) _ c.in_ok-before.ensures.0
    (sym c.ask.ensures.solid ∙ not-true _ c.if-not-ask.true)

pub returns : goal.returns
returns c =
    let a = c.args in
    same_step a.set.now.head.k c.pass_over-2.result
    (edit-on a.set.now.head.k (solid (set_of a.set.now.bytes.now)) a.i a.kept.now a.letters.now (stand_of a.walk) _ c.in_ok-before.ensures.0 _ c.or.ensures
    (sym c.ask.ensures.solid ∙ not-false _ c.if-not-ask.false))
    c.pass_over-2.ensures
