use mathlib.Core.Path.{sym, ◌∙◌}
use Rattle.records.proofs.Laws.{see-right, see-wrong, see-after}
use Rattle.records.proofs.see.Goals as goal

pub returns-in-Ok : goal.returns-in-Ok
returns-in-Ok c =
    see-right _ _ _ _ (rw (c.from.ensures, c.is_name.ensures)) c.in-Ok.is (sym c.line_right.ensures ∙ c.if-line_right.true)

pub returns-in-Ok-2 : goal.returns-in-Ok-2
returns-in-Ok-2 c =
    see-wrong _ _ _ _ (rw (c.from.ensures, c.is_name.ensures)) c.in-Ok-2.is (sym c.line_right.ensures ∙ c.if-line_right.false)

pub returns-in-Err : goal.returns-in-Err
returns-in-Err c = see-after _ _ _ _ (rw (c.from.ensures, c.is_name.ensures)) c.in-Err.is
