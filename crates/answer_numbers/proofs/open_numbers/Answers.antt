use mathlib.Core.Path.{◌∙◌, subst}
use Rattle.answer_numbers.specs.Numbers.{OpensWith}
use Rattle.answer_numbers.proofs.Numbers.{set-numbers, refused-numbers}
use Rattle.answer_numbers.proofs.open_numbers.Goals as goal

pub returns-in-Ok : goal.returns-in-Ok
returns-in-Ok c bytes t = set-numbers bytes c.in-Ok.k c.in-Ok.n (subst (OpensWith bytes) c.in-Ok.is t)

pub returns-in-Err : goal.returns-in-Err
returns-in-Err c bytes t =
    c.numbers.ensures ∙ refused-numbers bytes c.in-Err.wrong (subst (OpensWith bytes) c.in-Err.is t)
