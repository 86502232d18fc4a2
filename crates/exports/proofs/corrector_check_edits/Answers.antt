use mathlib.Core.Path.{ap, ◌∙◌}
use Rattle.answer_numbers.specs.Numbers.{check_numbers}
use Rattle.exports.proofs.Told.{told-by}
use Rattle.exports.proofs.corrector_check_edits.Goals as goal

pub returns : goal.returns
returns c =
    told-by (c.check_numbers-numbers.ensures ∙ ap check_numbers c.check_edits.ensures) c.tell.ensures
