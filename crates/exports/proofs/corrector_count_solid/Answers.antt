use mathlib.Core.Path.{ap, ◌∙◌}
use Rattle.answer_numbers.specs.Numbers.{solid_numbers}
use Rattle.exports.proofs.Told.{told-by}
use Rattle.exports.proofs.corrector_count_solid.Goals as goal

pub returns : goal.returns
returns c =
    told-by (c.solid_numbers-numbers.ensures ∙ ap solid_numbers c.count_solid.ensures) c.tell.ensures
