use mathlib.Core.Path.{ap, ◌∙◌}
use Rattle.bridge_numbers.specs.Numbers.{bridge_numbers}
use Rattle.exports.proofs.Told.{told-by}
use Rattle.exports.proofs.corrector_bridge.Goals as goal

pub returns : goal.returns
returns c =
    told-by (c.numbers_of-numbers.ensures ∙ ap bridge_numbers c.find_bridge.ensures.told) c.tell.ensures
