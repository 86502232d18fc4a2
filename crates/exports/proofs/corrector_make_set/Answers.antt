use Rattle.exports.proofs.Told.{told-set}
use Rattle.exports.proofs.corrector_make_set.Goals as goal

pub returns : goal.returns
returns c =
    told-set _ c.made_numbers-numbers.ensures c.tell.ensures c.make_set.ensures
