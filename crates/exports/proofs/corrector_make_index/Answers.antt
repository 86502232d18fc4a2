use Rattle.exports.proofs.Told.{told-made}
use Rattle.exports.proofs.corrector_make_index.Goals as goal

pub returns : goal.returns
returns c =
    told-made _ c.made_numbers-numbers.ensures c.tell.ensures c.make_index.ensures
