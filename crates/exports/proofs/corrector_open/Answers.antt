use Rattle.exports.proofs.Told.{told-by}
use Rattle.exports.proofs.corrector_open.Goals as goal

pub returns : goal.returns
returns c =
    told-by (c.open_numbers-numbers.ensures _ c.header_of.ensures) c.tell.ensures
