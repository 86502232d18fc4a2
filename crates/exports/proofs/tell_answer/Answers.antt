use Rattle.exports.proofs.Told.{told-by}
use Rattle.exports.proofs.tell_answer.Goals as goal

pub returns : goal.returns
returns c = told-by c.numbers_of-numbers.ensures c.tell.ensures
