use Rattle.exports.proofs.Told.{told-exact, told-ceiling}
use Rattle.exports.proofs.corrector_fasta.Goals as goal

pub returns : goal.returns
returns c =
    let d = c.correct_fasta in
    record { exact = told-exact d.result c.tell_answer.ensures d.ensures.exact; ceiling = told-ceiling _ _ _ d.result c.tell_answer.ensures d.ensures.ceiling }
