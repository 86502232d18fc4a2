use Rattle.exports.proofs.Told.{told-by, needs-exact, needs-ceiling}
use Rattle.exports.proofs.corrector_needs.Goals as goal

pub returns : goal.returns
returns c =
    let d = c.needs in
    let told = told-by c.needs_numbers-numbers.ensures c.tell.ensures in
    record { exact = needs-exact d.result told d.ensures.exact; ceiling = needs-ceiling _ _ _ d.result told d.ensures.ceiling }
