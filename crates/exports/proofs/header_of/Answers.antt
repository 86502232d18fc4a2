use Rattle.std.proofs.lemmas.Result.{err_from_is_err_and}
use Rattle.exports.proofs.header_of.Goals as goal

pub returns-in_err-open : goal.returns-in_err-open
returns-in_err-open c =
    let p = err_from_is_err_and c.from_residual.result c.from_residual.ensures.1 in
    rw (p.1, p.2) c.in_err-open.ensures

pub returns : goal.returns
returns c =
    let t = c.in_ok-open.ensures in
    let o = c.in_ok-open.open.opens in
    (t.0, rw t.1 at o.k_is, rw t.1 at o.n_is)
