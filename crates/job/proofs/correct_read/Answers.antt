use mathlib.Core.Path.{refl, sym}
use Rattle.std.proofs.lemmas.Result.{err_from_is_err_and}
use Rattle.rules.specs.Calls.{without_index}
use Rattle.report.proofs.Within.{within, confirms}
use Rattle.job.proofs.Opening.{read-refused, read-not-opened, read-corrected}
use Rattle.job.proofs.correct_read.Goals as goal

pub returns-in_err-checked-clause-exact : goal.returns-in_err-checked-clause-exact
returns-in_err-checked-clause-exact c =
    let p = err_from_is_err_and c.from_residual.result c.from_residual.ensures.1 in
    rw (p.1, p.2) (read-refused _ _ (sym c.in_err-checked.ensures.0))

pub returns-in_err-opened-clause-exact : goal.returns-in_err-opened-clause-exact
returns-in_err-opened-clause-exact c =
    let p = err_from_is_err_and c.from_residual-in_err-opened.result c.from_residual-in_err-opened.ensures.1 in
    rw (p.1, p.2) (read-not-opened _ _ (sym c.in_ok-checked.ensures.0) c.in_err-opened.ensures)

pub correct_one-requires : goal.correct_one-requires
correct_one-requires c = rw (c.in_ok-checked.ensures.1 _ refl) (within _ _ _ _ (sym c.in_ok-checked.ensures.0))

pub returns : goal.returns
unfolding without_index
returns c =
    let ready = c.in_ok-opened.ensures in
    let f = sym c.in_ok-checked.ensures.0 in
    let exact = rw (ready.bytes_are, ready.counts_are, c.in_ok-checked.ensures.1 _ refl) at c.correct_one.ensures in
    let both = read-corrected _ _ f ready.opens ready.passes (confirms _ _ _ _ f) exact in
    record { exact = both.0; ceiling = both.1 }
