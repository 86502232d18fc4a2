use mathlib.Core.Path.{refl, sym}
use Rattle.std.proofs.lemmas.Result.{err_from_is_err_and}
use Rattle.rules.specs.Calls.{without_index, batch_right}
use Rattle.rules_laws.proofs.Opened.{unless-passed}
use Rattle.report.proofs.Within.{within, confirms}
use Rattle.job.proofs.Opening.{batch-refused, batch-not-right, batch-not-opened, batch-corrected}
use Rattle.job.proofs.correct_batch.Goals as goal

pub returns-in_err-checked-clause-exact : goal.returns-in_err-checked-clause-exact
returns-in_err-checked-clause-exact c =
    let p = err_from_is_err_and c.from_residual.result c.from_residual.ensures.1 in
    rw (p.1, p.2) (batch-refused _ _ (sym c.in_err-checked.ensures.0))

pub returns-in_err-check_batch-clause-exact : goal.returns-in_err-check_batch-clause-exact
returns-in_err-check_batch-clause-exact c =
    let p = err_from_is_err_and c.from_residual-in_err-check_batch.result c.from_residual-in_err-check_batch.ensures.1 in
    rw (p.1, p.2) (batch-not-right _ (sym c.in_ok-checked.ensures.0) _ c.in_err-check_batch.ensures)

pub returns-in_err-opened-clause-exact : goal.returns-in_err-opened-clause-exact
returns-in_err-opened-clause-exact c =
    let p = err_from_is_err_and c.from_residual-in_err-opened.result c.from_residual-in_err-opened.ensures.1 in
    rw (p.1, p.2) (batch-not-opened _ (sym c.in_ok-checked.ensures.0) (sym c.in_ok-check_batch.ensures) _ c.in_err-opened.ensures)

pub correct_lines-requires : goal.correct_lines-requires
correct_lines-requires c =
    (rw (c.in_ok-checked.ensures.1 _ refl) (within _ _ _ _ (sym c.in_ok-checked.ensures.0)), unless-passed (batch_right c.args.batch.now) 6 (sym c.in_ok-check_batch.ensures))

pub returns : goal.returns
unfolding without_index
returns c =
    let ready = c.in_ok-opened.ensures in
    let f = sym c.in_ok-checked.ensures.0 in
    let exact = rw (ready.bytes_are, ready.counts_are, c.in_ok-checked.ensures.1 _ refl) at c.correct_lines.ensures in
    let both = batch-corrected _ f (sym c.in_ok-check_batch.ensures) _ ready.opens ready.passes (confirms _ _ _ _ f) exact in
    record { exact = both.0; ceiling = both.1 }
