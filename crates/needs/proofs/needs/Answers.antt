use mathlib.Core.Path.{◌≡◌, refl, sym}
use mathlib.Core.Bool.{true}
use Rattle.std.proofs.lemmas.Result.{err_from_is_err_and}
use Rattle.rules.specs.Calls.{batch_right}
use Rattle.rules_needs.specs.Needs as wanted
use Rattle.rules_laws.proofs.Opened.{unless-passed}
use Rattle.needs.specs.Needs.{asked}
use Rattle.needs.proofs.Calls.{bookable, ceiling, checked_refused, not_right, not_opened, counted-exact}
use Rattle.needs.proofs.needs.Goals.{Start, In_ok-check_batch}
use Rattle.needs.proofs.needs.Goals as goal

abbrev call : Start → wanted.Asked
call c = (let a = c.args in asked a.set.now a.index.now a.counts.now a.job.now a.batch.now a.work.now)

pub returns-in_err-checked-clause-exact : goal.returns-in_err-checked-clause-exact
returns-in_err-checked-clause-exact c =
    let p = err_from_is_err_and c.from_residual.result c.from_residual.ensures.1 in
    rw (p.1, p.2) (checked_refused (call (goal.at.returns-in_err-checked-clause-exact c).Start) _ (sym c.in_err-checked.ensures.0))

pub returns-in_err-check_batch-clause-exact : goal.returns-in_err-check_batch-clause-exact
returns-in_err-check_batch-clause-exact c =
    let p = err_from_is_err_and c.from_residual-in_err-check_batch.result c.from_residual-in_err-check_batch.ensures.1 in
    rw (p.1, p.2) (not_right (call (goal.at.returns-in_err-check_batch-clause-exact c).Start) (sym c.in_ok-checked.ensures.0) _ c.in_err-check_batch.ensures)

-- Check 6 lets pass.
right : (c : In_ok-check_batch) → batch_right c.args.batch.now ≡ true
right c = unless-passed (batch_right c.args.batch.now) 6 (sym c.in_ok-check_batch.ensures)

pub returns-in_err-opened-clause-exact : goal.returns-in_err-opened-clause-exact
returns-in_err-opened-clause-exact c =
    let p = err_from_is_err_and c.from_residual-in_err-opened.result c.from_residual-in_err-opened.ensures.1 in
    rw (p.1, p.2) (not_opened (call (goal.at.returns-in_err-opened-clause-exact c).Start) (sym c.in_ok-checked.ensures.0) (right (goal.at.returns-in_err-opened-clause-exact c).In_ok-check_batch) _ c.in_err-opened.ensures)

pub count_lines-requires : goal.count_lines-requires
count_lines-requires c =
    (rw (c.in_ok-checked.ensures.1 _ refl) (bookable _ _ _ (sym c.in_ok-checked.ensures.0)), right (goal.at.count_lines-requires c).In_ok-check_batch)

pub returns : goal.returns
returns c =
    let ready = c.in_ok-opened.ensures in
    let counted = rw (ready.bytes_are, ready.counts_are, c.in_ok-checked.ensures.1 _ refl) at c.count_lines.ensures in
    let exact = counted-exact (call (goal.at.returns c).Start) (sym c.in_ok-checked.ensures.0) (right (goal.at.returns c).In_ok-check_batch) ready.opens ready.passes _ counted in
    record { exact = exact; ceiling = ceiling (call (goal.at.returns c).Start) _ exact }
