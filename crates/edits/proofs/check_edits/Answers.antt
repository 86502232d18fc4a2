use Rattle.std.proofs.Common.{sym, ◌∙◌}
use Rattle.std.proofs.lemmas.Result.{err_from_is_err_and}
use Rattle.offered.proofs.Nothing.{set-refused}
use Rattle.edits.proofs.Call.{read-long, mended-long, not_opened, is-judged}
use Rattle.edits.proofs.check_edits.Goals as goal

pub returns-in_err-check_length : goal.returns-in_err-check_length
returns-in_err-check_length c =
    let p = err_from_is_err_and c.from_residual.result c.from_residual.ensures.1 in
    rw (p.1, p.2) (sym (read-long _ _ _ (sym c.in_err-check_length.ensures)))

pub returns-in_err-check_length-2 : goal.returns-in_err-check_length-2
returns-in_err-check_length-2 c =
    let p = err_from_is_err_and c.from_residual-in_err-check_length-2.result c.from_residual-in_err-check_length-2.ensures.1 in
    rw (p.1, p.2) (sym (mended-long _ _ (sym c.in_ok-check_length.ensures) _ (sym c.in_err-check_length-2.ensures)))

pub returns-in_err-opened : goal.returns-in_err-opened
returns-in_err-opened c =
    let p = err_from_is_err_and c.from_residual-in_err-opened.result c.from_residual-in_err-opened.ensures.1 in
    rw (p.1, p.2) (sym (not_opened _ _ (sym c.in_ok-check_length.ensures) (sym c.in_ok-check_length-2.ensures) _ (set-refused _ _ c.in_err-opened.ensures)))

pub returns : goal.returns
returns c =
    let o = c.in_ok-opened in
    (rw o.ensures.bytes_are at c.judge.ensures)
    ∙ sym (is-judged _ _ (sym c.in_ok-check_length.ensures) (sym c.in_ok-check_length-2.ensures) _ (rw o.ensures.bytes_are at o.opened.ready.k_is) o.ensures.opens)
