use native.Mathlib.Omega.{arith}
use mathlib.Core.Path.{refl, sym}
use Rattle.std.proofs.lemmas.Result.{err_from_is_err_and}
use Rattle.rules.specs.Calls.{without_index}
use Rattle.report.proofs.Within.{within}
use Rattle.fasta.proofs.Opening.{fasta-refused, file-refused, file-right, fasta-not-offered, fasta-corrected, fasta-ceiling}
use Rattle.fasta.proofs.correct_fasta.Goals as goal

pub returns-in_err-checked-clause-exact : goal.returns-in_err-checked-clause-exact
returns-in_err-checked-clause-exact c =
    let p = err_from_is_err_and c.from_residual.result c.from_residual.ensures.1 in
    rw (p.1, p.2) (fasta-refused _ _ (sym c.in_err-checked.ensures.0))

pub check_file-requires : goal.check_file-requires
check_file-requires c = let w = within _ _ _ _ (sym c.in_ok-checked.ensures.0) in omega (arith, w.input)

pub returns-in_err-check_file-clause-exact : goal.returns-in_err-check_file-clause-exact
returns-in_err-check_file-clause-exact c =
    let p = err_from_is_err_and c.from_residual-in_err-check_file.result c.from_residual-in_err-check_file.ensures.1 in
    rw (p.1, p.2) (file-refused _ _ (sym c.in_ok-checked.ensures.0) (sym c.in_err-check_file.ensures))

pub returns-in_err-opened-clause-exact : goal.returns-in_err-opened-clause-exact
returns-in_err-opened-clause-exact c =
    let p = err_from_is_err_and c.from_residual-in_err-opened.result c.from_residual-in_err-opened.ensures.1 in
    rw (p.1, p.2) (fasta-not-offered _ (sym c.in_ok-checked.ensures.0) (sym c.in_ok-check_file.ensures) _ c.in_err-opened.ensures)

pub correct_records-requires : goal.correct_records-requires
correct_records-requires c =
    (rw (c.in_ok-checked.ensures.1 _ refl) (within _ _ _ _ (sym c.in_ok-checked.ensures.0)), file-right _ (sym c.in_ok-check_file.ensures))

pub returns : goal.returns
unfolding without_index
returns c =
    let ready = c.in_ok-opened.ensures in
    let corrected = rw (ready.bytes_are, ready.counts_are, c.in_ok-checked.ensures.1 _ refl) at c.correct_records.ensures in
    let exact = fasta-corrected _ (sym c.in_ok-checked.ensures.0) (sym c.in_ok-check_file.ensures) ready.opens ready.passes c.correct_records.result corrected in
    record { exact = exact; ceiling = fasta-ceiling _ c.correct_records.result exact }
