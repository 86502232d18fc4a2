use borrow.Author.Rules.{rules}
use Rattle.std.proofs.lemmas.Result.{err_from_is_err_and}
use Rattle.rules.specs.Refusal.{◌or_else◌}
use Rattle.input.proofs.check_start.Goals as goal

pub returns-in_err-check_length : goal.returns-in_err-check_length
unfolding ◌or_else◌
returns-in_err-check_length c =
    let p = err_from_is_err_and c.from_residual.result c.from_residual.ensures.1 in
    (rw (p.1, p.2, ← c.in_err-check_length.ensures), search rules)

pub returns : goal.returns
unfolding ◌or_else◌
returns c = (rw (← c.in_ok-check_length.ensures) c.check_job.ensures.0, c.check_job.ensures.1)
