use native.Mathlib.Omega.{arith}
use borrow.Author.Tests.{lt-leb, le-leb, eq-eqb, ne_eqb}
use borrow.Author.Rules.{rules}
use Rattle.std.proofs.lemmas.Result.{err_from_is_err_and}
use Rattle.rules.specs.Refusal.{◌or_else◌, unless}
use Rattle.rules.specs.Job.{entry_count}
use Rattle.input.proofs.Checks.{needs-by-start}
use Rattle.input.proofs.check_needs.Goals as goal

pub returns-in_err-checked : goal.returns-in_err-checked
unfolding ◌or_else◌
returns-in_err-checked c =
    let p = err_from_is_err_and c.from_residual.result c.from_residual.ensures.1 in
    (rw (p.1, p.2, needs-by-start, ← c.in_err-checked.ensures.0), search rules)

pub returns-then-count-ne1 : goal.returns-then-count-ne1
unfolding ◌or_else◌ unless
returns-then-count-ne1 c =
    let other = ne_eqb (entry_count c.args.job.now) 1 (λ e. c.if-count-ne1.true (omega (arith, c.count.ensures))) in
    (rw (needs-by-start, ← c.in_ok-checked.ensures.0, other), search rules)

-- One entry: 5 decides.
pub returns-then-batch-work : goal.returns-then-batch-work
unfolding ◌or_else◌ unless
returns-then-batch-work c =
    let one = eq-eqb (entry_count c.args.job.now) 1 (omega (arith, c.count.ensures, c.if-count-ne1.false)) in
    (rw (needs-by-start, ← c.in_ok-checked.ensures.0, one, le-leb c.args.batch c.args.work c.if-batch-work.true), c.in_ok-checked.ensures.1)

pub returns-else-batch-work : goal.returns-else-batch-work
unfolding ◌or_else◌ unless
returns-else-batch-work c =
    let single = eq-eqb (entry_count c.args.job.now) 1 (omega (arith, c.count.ensures, c.if-count-ne1.false)) in
    (rw (needs-by-start, ← c.in_ok-checked.ensures.0, single, lt-leb c.args.batch c.args.work (omega (arith, c.if-batch-work.false))), search rules)
