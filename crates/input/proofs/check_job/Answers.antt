use native.Mathlib.Omega.{arith}
use borrow.Author.Tests.{lt-leb, le-leb}
use mathlib.Core.Path.{sym}
use borrow.Author.Rules.{rules}
use Rattle.std.proofs.lemmas.Result.{err_from_is_err_and}
use Rattle.rules.specs.Refusal.{◌or_else◌, unless}
use Rattle.rules.specs.Job.{entry_count}
use Rattle.rules.specs.Calls.{max_methods, job_check}
use Rattle.rules_laws.proofs.Opened.{at_none}
use Rattle.entries.proofs.Laws.{by-check}
use Rattle.input.proofs.check_job.Goals as goal

pub returns-then-count-gt-MAX_METHODS : goal.returns-then-count-gt-MAX_METHODS
unfolding job_check unless ◌or_else◌
returns-then-count-gt-MAX_METHODS c =
    let many = lt-leb (entry_count c.args.job.now) max_methods (omega (arith, c.if-count-gt-MAX_METHODS.true, c.count.ensures)) in
    (rw many, search rules)

pub returns-in_err-check_methods : goal.returns-in_err-check_methods
unfolding job_check unless ◌or_else◌
returns-in_err-check_methods c =
    let p = err_from_is_err_and c.from_residual.result c.from_residual.ensures.1 in
    let few = le-leb (entry_count c.args.job.now) max_methods (omega (arith, c.if-count-gt-MAX_METHODS.false, c.count.ensures)) in
    (rw (p.1, p.2, few, ← c.in_err-check_methods.ensures), search rules)

pub returns-in_err-check_confirms : goal.returns-in_err-check_confirms
unfolding job_check unless ◌or_else◌
returns-in_err-check_confirms c =
    let p = err_from_is_err_and c.from_residual-in_err-check_confirms.result c.from_residual-in_err-check_confirms.ensures.1 in
    let few = le-leb (entry_count c.args.job.now) max_methods (omega (arith, c.if-count-gt-MAX_METHODS.false, c.count.ensures)) in
    (rw (p.1, p.2, few, ← c.in_ok-check_methods.ensures, ← c.in_err-check_confirms.ensures), search rules)

pub invariant_of-result : goal.invariant_of-result
invariant_of-result c = record { confirmed = by-check _ (at_none 4 _ (sym c.in_ok-check_confirms.ensures)) }

pub returns : goal.returns
unfolding job_check unless ◌or_else◌
returns c =
    let few = le-leb (entry_count c.args.job.now) max_methods (omega (arith, c.if-count-gt-MAX_METHODS.false, c.count.ensures)) in
    (rw (few, ← c.in_ok-check_methods.ensures, ← c.in_ok-check_confirms.ensures), search rules)
