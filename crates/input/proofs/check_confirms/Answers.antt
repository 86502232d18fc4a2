use native.Mathlib.Omega.{arith}
use mathlib.Core.Path.{◌∙◌}
use borrow.Author.Tests.{lt-ltb, le-ltb}
use borrow.Author.Rules.{rules}
use Rattle.rules.specs.Refusal.{at_place}
use Rattle.rules.specs.Job.{confirm_byte}
use Rattle.rules_laws.proofs.First.{passed, failed, ended}
use Rattle.input.proofs.check_confirms.Invariants.{right}
use Rattle.input.proofs.check_confirms.Goals as goal

pub returns-then-confirm_of-eq0 : goal.returns-then-confirm_of-eq0
unfolding at_place
returns-then-confirm_of-eq0 c =
    let job = c.args.job.now in
    let none = le-ltb 0 (confirm_byte job c.loop-i.i) (omega (arith, c.if-confirm_of-eq0.true, c.confirm_of.ensures)) in
    rw (c.loop-i.invariant.2, failed (right job) c.loop-i.i _ c.loop-i-test.true none)

pub loop-i-preserved : goal.loop-i-preserved
loop-i-preserved c =
    let job = c.args.job.now in
    let some = lt-ltb 0 (confirm_byte job c.loop-i.i) (omega (arith, c.if-confirm_of-eq0.false, c.confirm_of.ensures)) in
    (c.loop-i.invariant.0, search rules, c.loop-i.invariant.2 ∙ passed (right job) c.loop-i.i _ c.loop-i-test.true some)

pub returns : goal.returns
unfolding at_place
returns c = rw (c.loop-i.invariant.2, ended (right c.args.job.now) c.loop-i.i _ c.loop-i-test.false)
