use mathlib.Core.Path.{sym, ap, ◌∙◌}
use borrow.Author.Rules.{rules}
use Rattle.rules.specs.Refusal.{at_place}
use Rattle.rules.specs.Job.{known}
use Rattle.rules_laws.proofs.First.{passed, failed, ended}
use Rattle.input.proofs.check_methods.Invariants.{right}
use Rattle.input.proofs.check_methods.Goals as goal

pub returns-then-not-is_known : goal.returns-then-not-is_known
unfolding at_place
returns-then-not-is_known c =
    let other = ap known (sym c.method_of.ensures) ∙ sym c.is_known.ensures ∙ c.if-not-is_known.true in
    rw (c.loop-i.invariant.2, failed (right c.args.job.now) c.loop-i.i _ c.loop-i-test.true other)

pub loop-i-preserved : goal.loop-i-preserved
loop-i-preserved c =
    let same = ap known (sym c.method_of.ensures) ∙ sym c.is_known.ensures ∙ c.if-not-is_known.false in
    (c.loop-i.invariant.0, search rules, c.loop-i.invariant.2 ∙ passed (right c.args.job.now) c.loop-i.i _ c.loop-i-test.true same)

pub returns : goal.returns
unfolding at_place
returns c = rw (c.loop-i.invariant.2, ended (right c.args.job.now) c.loop-i.i _ c.loop-i-test.false)
