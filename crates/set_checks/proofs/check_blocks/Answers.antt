use Prim.Native.Nat.{◌/◌}
use mathlib.Core.Path.{sym, ◌∙◌}
use lib.ListN.{length}
use borrow.Author.Rules.{rules}
use Rattle.rules.specs.Refusal.{at_place}
use Rattle.rules.specs.Set as Rules
use Rattle.rules_laws.proofs.First.{passed, failed, ended}
use Rattle.set_checks.proofs.check_blocks.Goals as goal

pub returns-then-not-check_right : goal.returns-then-not-check_right
unfolding at_place Rules.blocks
returns-then-not-check_right c =
    rw (c.loop-block.invariant, failed (Rules.check_right c.args.set.now) c.loop-block.block _ c.loop-block-test.true (sym c.check_right.ensures ∙ c.if-not-check_right.true))

pub loop-block-preserved : goal.loop-block-preserved
unfolding Rules.blocks
loop-block-preserved c =
    c.loop-block.invariant ∙ passed _ c.loop-block.block _ c.loop-block-test.true (sym c.check_right.ensures ∙ c.if-not-check_right.false)

pub returns : goal.returns
unfolding at_place Rules.blocks
returns c = rw (c.loop-block.invariant, ended (Rules.check_right c.args.set.now) c.loop-block.block (length c.args.set.now / 512) (search rules))
