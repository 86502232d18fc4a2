use Prim.Native.Nat.{◌+◌, ◌*◌, ◌-◌, min}
use native.Mathlib.Omega.{arith}
use mathlib.Core.Path.{◌≡◌, sym, ap, ◌∙◌}
use borrow.Author.Rules.{rules}
use Rattle.std.proofs.lemmas.Result.{err_from_is_err_and}
use Rattle.rules.specs.Letters.{mask}
use Rattle.rules.specs.Refusal.{at_place}
use Rattle.rules.specs.Set as Rules
use Rattle.set_checks.specs.Keys.{least_key}
use Rattle.set_checks.specs.Checks.{first_wrong}
use Rattle.rules_laws.proofs.First.{passed, failed, ended}
use Rattle.set_checks.proofs.Header.{Sized, sized}
use Rattle.opening.proofs.Opening.{at_8, at-10}
use Rattle.opening.proofs.check_keys.Goals.{Else-not-check_right, In-loop-block, Start}
use Rattle.opening.proofs.check_keys.Goals as goal

header : (c : Start) → Sized c.args.set.now c.args.k c.args.n
header c = sized c.args.set.now c.args.k c.args.n c.requires.3 c.requires.4 c.requires.2

-- a block's keys start where those before it end
starts : (c : In-loop-block)
    → min c.args.n (63 * (c.loop-block.block - 1)) ≡ 63 * (c.loop-block.block - 1)
starts c = let z = header (goal.at.In-loop-block c).Start in search rules

-- the checks up to this block are right
checked : (c : Else-not-check_right) → first_wrong c.args.set.now 0 ≡ first_wrong c.args.set.now (c.loop-block.block + 1)
unfolding Rules.blocks
checked c =
    c.loop-block.invariant.3 ∙ passed _ c.loop-block.block _ c.loop-block-test.true (sym c.check_right.ensures ∙ c.if-not-check_right.false)

pub mask-mask-requires : goal.mask-mask-requires
mask-mask-requires c = let z = header (goal.at.mask-mask-requires c).Start in search rules

pub loop-block-init : goal.loop-block-init
unfolding least_key Rules.blocks
loop-block-init c =
    let z = header (goal.at.loop-block-init c).Start in
    let none_yet : min c.args.n 0 ≡ 0 = omega arith in
    (search rules, search rules, rw none_yet, passed _ 0 _ (search rules) c.requires.1, rw none_yet)

pub check_right-requires : goal.check_right-requires
unfolding Rules.blocks
check_right-requires c = search rules

pub returns-then-not-check_right : goal.returns-then-not-check_right
unfolding at_place Rules.blocks
returns-then-not-check_right c =
    let wrong = failed _ c.loop-block.block _ c.loop-block-test.true (sym c.check_right.ensures ∙ c.if-not-check_right.true) in
    sym (at_8 _ c.requires.0 _ (ap (at_place 8) (c.loop-block.invariant.3 ∙ wrong)))

pub look_at_keys-requires : goal.look_at_keys-requires
unfolding Rules.blocks
look_at_keys-requires c =
    (c.requires.2, c.requires.4, c.mask-mask.ensures ∙ ap mask c.requires.3, search rules, search rules, rw (starts (goal.at.look_at_keys-requires c).In-loop-block) at c.loop-block.invariant.2)

pub returns-in_err-check_blocks-in-Err : goal.returns-in_err-check_blocks-in-Err
returns-in_err-check_blocks-in-Err c =
    let p = err_from_is_err_and c.from_residual.result c.from_residual.ensures.1 in
    let right = checked (goal.at.returns-in_err-check_blocks-in-Err c).Else-not-check_right in
    rw (p.1, p.2) (sym (at_8 _ c.requires.0 _ (ap (at_place 8) right ∙ sym c.in_err-check_blocks-in-Err.ensures)))

pub returns-in-Err : goal.returns-in-Err
returns-in-Err c =
    let right = ap (at_place 8) (checked (goal.at.returns-in-Err c).Else-not-check_right) ∙ sym c.in_ok-check_blocks-in-Err.ensures in
    let key = (rw (starts (goal.at.returns-in-Err c).In-loop-block) at c.loop-block.invariant.4) ∙ c.in-Err.ensures in
    sym (at-10 _ c.requires.0 right c.requires.2 ∙ key)

pub loop-block-preserved : goal.loop-block-preserved
loop-block-preserved c =
    let right = c.in-Ok.ensures in
    let next : c.loop-block.block + 1 - 1 ≡ c.loop-block.block = omega arith in
    (search rules, search rules, rw next right.1, checked (goal.at.loop-block-preserved c).Else-not-check_right, rw next ((rw (starts (goal.at.loop-block-preserved c).In-loop-block) at c.loop-block.invariant.4) ∙ right.0))

pub check_spare-requires : goal.check_spare-requires
unfolding Rules.blocks
check_spare-requires c =
    let z = header (goal.at.check_spare-requires c).Start in
    (search rules, search rules, c.requires.4)

pub returns : goal.returns
unfolding at_place Rules.blocks
returns c =
    let z = header (goal.at.returns c).Start in
    let all : min c.args.n (63 * (c.loop-block.block - 1)) ≡ c.args.n = search rules in
    let right = ap (at_place 8) (c.loop-block.invariant.3 ∙ ended _ c.loop-block.block _ (search rules)) in
    c.check_spare.ensures ∙ sym (at-10 _ c.requires.0 right c.requires.2 ∙ (rw all at c.loop-block.invariant.4))
