use Prim.Native.Nat.{◌≤◌}
use mathlib.Core.Path.{◌≡◌, refl, sym, ap, ◌∙◌}
use mathlib.Core.Bool.{true}
use lib.ListN.{length}
use borrow.Author.Rules.{rules}
use Rattle.std.proofs.lemmas.Result.{err_from_is_err_and}
use Rattle.rules.specs.Refusal.{at_place}
use Rattle.rules.specs.Set as Rules
use Rattle.rules_laws.proofs.First.{passed, failed}
use Rattle.opening.proofs.Opening.{length-right, length-zero, length-odd, accepted-by, refused-by, at_7, at_8, at_9}
use Rattle.set_checks.specs.Checks.{first_wrong}
use Rattle.opening.proofs.open.Goals.{Else-not-check_right, Else-set-ne0, then-set-eq0-via-then-set-eq0, then-set-eq0-via-else-set-eq0+then-set-ne0}
use Rattle.opening.proofs.open.Goals as goal

long : (c : Else-set-ne0) → 512 ≤ length c.args.set.now
long c = search rules

after-7 : (c : Else-set-ne0) → Rules.length_right c.args.set.now ≡ true
after-7 c = length-right _ (search rules) (search rules)

-- the check of block 0 is right
checked : (c : Else-not-check_right) → first_wrong c.args.set.now 0 ≡ first_wrong c.args.set.now 1
unfolding Rules.blocks
checked c =
    let l = long (goal.at.Else-not-check_right c).Else-set-ne0 in
    passed _ 0 _ (search rules) (sym c.check_right.ensures ∙ c.if-not-check_right.false)

pub returns-then-set-eq0 : goal.returns-then-set-eq0
returns-then-set-eq0 c =
    refused-by _ _ (at_7 _ (elim c.then-set-eq0.branch [
      | then-set-eq0-via-then-set-eq0 w ↦ length-zero _ w.if-set-eq0.true
      | then-set-eq0-via-else-set-eq0+then-set-ne0 w ↦ length-odd _ w.if-set-ne0.true
    ]))

pub returns-then-not-check_right : goal.returns-then-not-check_right
unfolding at_place Rules.blocks
returns-then-not-check_right c =
    let l = long (goal.at.returns-then-not-check_right c).Else-set-ne0 in
    let seven = after-7 (goal.at.returns-then-not-check_right c).Else-set-ne0 in
    refused-by _ _ (at_8 _ seven _ (ap (at_place 8) (failed _ 0 _ (search rules) (sym c.check_right.ensures ∙ c.if-not-check_right.true))))

pub header_right-requires : goal.header_right-requires
unfolding Rules.header_k Rules.header_n
header_right-requires c = (long (goal.at.header_right-requires c).Else-set-ne0, c.block_word-k.ensures, c.block_word-n.ensures)

pub returns-in_err-check_blocks : goal.returns-in_err-check_blocks
returns-in_err-check_blocks c =
    let p = err_from_is_err_and c.from_residual.result c.from_residual.ensures.1 in
    let at = goal.at.returns-in_err-check_blocks c in
    rw (p.1, p.2)
    (refused-by _ _ (at_8 _ (after-7 at.Else-set-ne0) _ (ap (at_place 8) (checked at.Else-not-check_right) ∙ sym c.in_err-check_blocks.ensures)))

pub returns-then-not-header_right : goal.returns-then-not-header_right
returns-then-not-header_right c =
    let at = goal.at.returns-then-not-header_right c in
    let eight = ap (at_place 8) (checked at.Else-not-check_right) ∙ sym c.in_ok-check_blocks.ensures in
    refused-by _ _ (at_9 _ (after-7 at.Else-set-ne0) eight (sym c.header_right.ensures ∙ c.if-not-header_right.true))

pub check_keys-requires : goal.check_keys-requires
unfolding Rules.header_k Rules.header_n
check_keys-requires c = (
  after-7 (goal.at.check_keys-requires c).Else-set-ne0,
  sym c.check_right.ensures ∙ c.if-not-check_right.false,
  sym c.header_right.ensures ∙ c.if-not-header_right.false,
  c.block_word-k.ensures,
  c.block_word-n.ensures,
)

pub returns-in_err-check_keys : goal.returns-in_err-check_keys
returns-in_err-check_keys c =
    let p = err_from_is_err_and c.from_residual-in_err-check_keys.result c.from_residual-in_err-check_keys.ensures.1 in
    rw (p.1, p.2) (refused-by _ _ (sym c.in_err-check_keys.ensures))

pub invariant_of-result : goal.invariant_of-result
unfolding Rules.header_k Rules.header_n
invariant_of-result c = record {
  opens = record { right = sym c.in_ok-check_keys.ensures; k_is = c.block_word-k.ensures; n_is = c.block_word-n.ensures };
}

pub returns : goal.returns
returns c = (accepted-by _ (sym c.in_ok-check_keys.ensures), refl)
