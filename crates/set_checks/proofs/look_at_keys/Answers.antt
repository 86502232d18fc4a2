use Prim.Native.Nat.{◌*◌, ◌-◌, ◌<◌, min}
use native.Mathlib.Omega.{arith}
use mathlib.Core.Path.{◌≡◌, refl, sym, ap, ◌∙◌}
use mathlib.Core.Bool.{◌&&◌}
use lib.Dec.{leb}
use borrow.Author.Rules.{rules}
use borrow.Author.Tests.{leb-true}
use Rattle.rules.specs.Letters.{mask, even_ones}
use Rattle.rules.specs.Refusal.{at_place}
use Rattle.rules.specs.Set as Rules
use Rattle.kmer.proofs.Laws.{bound}
use Rattle.rules_laws.proofs.First.{passed, failed}
use Rattle.set_checks.proofs.Header.{Sized, sized}
use Rattle.set_checks.proofs.Keys.{key-test, least-next}
use Rattle.rules_laws.proofs.Opened.{both}
use Rattle.blocks.proofs.Words.{key-in-block}
use Rattle.set_checks.proofs.look_at_keys.Goals.{After-block_word-key, After-key_right, In-loop-i, Start}
use Rattle.set_checks.proofs.look_at_keys.Goals as goal

header : (c : Start) → Sized c.args.set.now (Rules.header_k c.args.set.now) c.args.n
header c = sized c.args.set.now _ _ refl c.requires.1 c.requires.0

inside : (c : In-loop-i) → c.loop-i.i < 63 * (Rules.blocks c.args.set.now - 1)
inside c = search rules

read : (c : After-block_word-key)
    → c.block_word-key.result ≡ Rules.key_word c.args.set.now c.loop-i.i
read c =
    c.block_word-key.ensures ∙ key-in-block _ c.args.block c.loop-i.i (search rules) (search rules) (search rules)

-- the rules' test of word i is what the code's answers
same : (c : After-key_right)
    → Rules.key_right c.args.set.now c.loop-i.i ≡ c.key_right.result
same c =
    let w = read (goal.at.After-key_right c).After-block_word-key in
    key-test c.args.set.now c.loop-i.i c.args.mask (rw (← c.requires.1) (search rules)) (header (goal.at.After-key_right c).Start).odd c.requires.2 (rw (← w) (search rules))
    ∙ rw (← w, ← c.loop-i.invariant.2) (sym c.key_right.ensures)

pub overflow_mul-from : goal.overflow_mul-from
unfolding Rules.blocks
overflow_mul-from c = search rules

pub overflow_mul-block : goal.overflow_mul-block
unfolding Rules.blocks
overflow_mul-block c = search rules

pub loop-i-init : goal.loop-i-init
unfolding Rules.blocks
loop-i-init c =
    let z = header (goal.at.loop-i-init c).Start in
    (search rules, search rules, c.requires.5, refl)

pub block_word-key-requires : goal.block_word-key-requires
unfolding Rules.blocks
block_word-key-requires c = search rules

pub returns-then-not-key_right : goal.returns-then-not-key_right
unfolding at_place
returns-then-not-key_right c =
    c.loop-i.invariant.3 ∙ ap (at_place 10) (failed _ _ _ (inside (goal.at.returns-then-not-key_right c).In-loop-i) (same (goal.at.returns-then-not-key_right c).After-key_right ∙ c.if-not-key_right.true))

pub overflow_add-least : goal.overflow_add-least
unfolding mask
overflow_add-least c =
    let y = c.block_word-key.result in
    let e = both (leb y c.args.mask && leb c.loop-i.least y) (even_ones 32 y) (sym c.key_right.ensures ∙ c.if-not-key_right.false) in
    let small = leb-true y c.args.mask (both (leb y c.args.mask) (leb c.loop-i.least y) e.0).0 in
    omega (arith, small, c.requires.2, bound (Rules.header_k c.args.set.now) (header (goal.at.overflow_add-least c).Start).k_high)

pub loop-i-preserved : goal.loop-i-preserved
loop-i-preserved c = (
  search rules,
  search rules,
  least-next _ _ _ (read (goal.at.loop-i-preserved c).After-block_word-key),
  c.loop-i.invariant.3 ∙ ap (at_place 10) (passed _ _ _ (inside (goal.at.loop-i-preserved c).In-loop-i) (same (goal.at.loop-i-preserved c).After-key_right ∙ c.if-not-key_right.false)),
)

pub returns : goal.returns
returns c =
    let a = c.args in
    let e : c.loop-i.i ≡ min a.n (63 * a.block) = search rules in
    (rw e at c.loop-i.invariant.3, rw e at c.loop-i.invariant.2)
