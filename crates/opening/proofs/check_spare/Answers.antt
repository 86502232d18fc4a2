use mathlib.Core.Path.{refl, sym, ap, ◌∙◌}
use borrow.Author.Rules.{rules}
use borrow.Author.Tests.{eq-eqb, ne_eqb}
use Rattle.rules.specs.Refusal.{at_place}
use Rattle.rules.specs.Set as Rules
use Rattle.rules_laws.proofs.First.{passed, failed, ended}
use Rattle.set_checks.proofs.Keys.{spare-test}
use Rattle.opening.proofs.check_spare.Goals as goal

pub overflow_sub-words : goal.overflow_sub-words
unfolding Rules.blocks
overflow_sub-words c = search rules

pub overflow_mul-words : goal.overflow_mul-words
unfolding Rules.blocks
overflow_mul-words c = search rules

pub loop-word-init : goal.loop-word-init
loop-word-init c = (search rules, refl)

pub key_at-requires : goal.key_at-requires
unfolding Rules.blocks
key_at-requires c = search rules

pub returns-then-key_at-ne0 : goal.returns-then-key_at-ne0
unfolding at_place Rules.blocks
returns-then-key_at-ne0 c =
    let ne = ne_eqb _ _ (λ e. c.if-key_at-ne0.true (c.key_at.ensures ∙ e)) in
    sym (c.loop-word.invariant.1 ∙ ap (at_place 10) (failed _ c.loop-word.word _ c.loop-word-test.true (spare-test _ _ (search rules) ∙ ne)))

pub loop-word-preserved : goal.loop-word-preserved
unfolding Rules.blocks
loop-word-preserved c =
    let e = eq-eqb _ _ (sym c.key_at.ensures ∙ c.if-key_at-ne0.false) in
    (search rules, c.loop-word.invariant.1 ∙ ap (at_place 10) (passed _ c.loop-word.word _ c.loop-word-test.true (spare-test _ _ (search rules) ∙ e)))

pub returns : goal.returns
unfolding at_place Rules.blocks
returns c = sym (c.loop-word.invariant.1 ∙ ap (at_place 10) (ended _ c.loop-word.word _ (search rules)))
