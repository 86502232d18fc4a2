use mathlib.Core.Path.{sym, ◌∙◌}
use borrow.Author.Rules.{rules}
use Rattle.rules.specs.Letters.{met}
use Rattle.passed.proofs.Among.{seen_here, seen-on, seen_end}
use Rattle.passed.proofs.seen.Goals as goal

pub returns-then-same : goal.returns-then-same
unfolding met
returns-then-same c = rw (sym c.same.ensures ∙ c.if-same.true)

pub loop-letter-init : goal.loop-letter-init
unfolding met
loop-letter-init c = (c.requires, rw (sym c.same.ensures ∙ c.if-same.false))

pub returns-then-same-2 : goal.returns-then-same-2
returns-then-same-2 c =
    let l = c.loop-letter in
    sym (l.invariant.1 ∙ seen_here _ _ _ l.letter-index _ (search rules) c.add_base-at.ensures.is (sym c.same-in-loop-letter.ensures ∙ c.if-same-2.true))

pub loop-letter-preserved : goal.loop-letter-preserved
loop-letter-preserved c =
    let l = c.loop-letter in
    let e = c.add_base-at.ensures in
    (e.kmer, l.invariant.1 ∙ seen-on _ _ _ l.letter-index _ (search rules) e.is (sym c.same-in-loop-letter.ensures ∙ c.if-same-2.false))

pub returns : goal.returns
returns c = let l = c.loop-letter in sym (l.invariant.1 ∙ seen_end _ _ _ l.letter-index _ (search rules))
