use Rattle.std.proofs.Common.{◌≡◌, refl, rules}
use Rattle.rules.specs.Set.{sum_words}
use Rattle.blocks.proofs.Words.{sum_more, sum-end}
use Rattle.blocks.proofs.check_word.Goals as goal

pub loop-i-init : goal.loop-i-init
unfolding sum_words
loop-i-init c = (search rules, refl)

pub loop-i-preserved : goal.loop-i-preserved
loop-i-preserved c =
    let l = c.loop-i in
    (search rules, rw c.block_word-sum.ensures (sum_more _ _ l.i l.sum l.invariant.1))

pub returns : goal.returns
returns c =
    let l = c.loop-i in
    let e : l.i ≡ 63 = search rules in
    sum-end _ _ l.sum (rw e at l.invariant.1)
