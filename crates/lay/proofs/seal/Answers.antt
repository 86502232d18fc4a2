use borrow.Author.Rules.{rules}
use Rattle.lay.proofs.Laws.{sealed-more}
use Rattle.lay.proofs.seal.Goals as goal

pub loop-block-preserved : goal.loop-block-preserved
loop-block-preserved c =
    let l = c.loop-block in
    (search rules, sealed-more _ l.block _ _ _ l.invariant.1 c.check_word-check.ensures c.put_word.ensures)
