use Rattle.make_index.proofs.Makes.{all-written}
use Rattle.make_index.proofs.write.Goals as goal

pub returns : goal.returns
returns c =
    all-written _ _ _ c.args.set.now.opens c.args.count c.requires.0 c.args.blocks.now _ _ _ c.requires.1 (c.fill.ensures.after (λ y e. e)) c.write_entries.ensures c.seal.ensures
    (λ i. (c.type_inv.blocks i).fits)
