use Rattle.rules.specs.Set.{entry_in}
use Rattle.index.proofs.entry_at.Goals as goal

pub returns : goal.returns
unfolding entry_in
returns c = c.block_word.ensures
