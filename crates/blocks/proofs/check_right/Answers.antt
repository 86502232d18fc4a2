use Rattle.rules.specs.Set.{check_right}
use Rattle.blocks.proofs.check_right.Goals as goal

pub returns : goal.returns
unfolding check_right
returns c = rw (← c.block_word.ensures, ← c.check_word.ensures)
