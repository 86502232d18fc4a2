use Rattle.std.proofs.Common.{◌∙◌}
use Rattle.blocks.proofs.Words.{block-place}
use Rattle.blocks.proofs.block_word.Goals as goal

pub returns : goal.returns
returns c = c.word_at.ensures ∙ block-place _ _ _
