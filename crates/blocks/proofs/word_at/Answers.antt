use Rattle.std.proofs.Common.{◌∙◌}
use Rattle.blocks.proofs.Words.{word-little}
use Rattle.blocks.proofs.word_at.Goals as goal

pub returns : goal.returns
returns c = c.from_le_bytes.ensures ∙ word-little c.args.set.now c.args.at
