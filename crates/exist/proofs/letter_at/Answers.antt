use Rattle.exist.proofs.Letters.{letter-is}
use Rattle.exist.proofs.letter_at.Goals as goal

pub returns : goal.returns
returns c = letter-is _ _ c.requires
