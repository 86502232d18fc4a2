use Rattle.passed.proofs.Bits.{marked}
use Rattle.passed.proofs.filter.mark.Goals as goal

pub returns : goal.returns
returns c = let s = c.slot-at.ensures in marked _ _ _ _ s.0 s.1
