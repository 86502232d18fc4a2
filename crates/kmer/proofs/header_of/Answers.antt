use mathlib.Core.Path.{refl}
use borrow.Author.Rules.{rules}
use Rattle.kmer.proofs.header_of.Goals as goal

pub returns : goal.returns
returns c = (record { k_low = search rules; k_high = search rules; mask_is = c.mask.ensures }, refl, refl, refl, refl)
