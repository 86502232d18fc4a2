use borrow.Author.Rules.{rules}
use Rattle.rules_make.specs.MakeSet.{is_digit}
use Rattle.kmer_text.proofs.is_digit.Goals as goal

pub returns : goal.returns
unfolding is_digit
returns c = let h = c.is_ascii_digit.ensures in search rules
