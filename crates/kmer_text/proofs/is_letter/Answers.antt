use borrow.Author.Rules.{rules}
use mathlib.Core.Path.{sym}
use Rattle.kmer_text.proofs.Laws.{letter-one, letter-none}
use Rattle.kmer_text.proofs.is_letter.Goals as goal

pub returns-in-65 : goal.returns-in-65
returns-in-65 c = sym (letter-one _ c.in-65.is)

pub returns-in_default : goal.returns-in_default
returns-in_default c = sym (letter-none _ (search rules))
