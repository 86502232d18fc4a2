use mathlib.Core.Path.{◌∙◌}
use native.Mathlib.Omega.{arith}
use Rattle.cache_line.proofs.Lines.{line_word}
use Rattle.cache_line.proofs.line_key.Goals as goal

pub returns : goal.returns
returns c = c.word_at.ensures ∙ line_word _ _ _ _ (omega arith)
