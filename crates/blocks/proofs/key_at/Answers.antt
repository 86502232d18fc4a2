use Rattle.std.proofs.Common.{◌∙◌, rules}
use Rattle.rules.specs.Set.{blocks}
use Rattle.blocks.proofs.Words.{key-place}
use Rattle.blocks.proofs.key_at.Goals as goal

pub overflow_add-i : goal.overflow_add-i
unfolding blocks
overflow_add-i c = search rules

pub overflow_mul-i : goal.overflow_mul-i
unfolding blocks
overflow_mul-i c = search rules

pub overflow_add-i-2 : goal.overflow_add-i-2
unfolding blocks
overflow_add-i-2 c = search rules

pub word_at-requires : goal.word_at-requires
unfolding blocks
word_at-requires c = search rules

pub returns : goal.returns
returns c = c.word_at.ensures ∙ key-place _ _
