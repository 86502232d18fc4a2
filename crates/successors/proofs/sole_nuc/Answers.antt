use borrow.Author.Rules.{rules}
use Rattle.successors.proofs.Laws.{chosen-one, chosen_none}
use Rattle.successors.proofs.sole_nuc.Goals as goal

pub returns-then-a-c-eq1 : goal.returns-then-a-c-eq1
returns-then-a-c-eq1 c = chosen-one _ (search rules) c.if-a-c-eq1.true

pub returns-else-a-c-eq1 : goal.returns-else-a-c-eq1
returns-else-a-c-eq1 c = chosen_none _ (search rules) c.if-a-c-eq1.false
