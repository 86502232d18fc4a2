use borrow.Author.Rules.{rules}
use Rattle.support.proofs.Laws.{counts-passed, counts-offered}
use Rattle.support.proofs.check_counts.Goals as goal

pub returns-then-is_empty : goal.returns-then-is_empty
returns-then-is_empty c = λ set e. rw c.if-is_empty.true (counts-passed set c.args.counts.now (search rules))

pub returns-else-is_empty : goal.returns-else-is_empty
returns-else-is_empty c = λ set e. counts-offered set c.args.counts.now _ (λ z. search rules) e
