use native.Mathlib.Omega.{arith}
use Rattle.std.proofs.lemmas.Grind.{common_steps}
use Rattle.records.proofs.Laws.{among-any, right-none, right-some}
use Rattle.records.proofs.line_right.Goals.{then-is_empty-via-then-is_empty, then-is_empty-via-else-is_empty+then-is_name}
use Rattle.records.proofs.line_right.Goals as goal

pub returns-then-is_empty : goal.returns-then-is_empty
returns-then-is_empty c =
    elim c.then-is_empty.branch [
      | then-is_empty-via-then-is_empty w ↦ grind (arith, common_steps, right-none)
      | then-is_empty-via-else-is_empty+then-is_name w ↦ grind (arith, common_steps, right-some)
    ]

pub returns-then-named : goal.returns-then-named
returns-then-named c = grind (arith, common_steps, among-any, right-some)

pub returns-else-named : goal.returns-else-named
returns-else-named c = grind (arith, common_steps, right-some)
