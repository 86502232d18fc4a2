use native.Mathlib.Omega.{arith}
use Rattle.index.proofs.Laws.{count-few, shifted}
use Rattle.index.proofs.entry_count.Goals as goal

pub overflow_add-result : goal.overflow_add-result
overflow_add-result c = omega (arith, count-few c.args.k, shifted _ _ c.letters.ensures)

pub returns : goal.returns
returns c = shifted _ _ c.letters.ensures
