use native.Mathlib.Omega.{arith}
use Rattle.index.proofs.Laws.{count-few}
use Rattle.index.proofs.block_count.Goals as goal

pub overflow_add-result : goal.overflow_add-result
overflow_add-result c = omega (arith, c.entry_count.ensures, count-few c.args.k)
