use native.Mathlib.Omega.{arith}
use Rattle.rules_laws.proofs.Keys.{the-header}
use Rattle.index.proofs.Laws.{entry-le}
use Rattle.make_index.proofs.skip_below.Goals as goal

pub overflow_add-i : goal.overflow_add-i
overflow_add-i c =
    let o = c.args.set.now.opens in
    omega (arith, c.loop-i.invariant, entry-le _ o.right c.args.v, (the-header _ o.right).few)
