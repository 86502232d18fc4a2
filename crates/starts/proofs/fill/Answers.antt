use Prim.Native.Nat.{◌+◌}
use native.Mathlib.Omega.{arith}
use mathlib.Core.Path.{◌∙◌}
use lib.ListN.{drop, get_or-append}
use lib.Seq.{length-take-le}
use Rattle.starts.proofs.Ends.{starts-highest, highest-take}
use Rattle.starts.proofs.fill.Goals as goal

pub returns : goal.returns
returns c v l =
    let m = c.args.prefixes + 1 in
    let marked = c.mark_ends.new.starts in
    let room = length-take-le m marked (omega (arith, c.mark_ends.auto.starts)) in
    let first = get_or-append c.carry_ends.new.starts (drop m marked) 0 v (omega (arith, c.carry_ends.auto.starts)) in
    rw (first ∙ c.carry_ends.ensures v (omega arith) ∙ highest-take m marked v l)
    (starts-highest _ _ _ _ c.args.set.now.opens.right (rw c.args.set.now.opens.n_is at c.mark_ends.ensures) v l)
