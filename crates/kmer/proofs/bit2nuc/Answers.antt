use mathlib.Core.Path.{◌≡◌}
use native.Mathlib.Omega.{arith}
use Rattle.rules.specs.Letters.{letter}
use Rattle.kmer.proofs.bit2nuc.Goals as goal

pub returns-in-0 : goal.returns-in-0
unfolding letter
returns-in-0 c = rw c.in-0.is

pub returns-in-1 : goal.returns-in-1
unfolding letter
returns-in-1 c = rw c.in-1.is

pub returns-in-2 : goal.returns-in-2
unfolding letter
returns-in-2 c = rw c.in-2.is

pub returns-in_default : goal.returns-in_default
unfolding letter
returns-in_default c =
    let e : c.args.bit ≡ 3 = omega arith in
    rw e
