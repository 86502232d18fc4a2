use mathlib.Core.Path.{◌≡◌, refl}
use native.Mathlib.Omega.{arith}
use Rattle.rules.specs.Letters.{complement}
use Rattle.kmer.proofs.complement.Goals as goal

pub returns-in-0 : goal.returns-in-0
unfolding complement
returns-in-0 c = rw c.in-0.is (refl, refl)

pub returns-in-1 : goal.returns-in-1
unfolding complement
returns-in-1 c = rw c.in-1.is (refl, refl)

pub returns-in-2 : goal.returns-in-2
unfolding complement
returns-in-2 c = rw c.in-2.is (refl, refl)

pub returns-in_default : goal.returns-in_default
unfolding complement
returns-in_default c =
    let e : c.args.nuc ≡ 3 = omega arith in
    rw e (refl, refl)
