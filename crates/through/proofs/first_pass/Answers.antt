use Prim.Native.Nat.{◌-◌}
use native.Mathlib.Omega.{arith}
use Rattle.rules.specs.Job.{entry_count}
use Rattle.through.proofs.InTurn.{held-even, held-odd}
use Rattle.through.proofs.first_pass.Goals as goal

pub returns-then-count-eq1 : goal.returns-then-count-eq1
returns-then-count-eq1 c =
    let a = c.args in
    let even = held-even (entry_count a.job.now.bytes.now - 1) c.entry_pass.new.out a.work.now (omega (arith, c.if-count-eq1.true, c.count.ensures, c.requires.0)) in
    record { is = rw even c.entry_pass.ensures.is; small = c.entry_pass.ensures.small }

pub returns-else-count-eq1 : goal.returns-else-count-eq1
returns-else-count-eq1 c =
    let a = c.args in
    let pass = c.entry_pass-else-count-eq1 in
    let odd = held-odd (entry_count a.job.now.bytes.now - 1) a.output.now pass.new.out (omega (arith, c.if-count-eq1.false, c.count.ensures, c.requires.0)) in
    record { is = rw (odd, ← c.requires.2) pass.ensures.is; small = pass.ensures.small }
