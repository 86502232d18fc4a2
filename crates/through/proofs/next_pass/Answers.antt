use Prim.Native.Nat.{◌-◌, ◌%◌}
use native.Mathlib.Omega.{arith}
use mathlib.Core.Path.{◌≡◌}
use Rattle.rules.specs.Job.{entry_count}
use Rattle.through.proofs.InTurn.{held-even, held-odd}
use Rattle.through.proofs.next_pass.Goals as goal

pub returns-then-left-eq0 : goal.returns-then-left-eq0
returns-then-left-eq0 c =
    let a = c.args in
    let left = entry_count a.job.now.bytes.now - a.i in
    let even : left % 2 ≡ 0 = omega (arith, c.if-left-eq0.true, c.count.ensures) in
    let reads = held-even left a.output.now a.work.now even in
    let writes = held-odd (left - 1) a.output.now c.entry_pass.new.out (omega (arith, even, c.requires.0)) in
    record { is = rw (writes, reads, ← c.requires.3) c.entry_pass.ensures.is; small = rw reads c.entry_pass.ensures.small }

pub returns-else-left-eq0 : goal.returns-else-left-eq0
returns-else-left-eq0 c =
    let a = c.args in
    let pass = c.entry_pass-else-left-eq0 in
    let left = entry_count a.job.now.bytes.now - a.i in
    let odd : left % 2 ≡ 1 = omega (arith, c.if-left-eq0.false, c.count.ensures) in
    let reads = held-odd left a.output.now a.work.now odd in
    let writes = held-even (left - 1) pass.new.out a.work.now (omega (arith, odd, c.requires.0)) in
    record { is = rw (writes, reads) pass.ensures.is; small = rw reads pass.ensures.small }
