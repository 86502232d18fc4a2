use native.Mathlib.Omega.{arith}
use Rattle.record_text.proofs.Laws.{text-size, text-put}
use Rattle.record_text.proofs.put_record.Goals as goal

pub put_line-requires : goal.put_line-requires
put_line-requires c =
    omega (arith, c.requires, text-size c.args.name.now c.args.read.now)

pub put_read-requires : goal.put_read-requires
put_read-requires c =
    let p = c.put_line in
    omega (arith, c.requires, text-size c.args.name.now c.args.read.now, p.auto.out)

pub returns : goal.returns
returns c = text-put _ _ _ _ _ _ _ c.put_line.ensures c.put_read.ensures
