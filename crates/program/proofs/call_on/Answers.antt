use native.Mathlib.Omega.{arith}
use mathlib.Core.Path.{refl, sym}
use mathlib.Core.List.{[]}
use lib.Seq.{length-take-le}
use Rattle.rules_program.specs.Program.{zeros}
use Rattle.page.proofs.Text.{length-page}
use Rattle.program.proofs.Answer.{answered}
use Rattle.program.proofs.call_on.Goals as goal

pub slice_bounds-correct_batch-end-3 : goal.slice_bounds-correct_batch-end-3
slice_bounds-correct_batch-end-3 c =
    omega (arith, length-page [] 0 c.args.page.now c.requires)

pub slice_bounds-correct_batch-end-4 : goal.slice_bounds-correct_batch-end-4
slice_bounds-correct_batch-end-4 c =
    sym (length-take-le 32768 c.args.page.now (omega (arith, length-page [] 0 c.args.page.now c.requires)))

pub returns : goal.returns
unfolding zeros
returns c =
    let e = c.correct_batch in
    answered _ _ _ _ _ _ _ _ c.requires refl e.ensures.exact e.auto.output
