use native.Mathlib.Omega.{arith}
use mathlib.Core.Path.{ap, ◌∙◌}
use Rattle.input.specs.Input.{bytes_left, lines_left}
use Rattle.input.proofs.Batch.{lines-fit}
use Rattle.records.proofs.Laws.{seen_none, seen-on}
use Rattle.records.proofs.see_all.Goals as goal

pub loop-line-init : goal.loop-line-init
loop-line-init c =
    let all = ap bytes_left c.into_iter-line-iterator.ensures.into_iter_gives ∙ c.lines-line-items.ensures in
    rw all (seen_none c.args.file.now)

pub see-seen-requires : goal.see-seen-requires
see-seen-requires c =
    let i = c.loop-line.invariant in
    let fit = lines-fit c.args.file.now in
    (omega (arith, i.few, fit, c.requires), omega (arith, i.near, fit, c.requires))

pub loop-line-preserved : goal.loop-line-preserved
loop-line-preserved c =
    seen-on _ c.in-Some.line.now (lines_left c.next.new.self) _ _ (rw c.in-Some.ensures.steps.0 at c.loop-line.invariant) c.see-seen.ensures

pub returns : goal.returns
returns c = rw c.in-None.ensures.steps.0 at c.loop-line.invariant
