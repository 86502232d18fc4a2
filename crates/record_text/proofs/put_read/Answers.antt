use native.Mathlib.Omega.{arith}
use mathlib.Core.Path.{◌∙◌}
use Rattle.record_text.proofs.Laws.{under-room, under-step, under-over}
use Rattle.record_text.proofs.put_read.Goals as goal

pub put_line-requires : goal.put_line-requires
put_line-requires c =
    let i = c.loop-line.invariant in
    let s = c.in-Some.ensures.steps in
    under-room _ _ _ _ _ _ i.4 _ _ s.1.0 (omega (arith, s.1.1, i.2)) s.1.2 c.requires i.3

pub loop-line-preserved : goal.loop-line-preserved
loop-line-preserved c =
    let i = c.loop-line.invariant in
    let s = c.in-Some.ensures.steps in (
      omega arith,
      tt,
      s.0 ∙ i.2,
      c.put_line.auto.out ∙ i.3,
      under-step _ _ _ _ _ _ i.4 _ _ s.1.0 (omega (arith, s.1.1, i.2)) s.1.2 _ c.put_line.ensures,
    )

pub returns : goal.returns
returns c = let s = c.in-None.ensures.steps in under-over _ _ _ _ _ _ c.loop-line.invariant.4 s.1.0
