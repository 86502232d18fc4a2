use Prim.Native.Nat.{ℕ, ◌+◌}
use native.Mathlib.Omega.{arith}
use mathlib.Core.Path.{◌≡◌, refl, ap, ◌∙◌}
use mathlib.Core.Logic.{inl}
use mathlib.Core.List.{[], ◌∷◌}
use lib.ListN.{length}
use Rattle.std.proofs.lemmas.Grind.{common_steps}
use Rattle.std.specs.Iterator.Adapters.{enumerate_source, enumerate_count}
use Rattle.rules.specs.Calls.{Given}
use Rattle.std.specs.Prelude.{Option as Told}
use Rattle.rules.specs.Driver.{weaker}
use Rattle.support.specs.Support.{support_of}
use Rattle.support.proofs.Laws.{told, told-is}
use Rattle.rules.specs.Job.{lines}
use Rattle.input.specs.Input.{bytes_left, lines_left}
use Rattle.input.proofs.Batch.{line-size}
use Rattle.turn.specs.Turn.{summed}
use Rattle.report.specs.Answer.{given}
use Rattle.report.proofs.Within.{few-lines}
use Rattle.lines.proofs.Batch.{Weaker, going, default-is, begin, batch-no-room, batch-next, batch-fits, batch-small, batch-accepted}
use Rattle.lines.proofs.correct_lines.Goals.{Start, After-into_iter-i-iterator, In-Some, In-Ok}
use Rattle.lines.proofs.correct_lines.Goals as goal

-- What the call is given.
abbrev call : Start → Given
call c =
    let a = c.args in
    given a.set.now.bytes.now [] a.set.now.counts.now a.job.now.bytes.now a.batch.now a.output.now a.work.now

-- At first all bytes are left, and no line came before.
whole : (c : After-into_iter-i-iterator) → (bytes_left (enumerate_source c.into_iter-i-iterator.result) ≡ c.args.batch.now) × (enumerate_count c.into_iter-i-iterator.result ≡ 0)
whole c =
    let it = c.into_iter-i-iterator.ensures.into_iter_gives in
    let items = c.enumerate-i-items.ensures in
    (ap bytes_left (ap enumerate_source it ∙ items.source) ∙ c.lines.ensures, ap enumerate_count it ∙ items.count)

-- No line's number wraps.
pub loop-i-init-derived : goal.loop-i-init-derived
loop-i-init-derived c =
    let w = whole (goal.at.loop-i-init-derived c).After-into_iter-i-iterator in
    ((tt, tt, inl (omega (arith, ap (λ bs. length (lines bs)) w.0, w.1, few-lines c.args.batch.now c.requires.1))), tt)

pub loop-i-init : goal.loop-i-init
loop-i-init c =
    let w = whole (goal.at.loop-i-init c).After-into_iter-i-iterator in
    (omega (arith, ap length w.0), refl, rw (default-is c.default-done.result c.default-done.ensures, w.0, w.1) (begin _ _ _ _))

-- The line, and what is left behind it.
here : (c : In-Some) → let old = enumerate_source c.loop-i.i-iterator in let new = enumerate_source c.next.new.self in
    (lines_left old ≡ c.in-Some.line.now ∷ lines_left new) × (length (bytes_left old) ≡ length c.in-Some.line.now + (length (bytes_left new) + 1))
    × (c.in-Some.i ≡ enumerate_count c.loop-i.i-iterator) × (enumerate_count c.next.new.self ≡ enumerate_count c.loop-i.i-iterator + 1)
here c =
    let s = c.in-Some.ensures.steps in
    (s.0.0, line-size _ c.in-Some.line.now _ s.0.1, s.1, s.2)

due : (c : In-Some) → going (call (goal.at.In-Some c).Start) (c.in-Some.line.now ∷ lines_left (enumerate_source c.next.new.self)) c.in-Some.i c.loop-i.done c.loop-i.output
due c = let h = here c in rw (h.2, ← h.0) c.loop-i.invariant.2

pub returns-in_default : goal.returns-in_default
returns-in_default c =
    let kept = c.correct_line-corrected.auto in
    batch-no-room (call (goal.at.returns-in_default c).Start) _ _ _ _ _ _ (due (goal.at.returns-in_default c).In-Some) kept.output _ c.in_default.ensures c.correct_line-corrected.new.work (kept.work ∙ c.loop-i.invariant.1) c.no_room.ensures

-- The line is done, and the next one is due; s is the support with it.
next : (c : In-Ok) (s : Told ℕ) → Weaker c.loop-i.done c.in-Ok.more s
    → going (call (goal.at.In-Ok c).Start) (lines_left (enumerate_source c.next.new.self)) (c.in-Some.i + 1) (summed c.loop-i.done c.in-Ok.more s) c.correct_line-corrected.new.output
next c v w =
    batch-next (call (goal.at.In-Ok c).Start) _ _ _ _ _ _ (due (goal.at.In-Ok c).In-Some) c.correct_line-corrected.auto.output _ c.in-Ok.ensures v w c.requires.0

pub plus-done-requires : goal.plus-done-requires
plus-done-requires c =
    let s = told (weaker (support_of c.loop-i.done.support) (support_of c.in-Ok.more.support)) in
    batch-fits (call (goal.at.plus-done-requires c).Start) _ _ _ _ s _ (next (goal.at.plus-done-requires c).In-Ok s (told-is _)) c.requires.0 c.requires.1

pub loop-i-preserved : goal.loop-i-preserved
loop-i-preserved c =
    let h = here (goal.at.loop-i-preserved c).In-Some in (
      omega (arith, h.1, c.loop-i.invariant.0),
      c.correct_line-corrected.auto.work ∙ c.loop-i.invariant.1,
      rw (h.3, ← h.2, c.plus-done.ensures.is) (next (goal.at.loop-i-preserved c).In-Ok c.plus-done.result.support c.plus-done.ensures.weaker_is),
    )

pub accept-requires : goal.accept-requires
accept-requires c =
    batch-small (call (goal.at.accept-requires c).Start) _ _ _ _ c.loop-i.invariant.2 c.requires.0 c.requires.1

pub returns : goal.returns
returns c =
    let l = c.loop-i in
    batch-accepted (call (goal.at.returns c).Start) _ _ _ _ l.work _ l.invariant.2 c.in-None.ensures.steps.0.0 l.invariant.1 (grind (arith, common_steps)) c.accept.ensures
