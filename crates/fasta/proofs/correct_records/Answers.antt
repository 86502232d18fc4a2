use Prim.Native.Nat.{ℕ, ◌+◌, ◌≤◌}
use native.Mathlib.Omega.{arith}
use mathlib.Core.Path.{◌≡◌, refl, sym, ap, ◌∙◌}
use mathlib.Core.List.{[], ◌∷◌}
use lib.ListN.{length, take}
use Rattle.rules.specs.Calls.{Given}
use Rattle.rules.specs.Driver.{weaker}
use Rattle.rules.specs.Job.{lines}
use Rattle.rules_fasta.specs.Fasta.{max_records, records_of}
use Rattle.input.specs.Input.{lines_left}
use Rattle.report.specs.Answer.{given}
use Rattle.std.specs.Prelude.{Option as Told}
use Rattle.support.specs.Support.{support_of}
use Rattle.support.proofs.Laws.{told, told-is}
use Rattle.std.proofs.lemmas.Grind.{common_steps}
use Rattle.turn.specs.Turn.{Fits, summed}
use Rattle.lines.proofs.Batch.{Weaker, default-is}
use Rattle.records.specs.Records.{records_at}
use Rattle.fasta.proofs.Records.{going, fasta-begun, fasta-no-room, fasta-next, fasta-few, fasta-fits, fasta-small, fasta-accepted}
use Rattle.fasta.proofs.correct_records.Goals.{Start, At-loop-next, In-Some, After-join-joined, In-Ok}
use Rattle.fasta.proofs.correct_records.Goals as goal

-- What the call is given.
abbrev call : Start → Given
call c =
    let a = c.args in
    given a.set.now.bytes.now [] a.set.now.counts.now a.job.now.bytes.now a.file.now a.output.now a.work.now

-- The work buffer keeps its length.
same-work : (c : At-loop-next) → length c.loop-next.work ≡ length c.args.work.now
same-work c = c.loop-next.invariant.1 ∙ c.join.auto.work

pub loop-next-init : goal.loop-next-init
loop-next-init c =
    let is = c.join.ensures in
    let all = c.lines-lines.ensures in (
      omega (arith, is.short, ap length all),
      refl,
      rw (default-is c.default-done.result c.default-done.ensures)
          (fasta-begun (call (goal.at.loop-next-init c).Start) _ (sym (ap (λ bs. records_of (lines bs)) all) ∙ is.rest)),
    )

-- The record of the name line, and those behind it.
due : (c : After-join-joined) → going (call (goal.at.After-join-joined c).Start)
    (record { name = c.in-Some.name.now; read = take c.join-joined.result.read c.join-joined.new.work } ∷ records_at c.join-joined.result.name (lines_left c.join-joined.new.lines))
    c.loop-next.place c.loop-next.done c.loop-next.output
due c =
    let is = c.join-joined.ensures in
    let left = rw c.in-Some.is at c.loop-next.invariant.2 in
    rw (is.read, ← is.rest) left

pub returns-in_default-corrected : goal.returns-in_default-corrected
returns-in_default-corrected c =
    let kept = c.correct_record-corrected.auto in
    fasta-no-room (call (goal.at.returns-in_default-corrected c).Start) _ _ _ _ _ _ _ (due (goal.at.returns-in_default-corrected c).After-join-joined)
    kept.output _ c.in_default-corrected.ensures c.correct_record-corrected.new.work (kept.work ∙ c.join-joined.auto.work ∙ same-work (goal.at.returns-in_default-corrected c).At-loop-next)
    c.no_room.ensures

-- The record is done, and the next one is due; s is the support with it.
after : (c : In-Ok) (s : Told ℕ) → Weaker c.loop-next.done c.in-Ok.more s
    → going (call (goal.at.In-Ok c).Start) (records_at c.join-joined.result.name (lines_left c.join-joined.new.lines)) (c.loop-next.place + 1) (summed c.loop-next.done c.in-Ok.more s)
    c.correct_record-corrected.new.output
after c v w =
    fasta-next (call (goal.at.In-Ok c).Start) _ _ _ _ _ _ _ (due (goal.at.In-Ok c).After-join-joined) c.correct_record-corrected.auto.output _ c.in-Ok.ensures v w c.requires.0

fits : (c : In-Ok) → Fits c.loop-next.done c.in-Ok.more × (c.loop-next.place + 1 ≤ max_records)
fits c =
    let s = told (weaker (support_of c.loop-next.done.support) (support_of c.in-Ok.more.support)) in
    let n = after c s (told-is _) in
    let g = call (goal.at.In-Ok c).Start in
    (fasta-fits g _ _ _ _ s _ n c.requires.0 c.requires.1, fasta-few g _ _ _ _ n c.requires.0 c.requires.1)

pub plus-done-requires : goal.plus-done-requires
plus-done-requires c = (fits c).0

pub overflow_add-place : goal.overflow_add-place
overflow_add-place c = omega (arith, (fits (goal.at.overflow_add-place c).In-Ok).1)

pub loop-next-preserved : goal.loop-next-preserved
loop-next-preserved c = (
  omega (arith, c.join-joined.ensures.short, c.loop-next.invariant.0),
  c.correct_record-corrected.auto.work ∙ c.join-joined.auto.work ∙ c.loop-next.invariant.1,
  rw c.plus-done.ensures.is (after (goal.at.loop-next-preserved c).In-Ok c.plus-done.result.support c.plus-done.ensures.weaker_is),
)

pub accept-requires : goal.accept-requires
accept-requires c =
    fasta-small (call (goal.at.accept-requires c).Start) _ _ _ _ c.loop-next.invariant.2 c.requires.0 c.requires.1

pub returns : goal.returns
returns c =
    fasta-accepted (call (goal.at.returns c).Start) _ _ _ c.loop-next.work _ (rw c.in_default.is at c.loop-next.invariant.2) (same-work (goal.at.returns c).At-loop-next) (grind (arith, common_steps)) c.accept.ensures
