use Prim.Native.Nat.{◌+◌, ◌-◌, ◌≤◌, ◌<◌}
use native.Mathlib.Omega.{arith}
use mathlib.Core.Path.{sym, ◌∙◌, subst}
use lib.ListN.{length, take}
use Rattle.std.specs.Prelude.{Result, Ok}
use Rattle.rules.specs.Job.{entry_at, entry_count}
use Rattle.turn.specs.declared.Counts.{Counts}
use Rattle.turn.specs.declared.Full.{Full}
use Rattle.turn.specs.Turn.{offered}
use Rattle.correct.specs.Pass.{one_pass, PassIs}
use Rattle.through.specs.Through.{held}
use Rattle.through.proofs.InTurn.{held-length}
use Rattle.through.proofs.Underway.{next_small, next-done, next-full, all_done, gone-full}
use Rattle.through.proofs.go_on.Goals.{After-next_pass, In_ok-next, In-loop-i}
use Rattle.through.proofs.go_on.Goals as goal

-- There is another entry.
more : (c : In-loop-i) → c.loop-i.i < entry_count c.args.job.now.bytes.now
more c = omega (arith, c.loop-i-test.true, c.count-i-end.ensures)

-- What the pass of entry i answers.
abbrev Answered : After-next_pass → Result Counts Full → Type 0
Answered c =
    let a = c.args in
    let left = entry_count a.job.now.bytes.now - c.loop-i.i in
    PassIs (length c.loop-i.output) (held (left - 1) c.next_pass.new.output c.next_pass.new.work)
    (one_pass (offered a.set.now) (entry_at a.job.now.bytes.now c.loop-i.i) (take c.loop-i.done.written (held left c.loop-i.output c.loop-i.work)))

pub returns-in_err-next : goal.returns-in_err-next
returns-in_err-next c =
    let at = (goal.at.returns-in_err-next c).After-next_pass in
    let full = subst (Answered at) c.in_err-next.was c.next_pass.ensures.is in
    let long = next-full _ c.args.job.now.bytes.now _ _ _ _ c.loop-i.done c.loop-i.i c.loop-i.invariant.2 (more (goal.at.After-next_pass at).In-loop-i) full in
    gone-full _ _ _ _ _ _ c.from_residual.ensures.0 (omega (arith, long, c.loop-i.invariant.0))

-- What the pass of entry i counts and writes.
did : (c : In_ok-next) → let at = (goal.at.In_ok-next c).After-next_pass in Answered at (Ok c.in_ok-next.next)
did c = (let at = (goal.at.In_ok-next c).After-next_pass in subst (Answered at) c.in_ok-next.was c.next_pass.ensures.is)

-- 8 passes at most.
few : (c : In_ok-next) → c.loop-i.i + 1 ≤ 8
few c = omega (arith, more (goal.at.In_ok-next c).In-loop-i, c.requires.ready.1)

pub plus-requires : goal.plus-requires
plus-requires c =
    let a = c.args in
    let at = (goal.at.plus-requires c).In_ok-next in
    let under = c.loop-i.invariant.2 in
    let told = did at in
    let i = c.loop-i.i in
    let left = entry_count a.job.now.bytes.now - i in
    let room = held-length (left - 1) c.next_pass.new.output c.next_pass.new.work
    (c.next_pass.auto.work ∙ under.rooms ∙ sym c.next_pass.auto.output) in
    let u = next_small _ a.job.now.bytes.now _ _ c.loop-i.output c.loop-i.work c.loop-i.done i under (more (goal.at.In_ok-next at).In-loop-i) _ c.in_ok-next.next
    c.next_pass.ensures.small told.0 in
    let n = few at in
    record {
      written = omega (arith, under.written, under.short, told.1, room, c.next_pass.auto.output);
      turns = omega (arith, u.turns);
      lookups = omega (arith, u.lookups);
      attempts = omega (arith, u.attempts);
      accepted = omega (arith, u.accepted);
      bases = omega (arith, u.bases);
    }

pub loop-i-preserved : goal.loop-i-preserved
loop-i-preserved c =
    let at = (goal.at.loop-i-preserved c).In_ok-next in
    let kept = c.next_pass.auto in (
      kept.output ∙ c.loop-i.invariant.0,
      kept.work ∙ c.loop-i.invariant.1,
      next-done _ c.args.job.now.bytes.now _ _ c.loop-i.output c.loop-i.work c.loop-i.done c.loop-i.i c.loop-i.invariant.2 (more (goal.at.In_ok-next at).In-loop-i)
          c.next_pass.new.output c.next_pass.new.work c.in_ok-next.next c.plus.result c.plus.ensures
          kept.output kept.work c.next_pass.ensures.small (did at),
    )

pub returns : goal.returns
returns c =
    let a = c.args in
    let all = all_done _ a.job.now.bytes.now _ _ c.loop-i.output c.loop-i.work c.loop-i.done c.loop-i.i c.loop-i.invariant.2 (omega (arith, c.loop-i-test.false, c.count-i-end.ensures)) in
    (all.0, all.1, omega (arith, all.2, c.loop-i.invariant.0), all.3)
