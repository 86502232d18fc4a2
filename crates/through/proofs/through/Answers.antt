use Prim.Native.Nat.{ℕ, ◌-◌, ◌<◌}
use native.Mathlib.Omega.{arith}
use mathlib.Core.Path.{◌≡◌, refl, sym, ◌∙◌, subst}
use lib.ListN.{length}
use Rattle.std.specs.Prelude.{Result, Ok}
use Rattle.rules.specs.Job.{entry_at, entry_count, entries_of}
use Rattle.turn.specs.declared.Counts.{Counts}
use Rattle.turn.specs.declared.Full.{Full}
use Rattle.turn.specs.Turn.{offered}
use Rattle.correct.specs.Pass.{one_pass, PassIs}
use Rattle.through.specs.Through.{held, ThroughIs}
use Rattle.through.proofs.InTurn.{held-length}
use Rattle.through.proofs.Underway.{small-there, none_done, first-full, all-through, through-full}
use Rattle.through.proofs.through.Goals.{After-first_pass, Else-count-eq0, In_ok-first}
use Rattle.through.proofs.through.Goals as goal

pub returns-then-count-eq0 : goal.returns-then-count-eq0
returns-then-count-eq0 c =
    let a = c.args in
    record {
      is = none_done _ a.job.now.bytes.now a.read.now a.output.now c.copied.new.out c.copied.result (sym c.count.ensures ∙ c.if-count-eq0.true)
          c.copied.auto.out c.copied.ensures;
      output_room = c.copied.auto.out;
      work_room = refl;
    }

-- There is an entry.
some : (c : Else-count-eq0) → 0 < entry_count c.args.job.now.bytes.now
some c = omega (arith, c.if-count-eq0.false, c.count.ensures)

-- What the first pass answers.
abbrev Answered : After-first_pass → Result Counts Full → Type 0
Answered c =
    let a = c.args in
    PassIs (length a.output.now) (held (entry_count a.job.now.bytes.now - 1) c.first_pass.new.output c.first_pass.new.work)
    (one_pass (offered a.set.now) (entry_at a.job.now.bytes.now 0) a.read.now)

pub returns-in_err-first : goal.returns-in_err-first
returns-in_err-first c =
    let a = c.args in
    let at = (goal.at.returns-in_err-first c).After-first_pass in
    let full = subst (Answered at) c.in_err-first.was c.first_pass.ensures.is in
    record {
      is = through-full _ _ _ _ _ _ c.from_residual.ensures.0
          (first-full _ a.job.now.bytes.now a.read.now (some (goal.at.After-first_pass at).Else-count-eq0) (length a.output.now) full);
      output_room = c.first_pass.auto.output;
      work_room = c.first_pass.auto.work;
    }

did : (c : In_ok-first) → let at = (goal.at.In_ok-first c).After-first_pass in Answered at (Ok c.in_ok-first.first)
did c = (let at = (goal.at.In_ok-first c).After-first_pass in subst (Answered at) c.in_ok-first.was c.first_pass.ensures.is)

rooms : (c : In_ok-first) → length c.first_pass.new.work ≡ length c.first_pass.new.output
rooms c = c.first_pass.auto.work ∙ c.requires.output_len_bound.1 ∙ sym c.first_pass.auto.output

pub go_on-requires-clause-ready : goal.go_on-requires-clause-ready
go_on-requires-clause-ready c =
    let at = (goal.at.go_on-requires-clause-ready c).In_ok-first in
    let is = did at in
    let output = c.first_pass.new.output in
    let work = c.first_pass.new.work in
    let n = entry_count c.args.job.now.bytes.now in (
      some (goal.at.In_ok-first at).Else-count-eq0,
      c.requires.ready.0,
      omega (arith, is.1, held-length (n - 1) output work (rooms at)),
      small-there (offered c.args.set.now) c.args.job.now.bytes.now _ c.in_ok-first.first (held (n - 1) output work) output is.0 c.first_pass.ensures.small,
    )

pub returns : goal.returns
returns c =
    let a = c.args in
    let at = (goal.at.returns c).In_ok-first in
    let kept = c.first_pass.auto in
    let is = did at in
    let output = c.first_pass.new.output in
    let work = c.first_pass.new.work in
    let n = entry_count a.job.now.bytes.now in
    let room = held-length (n - 1) output work (rooms at) in
    let result = c.go_on.new.output in
    let set = offered a.set.now in
    record {
      is = subst (λ (n : ℕ). ThroughIs set (entries_of a.job.now.bytes.now) a.read.now n result c.go_on.result) kept.output
          (all-through set a.job.now.bytes.now a.read.now (some (goal.at.In_ok-first at).Else-count-eq0) (length output) (held (n - 1) output work) result c.in_ok-first.first c.go_on.result is.0 is.1 room
          c.go_on.ensures);
      output_room = c.go_on.auto.output ∙ kept.output;
      work_room = c.go_on.auto.work ∙ kept.work;
    }
