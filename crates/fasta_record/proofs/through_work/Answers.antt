use Prim.Native.Nat.{ℕ, ◌≤◌, ◌<◌}
use native.Mathlib.Omega.{arith}
use mathlib.Core.Path.{refl, sym, ◌∙◌, subst}
use lib.ListN.{length, take}
use Rattle.std.proofs.lemmas.Result.{err_from_is_err_and}
use Rattle.rules.specs.Job.{entry_count, entries_of}
use Rattle.turn.specs.Turn.{offered}
use Rattle.through.specs.Through.{ThroughIs}
use Rattle.through.proofs.Underway.{first-full, all-through}
use Rattle.fasta_record.proofs.Laws.{none-full, none_done}
use Rattle.fasta_record.proofs.through_work.Goals.{Else-count-eq0, Start}
use Rattle.fasta_record.proofs.through_work.Goals as goal

inside : (c : Start) → c.args.read ≤ length c.args.work.now
inside c = omega (arith, c.requires.work_input)

pub returns-then-output-read : goal.returns-then-output-read
returns-then-output-read c =
    none-full _ c.args.job.now.bytes.now c.args.work.now c.args.read _ (sym c.count.ensures ∙ c.if-count-eq0.true) c.if-output-read.true (inside (goal.at.returns-then-output-read c).Start)

pub returns-then-count-eq0 : goal.returns-then-count-eq0
returns-then-count-eq0 c =
    rw c.unchanged.ensures
    (none_done _ c.args.job.now.bytes.now c.args.work.now c.args.read _ (sym c.count.ensures ∙ c.if-count-eq0.true) c.if-output-read.false (inside (goal.at.returns-then-count-eq0 c).Start))

-- There is an entry.
some : (c : Else-count-eq0) → 0 < entry_count c.args.job.now.bytes.now
some c = omega (arith, c.if-count-eq0.false, c.count.ensures)

pub returns-in_err-first : goal.returns-in_err-first
returns-in_err-first c =
    let a = c.args in
    let p = err_from_is_err_and c.from_residual.result c.from_residual.ensures.1 in
    rw p.1 (first-full _ a.job.now.bytes.now (take a.read a.work.now) (some (goal.at.returns-in_err-first c).Else-count-eq0) (length a.output.now) c.in_err-first.ensures.is)

pub returns : goal.returns
returns c =
    let a = c.args in
    let set = offered a.set.now in
    let read = take a.read a.work.now in
    let is = c.in_ok-first.ensures.is in
    let kept = c.entry_pass.auto.out in
    let out = c.entry_pass.new.out in
    let result = c.back_to_work.new.work in
    subst (λ (n : ℕ). ThroughIs set (entries_of a.job.now.bytes.now) read n result c.back_to_work.result) kept
    (all-through set a.job.now.bytes.now read (some (goal.at.returns c).Else-count-eq0) (length out) out result c.in_ok-first.first c.back_to_work.result is.0 is.1 refl c.back_to_work.ensures)
