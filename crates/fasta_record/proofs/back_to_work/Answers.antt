use Prim.Native.Nat.{ℕ, ◌-◌}
use native.Mathlib.Omega.{arith}
use mathlib.Core.Path.{◌≡◌, subst, subst₂}
use mathlib.Core.List.{List}
use lib.ListN.{length, take, drop}
use lib.Seq.{length-take-le, length_front}
use Rattle.std.specs.Prelude.{Ok, Err}
use Rattle.std.proofs.lemmas.Result.{err_from_is_err_and}
use Rattle.rules.specs.Job.{entry_count}
use Rattle.turn.specs.Turn.{offered}
use Rattle.correct.specs.Pass.{tally_of}
use Rattle.through.specs.Through.{GoneOn, held}
use Rattle.through.proofs.InTurn.{held-even, held-odd}
use Rattle.fasta_record.proofs.Laws.{gone-on-front, gone-on-copied}
use Rattle.fasta_record.proofs.back_to_work.Goals.{Else-count-eq0}
use Rattle.fasta_record.proofs.back_to_work.Goals as goal

pub returns-then-count-eq0 : goal.returns-then-count-eq0
returns-then-count-eq0 c =
    let a = c.args in
    let part = take (length a.output.now) a.work.now in
    let result = c.go_on.new.output in
    let odd = held-odd (entry_count a.job.now.bytes.now - 1) part a.output.now (omega (arith, c.if-count-eq0.true, c.count.ensures, c.requires.ready.0)) in
    let went =
    subst₂ (λ (h : List ℕ) (m : ℕ). GoneOn (offered a.set.now) a.job.now.bytes.now (tally_of a.first h) m result c.go_on.result) odd (length-take-le (length a.output.now) a.work.now c.requires.output_len_bound.1) c.go_on.ensures in
    gone-on-front (offered a.set.now) a.job.now.bytes.now (tally_of a.first a.output.now) (length a.output.now) result (drop (length a.output.now) a.work.now) c.go_on.result went

-- By an odd number of passes the last one ends in the output.
even : (c : Else-count-eq0)
    → let a = c.args in
    held (entry_count a.job.now.bytes.now - 1) a.output.now (take (length a.output.now) a.work.now) ≡ a.output.now
even c =
    let a = c.args in
    held-even (entry_count a.job.now.bytes.now - 1) a.output.now (take (length a.output.now) a.work.now) (omega (arith, c.if-count-eq0.false, c.count.ensures, c.requires.ready.0))

pub returns-in_err-done : goal.returns-in_err-done
returns-in_err-done c =
    let a = c.args in
    let p = err_from_is_err_and c.from_residual.result c.from_residual.ensures.1 in
    rw p.1 (subst (λ (h : List ℕ). GoneOn (offered a.set.now) a.job.now.bytes.now (tally_of a.first h) (length a.output.now) c.go_on-2.new.output (Err p.0)) (even (goal.at.returns-in_err-done c).Else-count-eq0) c.in_err-done.ensures)

pub returns : goal.returns
returns c =
    let a = c.args in
    let n = c.in_ok-done.done in
    let out = c.go_on-2.new.output in
    let went =
    subst (λ (h : List ℕ). GoneOn (offered a.set.now) a.job.now.bytes.now (tally_of a.first h) (length a.output.now) out (Ok n)) (even (goal.at.returns c).Else-count-eq0) c.in_ok-done.ensures in
    let long = length-take-le n.written out went.1 in
    let kept = length_front a.work.now c.go_on-2.new.work (length a.output.now) c.go_on-2.auto.work in
    gone-on-copied (offered a.set.now) a.job.now.bytes.now (tally_of a.first a.output.now) (length a.output.now) out _ n went (rw long at c.copy.ensures.front)
    (omega (arith, kept, c.copy.auto.dst, c.go_on-2.auto.output, c.requires.output_len_bound.1))
