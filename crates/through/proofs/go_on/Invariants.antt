use mathlib.Core.Path.{◌≡◌}
use lib.ListN.{length}
use Rattle.turn.specs.Turn.{offered}
use Rattle.through.proofs.Underway.{Underway, whole_of, most_of}
use Rattle.through.proofs.go_on.Given as goal

-- The invariant: where the read stands after i passes. The measure: the passes that are left.
abbrev pub invariant-loop-i : goal.invariant-loop-i
invariant-loop-i l =
    (length l.output ≡ length l.initial.output) × (length l.work ≡ length l.initial.work)
    × Underway (offered l.set) l.job.bytes.now (whole_of (offered l.set) l.job.bytes.now l.initial.output l.initial.work l.initial.done) (most_of (offered l.set) l.job.bytes.now l.initial.output l.initial.work l.initial.done) l.output l.work l.done l.i
