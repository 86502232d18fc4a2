use Prim.Native.Nat.{◌+◌, ◌≤◌}
use mathlib.Core.Path.{◌≡◌}
use mathlib.Core.List.{[]}
use lib.ListN.{length}
use Rattle.input.specs.Input.{bytes_left, lines_left}
use Rattle.records.specs.Records.{records_at, name_length}
use Rattle.report.specs.Answer.{given}
use Rattle.fasta.proofs.Records.{going}
use Rattle.fasta.proofs.correct_records.Given as goal

-- The records before the name line are done, and those from it on are left.
abbrev pub invariant-loop-next : goal.invariant-loop-next
invariant-loop-next l =
    (name_length l.next + length (bytes_left l.lines) ≤ length l.file) × (length l.work ≡ length l.initial.work)
    × going (given l.set.bytes.now [] l.set.counts.now l.job.bytes.now l.file l.initial.output l.initial.work) (records_at l.next (lines_left l.lines)) l.place l.done l.output

abbrev pub decreases-loop-next : goal.decreases-loop-next
decreases-loop-next l = length (records_at l.next (lines_left l.lines))
