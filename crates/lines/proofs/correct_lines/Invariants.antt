use Prim.Native.Nat.{◌≤◌}
use mathlib.Core.Path.{◌≡◌}
use mathlib.Core.List.{[]}
use lib.ListN.{length}
use Rattle.std.specs.Iterator.Adapters.{enumerate_source, enumerate_count}
use Rattle.input.specs.Input.{bytes_left, lines_left}
use Rattle.report.specs.Answer.{given}
use Rattle.lines.proofs.Batch.{going}
use Rattle.lines.proofs.correct_lines.Given as goal

-- What is left of the batch, and what is done.
abbrev pub invariant-loop-i : goal.invariant-loop-i
invariant-loop-i l =
    let left = enumerate_source l.i-iterator in
    (length (bytes_left left) ≤ length l.batch) × (length l.work ≡ length l.initial.work)
    × going (given l.set.bytes.now [] l.set.counts.now l.job.bytes.now l.batch l.initial.output l.initial.work) (lines_left left) (enumerate_count l.i-iterator) l.done l.output
