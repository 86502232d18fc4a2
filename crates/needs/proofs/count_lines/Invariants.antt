use Prim.Native.Nat.{◌≤◌}
use mathlib.Core.Path.{◌≡◌}
use lib.ListN.{length}
use Rattle.entries.specs.Entries.{entry_of}
use Rattle.input.specs.Input.{bytes_left, lines_left}
use Rattle.turn.specs.Turn.{offered}
use Rattle.needs.proofs.Lines.{Going}
use Rattle.needs.proofs.count_lines.Given as goal

-- What is left of the batch, and what is counted.
abbrev pub invariant-loop-line : goal.invariant-loop-line
invariant-loop-line l =
    (length (bytes_left l.line-iterator) ≤ length l.batch) × (length l.work ≡ length l.initial.work)
    × Going (offered l.set) (entry_of l.entry) l.batch (lines_left l.line-iterator) (length (bytes_left l.line-iterator)) l.done
