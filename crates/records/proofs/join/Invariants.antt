use Prim.Native.Nat.{◌+◌, ◌≤◌}
use mathlib.Core.Path.{◌≡◌}
use mathlib.Core.List.{◌++◌}
use lib.ListN.{length, take}
use Rattle.rules_fasta.specs.Fasta.{joined, records_of}
use Rattle.input.specs.Input.{bytes_left, lines_left}
use Rattle.records.specs.Records.{EndsWith}
use Rattle.records.proofs.join.Given as goal

-- What is joined, and what is left.
abbrev pub invariant-loop-line : goal.invariant-loop-line
invariant-loop-line l =
    (l.read + length (bytes_left l.lines) ≤ length (bytes_left l.initial.lines))
    × (length l.work ≡ length l.initial.work)
    × (take l.read l.work ++ joined (lines_left l.lines) ≡ joined (lines_left l.initial.lines))
    × (records_of (lines_left l.initial.lines) ≡ records_of (lines_left l.lines))
    × EndsWith (bytes_left l.initial.lines) (bytes_left l.lines)

abbrev pub decreases-loop-line : goal.decreases-loop-line
decreases-loop-line l = length (lines_left l.lines)
