use mathlib.Core.Path.{◌≡◌}
use lib.ListN.{length}
use Rattle.std.specs.Slice.Iter.{chunks_rest, chunks_size}
use Rattle.record_text.proofs.Laws.{Under}
use Rattle.record_text.proofs.put_read.Given as goal

-- The lines that are put, and those that are left.
abbrev pub invariant-loop-line : goal.invariant-loop-line
invariant-loop-line l =
    (goal.iterator-loop-line).can_next l.line-iterator
    × (goal.iterator-loop-line).is_finite l.line-iterator
    × (chunks_size l.line-iterator ≡ 80)
    × (length l.out ≡ length l.initial.out)
    × Under l.read l.initial.out l.at l.out (chunks_rest l.line-iterator) l.to
