use lib.ListN.{length}
use Rattle.write_set.proofs.Writes.{Writing}
use Rattle.write_set.proofs.write_lines.Given as goal

abbrev pub invariant-loop-line : goal.invariant-loop-line
invariant-loop-line l = Writing l.text l.head.k l.least l.initial.blocks l.blocks l.initial.counts l.counts (length l.yielded) l.i
