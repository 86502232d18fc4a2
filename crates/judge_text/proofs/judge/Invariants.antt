use lib.ListN.{length}
use Rattle.judge_text.proofs.Judging.{Judging}
use Rattle.judge_text.proofs.judge.Given as goal

abbrev pub invariant-loop-i : goal.invariant-loop-i
invariant-loop-i l = Judging l.text l.head.k l.least (length l.yielded) l.kept l.floor
