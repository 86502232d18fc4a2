use Rattle.input.specs.Input.{lines_left}
use Rattle.records.specs.Records.{SeenIn}
use Rattle.records.proofs.see_all.Given as goal

abbrev pub invariant-loop-line : goal.invariant-loop-line
invariant-loop-line l = SeenIn l.file (lines_left l.line-iterator) l.seen
