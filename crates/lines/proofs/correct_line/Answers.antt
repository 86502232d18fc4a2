use Rattle.lines.proofs.Line.{line-done}
use Rattle.lines.proofs.correct_line.Goals as goal

pub returns : goal.returns
returns c = line-done _ _ c.if-output-at.false _ _ _ _ c.through.ensures.output_room _ c.in_ok-done.ensures.is
