use Rattle.rules_program.specs.Program.{counts_line}
use Rattle.page.proofs.Text.{puts-both}
use Rattle.page.proofs.put_report.Goals as goal

pub returns : goal.returns
unfolding counts_line
returns c =
    puts-both _ _ _ _ _ _ _ _ c.put_number-turns.ensures.1
    (puts-both _ _ _ _ _ _ _ _ c.put_number-lookups.ensures.1
    (puts-both _ _ _ _ _ _ _ _ c.put_number-written.ensures.1 c.put.ensures.1))
