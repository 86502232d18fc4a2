use Rattle.rules_program.specs.Program.{refusal_line}
use Rattle.page.proofs.Text.{puts-both}
use Rattle.page.proofs.put_refusal.Goals as goal

pub returns : goal.returns
unfolding refusal_line
returns c =
    puts-both _ _ _ _ _ _ _ _ (rw c.number-number.ensures at c.put_number-middle.ensures.1)
    (puts-both _ _ _ _ _ _ _ _ (rw c.place-place.ensures at c.put_number-end.ensures.1) c.put.ensures.1)
