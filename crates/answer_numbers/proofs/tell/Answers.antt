use mathlib.Core.Path.{refl}
use Rattle.answer_numbers.proofs.Laid.{begun_all}
use Rattle.answer_numbers.proofs.tell.Goals as goal

pub returns : goal.returns
returns c =
    record { returned = refl; answer = rw c.copy_from_slice.ensures.after (begun_all c.args.numbers.now c.args.answer.now c.min-end.result c.min-end.ensures) }
