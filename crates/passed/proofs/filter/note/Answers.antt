use mathlib.Core.Logic.{inl, inr}
use Rattle.passed.proofs.Bits.{noted}
use Rattle.passed.proofs.filter.note.Goals as goal

pub returns-then-one : goal.returns-then-one
returns-then-one c =
    noted c.hash-h.ensures c.bits.ensures c.bits-2.ensures c.mark-one.ensures c.mark-other.ensures
    (λ e. inr e)

pub returns-else-one : goal.returns-else-one
returns-else-one c =
    noted c.hash-h.ensures c.bits.ensures c.bits-2.ensures c.mark-one.ensures c.mark-other.ensures
    (λ e. inl c.if-one.false)
