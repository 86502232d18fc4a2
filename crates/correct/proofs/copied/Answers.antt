use native.Mathlib.Omega.{arith}
use mathlib.Core.Option.{none}
use Rattle.correct.proofs.copied.Goals as goal

pub returns : goal.returns
returns c =
    let copied = c.copy in
    rw c.unchanged.ensures (
      λ i. record { bytes = copied.ensures.front i; turns = 0; lookups = 0; attempts = 0; accepted = 0; support = none; bases = 0 },
      omega (arith, c.if-out-read.false, copied.auto.dst),
    )
