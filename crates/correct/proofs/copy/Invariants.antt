use mathlib.Core.Path.{◌≡◌}
use lib.ListN.{length, take}
use Rattle.correct.proofs.copy.Given as goal

abbrev pub invariant-loop-i : goal.invariant-loop-i
invariant-loop-i l = (length l.dst ≡ length l.initial.dst) × (take l.i l.dst ≡ take l.i l.src)
