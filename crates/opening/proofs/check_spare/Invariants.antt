use Prim.Native.Nat.{◌≤◌}
use mathlib.Core.Path.{◌≡◌}
use Rattle.set_checks.specs.Checks.{wrong_key}
use Rattle.opening.proofs.check_spare.Given as goal

abbrev pub invariant-loop-word : goal.invariant-loop-word
invariant-loop-word l = (l.n ≤ l.word) × (wrong_key l.set l.n ≡ wrong_key l.set l.word)
