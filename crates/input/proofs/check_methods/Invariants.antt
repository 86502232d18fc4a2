use Prim.Native.Nat.{ℕ, ◌-◌, ◌≤◌}
use mathlib.Core.Path.{◌≡◌}
use mathlib.Core.Bool.{Bool}
use mathlib.Core.List.{List}
use Rattle.rules.specs.Refusal.{first_failing}
use Rattle.rules.specs.Job.{known, method_byte, entry_count}
use Rattle.input.proofs.check_methods.Given as goal

abbrev pub right : List ℕ → ℕ → Bool
right job i = known (method_byte job i)

-- What is left to check from i on decides.
abbrev pub invariant-loop-i : goal.invariant-loop-i
invariant-loop-i l =
    (l.i-end ≡ entry_count l.job) × (l.i ≤ l.i-end)
    × (first_failing (right l.job) 0 (entry_count l.job) ≡ first_failing (right l.job) l.i (l.i-end - l.i))
