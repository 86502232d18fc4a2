-- What the checks of a job leave.
use Rattle.std.specs.Prelude.{ℕ, ◌≤◌, ◌<◌, List}
use Rattle.rules.specs.Job.{confirm_byte, entry_count}

-- Check 4 passed: every entry has a confirm of 1 at least.
abbrev pub AllConfirm : List ℕ → Type 0
AllConfirm job = (i : ℕ) → i < entry_count job → 1 ≤ confirm_byte job i
