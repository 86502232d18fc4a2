-- Checks 1 to 5.
use Prim.Native.Nat.{ℕ}
use mathlib.Core.Path.{◌≡◌, sym}
use mathlib.Core.List.{List}
use lib.Dec.{eqb, leb}
use Rattle.rules.specs.Refusal.{◌or_else◌, unless}
use Rattle.rules.specs.Job.{entry_count}
use Rattle.rules.specs.Calls.{max_read, buffers_right, job_check, input_check}
use Rattle.rules_laws.proofs.Upward.{or_else-assoc}
use Rattle.rules_needs.specs.Needs.{needs_check}

-- Both calls begin with checks 1 to 4.
pub input-by-start : (input output work : ℕ) (job : List ℕ)
    → input_check input job output work ≡ (unless (leb input max_read) 1 or_else job_check job) or_else unless (buffers_right input output work) 5
unfolding input_check
input-by-start input output work job = sym (or_else-assoc (unless (leb input max_read) 1) (job_check job) (unless (buffers_right input output work) 5))

pub needs-by-start : (batch work : ℕ) (job : List ℕ)
    → needs_check batch job work
    ≡ (unless (leb batch max_read) 1 or_else job_check job) or_else (unless (eqb (entry_count job) 1) 17 or_else unless (leb batch work) 5)
unfolding needs_check
needs-by-start batch work job =
    sym (or_else-assoc (unless (leb batch max_read) 1) (job_check job) (unless (eqb (entry_count job) 1) 17 or_else unless (leb batch work) 5))
