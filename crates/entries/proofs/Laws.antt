-- A job whose entries all have a confirm, as the rules have it.
use Prim.Native.Nat.{ℕ}
use native.Mathlib.Omega.{arith}
use borrow.Author.Tests.{lt-ltb, ltb-true}
use mathlib.Core.Path.{◌≡◌}
use mathlib.Core.Option.{none}
use mathlib.Core.List.{List}
use lib.Dec.{ltb}
use Rattle.rules.specs.Refusal.{first_failing}
use Rattle.rules.specs.Job.{confirm_byte, entry_count, entries_of, Confirmed}
use Rattle.rules_laws.proofs.Keys.{none-fails, none-failing}
use Rattle.rules_laws.proofs.Job.{confirmed}
use Rattle.entries.specs.Job.{AllConfirm}

module _ (job : List ℕ) where
  pub by-check : first_failing (λ i. ltb 0 (confirm_byte job i)) 0 (entry_count job) ≡ none → AllConfirm job
  by-check e i h = ltb-true 0 (confirm_byte job i) (none-fails (λ i. ltb 0 (confirm_byte job i)) 0 (entry_count job) e i (omega arith) (omega (arith, h)))

  pub all-confirmed : AllConfirm job → Confirmed (entries_of job)
  all-confirmed f = confirmed job (none-failing (λ i. ltb 0 (confirm_byte job i)) 0 (entry_count job) (λ i l h. lt-ltb 0 (confirm_byte job i) (omega (arith, f i (omega (arith, h))))))
