-- The numbers of opening are those of the rules.
use mathlib.Core.Path.{◌≡◌}
use mathlib.Core.List.{List, [], ◌∷◌}
use Rattle.std.specs.Prelude.{ℕ, Ok, Err}
use Rattle.rules.specs.Set.{opened}
use Rattle.refusal.specs.declared.Refusal.{Refusal}
use Rattle.refusal.specs.Refusal.{refusal_of}
use Rattle.opening.proofs.Opening.{set-k}
use Rattle.set.proofs.Opened.{set-count}
use Rattle.answer_numbers.specs.Numbers.{refused_numbers, open_numbers, OpensWith}

module _ (bytes : List ℕ) where
  pub set-numbers : (k n : ℕ) → OpensWith bytes (Ok (k, n)) → (0 ∷ 0 ∷ k ∷ n ∷ []) ≡ open_numbers (opened bytes)
  unfolding open_numbers
  set-numbers k n t = rw (t.0, set-k bytes t.1, t.2, set-count bytes)

  pub refused-numbers : (r : Refusal) → OpensWith bytes (Err r) → refused_numbers (refusal_of r) ≡ open_numbers (opened bytes)
  unfolding open_numbers
  refused-numbers r t = rw t
