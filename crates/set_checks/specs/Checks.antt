-- What the checks of a set answer.
use Rattle.std.specs.Prelude.{ℕ, ◌*◌, ◌-◌, ◌≡◌, List, Result, Ok, Err}
use Rattle.std.proofs.Math.Option.{Option, some}
use Rattle.rules.specs.Refusal as Rules
use Rattle.rules.specs.Refusal.{at_place, first_failing}
use Rattle.rules.specs.Set.{blocks, check_right, key_right}
use Rattle.refusal.specs.declared.Refusal.TheVariants.{Key}
use Rattle.refusal.specs.Refusal.{refusal_of}
use Rattle.set_checks.specs.Keys.{least_key}

-- The first block from one on whose check is wrong.
abbrev pub first_wrong : List ℕ → ℕ → Option ℕ
first_wrong bytes block = first_failing (check_right bytes) block (blocks bytes - block)

-- Check 8.
abbrev pub wrong_check : List ℕ → Rules.Check
wrong_check bytes = at_place 8 (first_wrong bytes 0)

-- Check 10 from word i of the key blocks on.
abbrev pub wrong_key : List ℕ → ℕ → Rules.Check
wrong_key bytes i = at_place 10 (first_failing (key_right bytes) i (63 * (blocks bytes - 1) - i))

-- A look at the keys from word i up to word e: they let pass, and the key behind them may be no less than `least`; or key w is wrong.
abbrev pub Looked : List ℕ → ℕ → ℕ → Result ℕ ℕ → Type 0
Looked bytes i e (Ok least) = (wrong_key bytes i ≡ wrong_key bytes e) × (least ≡ least_key bytes e)
Looked bytes i e (Err w) = wrong_key bytes i ≡ some (refusal_of (Key w))
