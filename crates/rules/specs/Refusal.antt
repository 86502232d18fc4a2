-- Document 01, "Refused because of the input": a refusal's number and place, and checks made upward.
use Rattle.std.specs.Prelude.{ℕ, zero, suc, Bool, true, false}
use Rattle.std.proofs.Math.Option.{Option, none, some}

-- A refusal's number, and its place (0 unless said; places count from 0).
pub record Refusal : Type 0 where
  pub number : ℕ
  pub place : ℕ

-- What is asked for, or a refusal.
pub data Outcome (A : Type 0) : Type 0 where
  accepted : A → Outcome A
  refused : Refusal → Outcome A

-- A check refuses or lets pass.
abbrev pub Check : Type 0
Check = Option Refusal

-- Checked upward: the first that refuses.
infixr 30 ◌or_else◌
unfoldable pub ◌or_else◌ : Check → Check → Check
◌or_else◌ none later = later
◌or_else◌ (some r) later = some r

-- Refusal r unless the test holds.
unfoldable pub unless : Bool → ℕ → Check
unless true r = none
unless false r = some (record { number = r; place = 0 })

-- Refusal r at the place, if there is one.
unfoldable pub at_place : ℕ → Option ℕ → Check
at_place r none = none
at_place r (some p) = some (record { number = r; place = p })

-- The first index, of m from i on, at which the test fails.
unfoldable pub first_failing : (ℕ → Bool) → ℕ → ℕ → Option ℕ
first_failing ok i zero = none
first_failing ok i (suc m) = elim (ok i) [ true ↦ first_failing ok (suc i) m | false ↦ some i ]
