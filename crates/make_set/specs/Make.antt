-- What making a set answers, in the rules' terms.
use Rattle.std.specs.Prelude.{ℕ, List, Result}
use Rattle.rules_make.specs.MakeSet.{SetMade}
use Rattle.refusal.specs.declared.Refusal.{Refusal}
use Rattle.lay.specs.Made.{outcome_of}

-- What the call answers, and blocks and counts afterwards.
abbrev pub set_made_of : Result ℕ Refusal → List ℕ → List ℕ → SetMade
set_made_of r blocks counts = record { answer = outcome_of r; blocks = blocks; counts = counts }
