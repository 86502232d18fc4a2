-- What a maker of blocks answers, in the rules' terms.
use Rattle.std.specs.Prelude.{ℕ, List, Result, Ok, Err}
use Rattle.rules.specs.Refusal.{Outcome, accepted, refused}
use Rattle.rules.specs.Blocks as Rules
use Rattle.refusal.specs.declared.Refusal.{Refusal}
use Rattle.refusal.specs.Refusal.{refusal_of}

-- The length of the blocks in bytes, or why none are made.
abbrev pub outcome_of : Result ℕ Refusal → Outcome ℕ
outcome_of (Ok length) = accepted length
outcome_of (Err r) = refused (refusal_of r)

-- What the call answers, and the buffer afterwards.
abbrev pub made_of : Result ℕ Refusal → List ℕ → Rules.Made
made_of r buffer = record { answer = outcome_of r; buffer = buffer }
