-- What the call answers by the rules.
use Rattle.std.specs.Prelude.{ℕ, Option, Some, None, Result, Ok, Err, List, replicate}
use Rattle.rules.specs.Refusal as Rules
use Rattle.rules.specs.Refusal.{accepted, refused}
use Rattle.rules_bridge.specs.Bridge.{max_moves, Told}
use Rattle.refusal.specs.declared.Refusal.{Refusal}
use Rattle.refusal.specs.Refusal.{refusal_of}
use Rattle.bridge.specs.declared.chain.Chain.{Chain}
use Rattle.bridge.specs.declared.Bridge.{Bridge}

-- What is told of a chain: its moves and letters, and 0 for both where there is none.
abbrev pub moves_by : Option Chain → ℕ
moves_by (Some c) = c.moves
moves_by None = 0

abbrev pub letters_by : Option Chain → List ℕ
letters_by (Some c) = c.letters
letters_by None = replicate max_moves 0

-- What is told of a bridge.
abbrev pub told_by : Bridge → Told
told_by r = record { moves = moves_by r.chain; lookups = r.lookups; floor = r.floor; letters = letters_by r.chain }

-- The rules' outcome for each case.
abbrev pub answer_of : Result Bridge Refusal → Rules.Outcome Told
answer_of (Ok b) = accepted (told_by b)
answer_of (Err r) = refused (refusal_of r)
