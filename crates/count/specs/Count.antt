-- A pass whose bytes are counted: what its answer means by the rules.
use Rattle.std.specs.Prelude.{ℕ, ◌+◌, ◌≤◌, ◌<◌, length, Result, Ok, Err}
use Rattle.turn.specs.declared.Counts.{Counts}
use Rattle.turn.specs.declared.Full.{Full}
use Rattle.correct.specs.Pass.{Tally, Small}
use Rattle.correct.specs.Drive.{CountsAre}

-- The answer to a pass n over a read of that length, with so long a spare buffer.
abbrev pub CountIs : ℕ → ℕ → Tally → Result Counts Full → Type 0
CountIs read spare n (Ok r) = CountsAre n r
CountIs read spare n (Err full) = spare < read

pub record Counted (read spare : ℕ) (n : Tally) (r : Result Counts Full) : Type 0 where
  pub is : CountIs read spare n r
  pub bytes : length n.bytes ≤ read + n.lookups
  pub small : Small 1 n
