-- What the lines of a batch promise each other.
use Rattle.std.specs.Prelude.{ℕ, ◌+◌, ◌-◌, ◌≤◌, ◌<◌, ◌≡◌, List, [], ◌∷◌, ◌++◌, length, take, drop, Result, Ok, Err}
use Rattle.rules.specs.Set.{KmerSet}
use Rattle.rules.specs.Job.{Entry}
use Rattle.rules.specs.Calls.{longest}
use Rattle.turn.specs.declared.Counts.{Counts}
use Rattle.turn.specs.declared.Full.{Full}
use Rattle.correct.specs.Pass.{Tally, tally_of, Small}
use Rattle.through.specs.Through.{through}

-- A line with byte 10 behind its result.
abbrev pub line_through : KmerSet → List Entry → List ℕ → Tally
line_through set es line =
    let p = through set es line in
    record {
      bytes = p.bytes ++ (10 ∷ []);
      turns = p.turns;
      lookups = p.lookups;
      attempts = p.attempts;
      accepted = p.accepted;
      support = p.support;
      bases = p.bases;
    }

-- A line stands behind the first `at` bytes of the output; Full where a pass result and byte 10 are more than what is left.
abbrev pub LineIs : KmerSet → List Entry → List ℕ → ℕ → List ℕ → List ℕ → Result Counts Full → Type 0
LineIs set es line at o o' (Ok r) =
    (tally_of r (drop at o') ≡ line_through set es line)
    × (take at o' ≡ take at o)
    × (at + r.written ≤ length o)
    × (longest set es line + 1 ≤ length o - at)
    × Small (length es) (tally_of r (drop at o'))
LineIs set es line at o o' (Err full) = length o - at < longest set es line + 1
