-- A record corrected: what its answer means by the rules.
use Rattle.std.specs.Prelude.{ℕ, ◌+◌, ◌-◌, ◌≤◌, ◌<◌, ◌≡◌, ◌⊎◌, List, ◌++◌, length, take, Result, Ok, Err}
use Rattle.rules.specs.Set.{KmerSet}
use Rattle.rules.specs.Job.{Entry}
use Rattle.rules.specs.Calls.{longest}
use Rattle.rules_fasta.specs.Fasta.{Record, text}
use Rattle.turn.specs.declared.Counts.{Counts}
use Rattle.turn.specs.declared.Full.{Full}
use Rattle.correct.specs.Pass.{Tally, tally_of, Small}
use Rattle.through.specs.Through.{through}

-- Counts with another number of bytes written.
abbrev pub with_written : Counts → ℕ → Counts
with_written n written =
    record {
      written = written;
      turns = n.turns;
      lookups = n.lookups;
      attempts = n.attempts;
      accepted = n.accepted;
      support = n.support;
      bases = n.bases;
    }

-- A record's text, and what its read's passes count.
abbrev pub record_through : KmerSet → List Entry → Record → Tally
record_through set es r =
    let p = through set es r.read in
    record {
      bytes = text set es r;
      turns = p.turns;
      lookups = p.lookups;
      attempts = p.attempts;
      accepted = p.accepted;
      support = p.support;
      bases = p.bases;
    }

-- A record's text stands behind the first `at` bytes of the output; n are its counts.
pub record Written (set : KmerSet) (es : List Entry) (r : Record) (at : ℕ) (o o' : List ℕ) (n : Counts) : Type 0 where
  pub is : tally_of n (text set es r) ≡ record_through set es r
  pub long : n.written ≡ length (text set es r)
  pub out : take (at + n.written) o' ≡ take at o ++ text set es r
  pub fits : length (text set es r) ≤ length o - at
  pub passes : longest set es r.read ≤ length o - at
  pub small : Small (length es) (record_through set es r)

-- Full where a pass result or the text is longer than what is left.
abbrev pub RecordIs : KmerSet → List Entry → List ℕ → List ℕ → ℕ → List ℕ → List ℕ → Result Counts Full → Type 0
RecordIs set es name read at o o' (Ok n) = Written set es (record { name = name; read = read }) at o o' n
RecordIs set es name read at o o' (Err full) =
    (length o - at < longest set es read) ⊎ (length o - at < length (text set es (record { name = name; read = read })))
