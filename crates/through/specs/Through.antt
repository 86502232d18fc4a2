-- Document 01, "Records", Job and Counts, and refusal 11, and document 02, W8 and W10: a read through the entries of a job.
use Rattle.std.specs.Prelude.{ℕ, ◌+◌, ◌-◌, ◌≤◌, ◌<◌, ◌%◌, ◌≡◌, true, false, List, length, eqb, Result, Ok, Err}
use Rattle.rules.specs.Set.{KmerSet}
use Rattle.rules.specs.Driver as rules
use Rattle.rules.specs.Job.{Entry, entry_count, entries_from, entries_of, result}
use Rattle.rules.specs.Counts.{Fed, sum, passes_of, turns, lookups, attempts, corrections, support_over, w_of}
use Rattle.rules.specs.Calls.{longest}
use Rattle.turn.specs.declared.Counts.{Counts}
use Rattle.turn.specs.declared.Full.{Full}
use Rattle.correct.specs.Pass.{Tally, tally_of, PassIs, Small}

-- The entries' result, and what their passes count.
unfoldable pub through : KmerSet → List Entry → List ℕ → Tally
unfolding result sum passes_of turns lookups attempts corrections support_over w_of
through set es read =
    let ps : List Fed = passes_of set es read in
    record {
      bytes = result set es read;
      turns = sum (turns set) ps;
      lookups = sum (lookups set) ps;
      attempts = sum (attempts set) ps;
      accepted = sum (corrections set) ps;
      support = support_over set ps;
      bases = sum (w_of set) ps;
    }

-- The answer to a read through a list of entries: the result with its counts; Full exactly where a pass result (the read, if no
-- entries) is longer than the room.
abbrev pub ThroughIs : KmerSet → List Entry → List ℕ → ℕ → List ℕ → Result Counts Full → Type 0
ThroughIs set es read room out (Ok r) =
    (tally_of r out ≡ through set es read) × (r.written ≤ length out) × (longest set es read ≤ room) × Small (length es) (tally_of r out)
ThroughIs set es read room out (Err full) = room < longest set es read

pub record Through (set : KmerSet) (job read output output' work work' : List ℕ) (r : Result Counts Full) : Type 0 where
  pub is : ThroughIs set (entries_of job) read (length output) output' r
  pub output_room : length output' ≡ length output
  pub work_room : length work' ≡ length work

-- A pass of an entry into the buffer out, whose room it may use.
pub record PassInto (room : ℕ) (out : List ℕ) (n : Tally) (r : Result Counts Full) : Type 0 where
  pub is : PassIs room out n r
  pub small : Small 1 n

-- The entries from i on.
abbrev pub entries_left : List ℕ → ℕ → List Entry
entries_left job i = entries_from job i (entry_count job - i)

-- The passes so far, p, and the next, q.
abbrev pub both : Tally → Tally → Tally
both p q =
    record {
      bytes = q.bytes;
      turns = p.turns + q.turns;
      lookups = p.lookups + q.lookups;
      attempts = p.attempts + q.attempts;
      accepted = p.accepted + q.accepted;
      support = rules.weaker p.support q.support;
      bases = p.bases + q.bases;
    }

-- The passes so far and then the entries that are left.
abbrev pub go_on : KmerSet → Tally → List Entry → Tally
go_on set p es = both p (through set es p.bytes)

-- The answer to the entries behind the first, whose pass is p: the result with the counts of all passes; Full exactly where the result of a
-- later pass (that of the first, if there is none) is longer than the room.
abbrev pub GoneOn : KmerSet → List ℕ → Tally → ℕ → List ℕ → Result Counts Full → Type 0
GoneOn set job p room out (Ok r) =
    (tally_of r out ≡ go_on set p (entries_left job 1))
    × (r.written ≤ length out)
    × (longest set (entries_left job 1) p.bytes ≤ room)
    × Small (entry_count job) (tally_of r out)
GoneOn set job p room out (Err full) = room < longest set (entries_left job 1) p.bytes

-- The buffer that holds what is read while n passes are left: the last pass ends in the output.
unfoldable pub held : ℕ → List ℕ → List ℕ → List ℕ
held n output work = elim (eqb (n % 2) 0) [ true ↦ output | false ↦ work ]
