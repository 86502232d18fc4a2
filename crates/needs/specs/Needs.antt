-- What the call's answer means by the rules, and what it promises.
use Rattle.std.specs.Prelude.{ℕ, ◌+◌, ◌≤◌, ◌≡◌, List, length, replicate, Result, Ok, Err}
use Rattle.rules.specs.Refusal.{Outcome, accepted, refused}
use Rattle.rules.specs.Set.{KmerSet}
use Rattle.rules.specs.Job.{Entry, entry_count, entries_of, lines}
use Rattle.rules_ceiling.specs.Ceiling.{Demand3}
use Rattle.rules.specs.Calls.{max_read}
use Rattle.rules_needs.specs.Needs as rules
use Rattle.rules_needs.specs.Needs.{needed_for}
use Rattle.refusal.specs.Refusal.{refusal_of}
use Rattle.turn.specs.declared.Counts.{Counts}
use Rattle.needs.specs.declared.Need.{Need}
use Rattle.refusal.specs.declared.Refusal.{Refusal}

abbrev pub needs_of : Need → rules.Needs
needs_of n = record { bytes = n.bytes; turns = n.turns; lookups = n.lookups }

-- The rules' outcome for each case.
abbrev pub answer_of : Result Need Refusal → Outcome rules.Needs
answer_of (Ok n) = accepted (needs_of n)
answer_of (Err r) = refused (refusal_of r)

-- What the call is given.
abbrev pub asked : List ℕ → List ℕ → List ℕ → List ℕ → List ℕ → List ℕ → rules.Asked
asked set index counts job batch work =
    record { set = set; index = index; counts = counts; job = job; batch = batch; work = work }

-- The answer and each byte of the work buffer are those of the rules.
pub record Exact (told : rules.Told) (r : Result Need Refusal) (work : List ℕ) : Type 0 where
  pub answer : answer_of r ≡ told.answer
  pub zeroed : work ≡ told.work

-- Demand 3, of an accepted call.
abbrev pub Ceiling : KmerSet → List Entry → List (List ℕ) → Result Need Refusal → Type 0
Ceiling set es reads (Ok n) = Demand3 set es reads n.turns n.lookups
Ceiling set es reads (Err r) = Unit

-- ---- what the functions promise each other

-- What checks 1 to 5 leave, by the job and the lengths of batch and work.
pub record Bookable (job : List ℕ) (batch work : ℕ) : Type 0 where
  pub input : batch ≤ max_read
  pub one : entry_count job ≡ 1
  pub room : batch ≤ work

-- A line more, with its byte 10.
abbrev pub plus_line : Need → Counts → Need
plus_line done line =
    record { bytes = done.bytes + line.written + 1; turns = done.turns + line.turns; lookups = done.lookups + line.lookups }

-- What an opened set's lines need, with work zeroed.
abbrev pub counted : KmerSet → List ℕ → List ℕ → List ℕ → rules.Told
counted set job batch work =
    record { answer = accepted (needed_for set (entries_of job) (lines batch)); work = replicate (length work) 0 }
