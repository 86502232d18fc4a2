-- Document 02, W9: what will this job need? A call without output buffer gives, for a job of one method, the exact bytes the batch will be, its
-- turns and its lookups (refusal 17).
use Rattle.std.specs.Prelude.{ℕ, suc, ◌≤◌, ◌<◌, ◌≡◌, List, [], ◌∷◌, length, take, replicate, eqb, leb}
use Rattle.std.proofs.Math.Option.{none, some}
use Rattle.rules.specs.Refusal.{Refusal, Outcome, accepted, refused, Check, ◌or_else◌, unless}
use Rattle.rules.specs.Set.{KmerSet, offering, set_of, opened}
use Rattle.rules.specs.Job.{Entry, entry_count, entries_of, lines}
use Rattle.rules.specs.Report.{Report}
use Rattle.rules.specs.Calls.{Given, max_read, job_check, batch_right, report, offer_check, correct_batch}

-- What the call is given: the set's bytes, an index's bytes and a list of counts (empty: not offered), the job's bytes, a batch, and the lent
-- work buffer.
pub record Asked : Type 0 where
  pub set : List ℕ
  pub index : List ℕ
  pub counts : List ℕ
  pub job : List ℕ
  pub batch : List ℕ
  pub work : List ℕ

-- The exact bytes the batch will be, its turns and its lookups.
pub record Needs : Type 0 where
  pub bytes : ℕ
  pub turns : ℕ
  pub lookups : ℕ

-- What the call answers, and every byte of the work buffer afterwards.
pub record Told : Type 0 where
  pub answer : Outcome Needs
  pub work : List ℕ

-- ---- the checks

-- Checks 1 to 5, by the job and the lengths of batch and work. 17 when the job has other than one method, after 4; 5 now means only a work
-- buffer shorter than the batch.
unfoldable pub needs_check : ℕ → List ℕ → ℕ → Check
unfolding unless job_check entry_count ◌or_else◌
needs_check batch job work =
    unless (leb batch max_read) 1
    or_else job_check job
    or_else unless (eqb (entry_count job) 1) 17
    or_else unless (leb batch work) 5

-- Checks 1 to 6 of what is asked.
unfoldable pub asked_check : Asked → Check
unfolding needs_check unless batch_right ◌or_else◌
asked_check a = needs_check (length a.batch) a.job (length a.work) or_else (let six = unless (batch_right a.batch) 6 in six)

-- ---- the call

-- A refusal: no lent byte is changed.
unfoldable pub declined : Asked → Refusal → Told
declined a r = record { answer = refused r; work = a.work }

-- What lines will need: as the report of a batch has it, whatever an output could hold.
unfoldable pub needed_for : KmerSet → List Entry → List (List ℕ) → Needs
unfolding report
needed_for set es reads =
    let r : Report = report set es (10 ∷ []) reads in
    record { bytes = r.written; turns = r.turns; lookups = r.lookups }

-- After the checks of the input come the set's, 7 to 10, then those of what is offered, 15 and 16. An accepted call zeroes the work buffer.
unfoldable pub needs_by : Outcome KmerSet → Asked → Told
unfolding asked_check declined offer_check offering needed_for entries_of lines
needs_by opening a =
    elim (asked_check a) [
      | some r ↦ declined a r
      | none ↦ elim opening [
        | refused r ↦ declined a r
        | accepted set ↦ elim (offer_check set a.index a.counts) [
          | some r ↦ declined a r
          | none ↦ record {
            answer = accepted (needed_for (offering a.index a.counts set) (entries_of a.job) (lines a.batch));
            work = replicate (length a.work) 0;
          }
        ]
      ]
    ]

unfoldable pub needs : Asked → Told
unfolding needs_by opened
needs a = needs_by (opened a.set) a

-- ---- what it says of the real call

-- The batch call with the same set, job and batch; whatever index and counts it offers, and its own output and work buffer.
unfoldable pub real : Asked → List ℕ → List ℕ → List ℕ → List ℕ → Given
real a index counts output work =
    record { set = a.set; index = index; counts = counts; job = a.job; input = a.batch; output = output; work = work }

-- A report with these numbers.
pub record Meets (n : Needs) (r : Report) : Type 0 where
  pub written : r.written ≡ n.bytes
  pub turns : r.turns ≡ n.turns
  pub lookups : r.lookups ≡ n.lookups

-- The bytes of the first i lines' results, each with its byte 10.
unfoldable pub bytes_up_to : Asked → ℕ → ℕ
unfolding set_of entries_of lines needed_for
bytes_up_to a i = (needed_for (set_of a.set) (entries_of a.job) (take i (lines a.batch))).bytes

-- What the real call answers: with an output of at least these bytes it is accepted and reports these numbers; with a shorter one it is
-- refused with 11, at the line whose result no longer fits behind those before it.
pub data Answers (a : Asked) (n : Needs) (g : Given) : Type 0 where
  enough : n.bytes ≤ length g.output → (r : Report) → (correct_batch g).answer ≡ accepted r → Meets n r → Answers a n g
  short : length g.output < n.bytes → (line : ℕ) → (correct_batch g).answer ≡ refused (record { number = 11; place = line })
      → bytes_up_to a line ≤ length g.output → length g.output < bytes_up_to a (suc line) → Answers a n g

-- What is told here where the real call is refused with r: the same number and place; or 17, or this call's own 5, and these only in place of
-- 6 to 10, 15 and 16.
pub data Declines (a : Asked) (r : Refusal) : Type 0 where
  alike : (needs a).answer ≡ refused r → Declines a r
  with-17 : (needs a).answer ≡ refused (record { number = 17; place = 0 }) → 6 ≤ r.number → Declines a r
  with-5 : (needs a).answer ≡ refused (record { number = 5; place = 0 }) → 6 ≤ r.number → Declines a r
