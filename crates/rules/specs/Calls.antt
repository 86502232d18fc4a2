-- Document 01, refusals 1 to 6 and 11, and what the single-read and the batch call answer and leave in the lent buffers; document 02, W1,
-- W7: an index may be offered with the set (refusal 15), W8: and the keys' counts (refusal 16), W10: lookups for each base.
use Rattle.std.specs.Prelude.{ℕ, suc, ◌+◌, ◌*◌, ◌-◌, max, Bool, ◌&&◌, ◌||◌, get_or, eqb, ltb, leb}
use Rattle.std.proofs.Math.Bool.{true, false}
use Rattle.std.proofs.Math.Option.{Option, none, some}
use mathlib.Core.List.{List, [], ◌∷◌, ◌++◌}
use Rattle.std.proofs.Math.ListN.{length, replicate}
use Rattle.rules.specs.Refusal.{Refusal, Outcome, accepted, refused, Check, ◌or_else◌, unless, at_place, first_failing}
use Rattle.rules.specs.Set.{KmerSet, offering, opened}
use Rattle.rules.specs.Index.{index_check}
use Rattle.rules.specs.Driver.{Pass}
use Rattle.rules.specs.Job.{Entry, known, method_byte, confirm_byte, entry_count, entries_of, lines, pass, result}
use Rattle.rules.specs.Report.{Report, yield_of, quotient_of, remainder_of}
use Rattle.rules.specs.Counts.{Fed, sum, all_passes, turns, lookups, attempts, corrections, support_over, w_of}

-- ---- the limits

abbrev pub max_read : ℕ
max_read = 1048576

abbrev pub max_methods : ℕ
max_methods = 8

abbrev pub max_output : ℕ
max_output = 1048576

abbrev pub max_work : ℕ
max_work = 2097152

abbrev pub max_lines : ℕ
max_lines = 1024

-- ---- refused because of the input

-- 5: output or work too long, or work shorter than twice the longer of output and read or batch. By their lengths.
unfoldable pub buffers_right : ℕ → ℕ → ℕ → Bool
buffers_right input output work = leb output max_output && leb work max_work && leb (2 * max output input) work

-- Checks 2 to 4, upward, of the job alone: the number of entries, all methods, then all confirms.
unfoldable pub job_check : List ℕ → Check
unfolding unless at_place first_failing known method_byte confirm_byte entry_count ◌or_else◌
job_check job =
    unless (leb (entry_count job) max_methods) 2
    or_else at_place 3 (first_failing (λ i. known (method_byte job i)) 0 (entry_count job))
    or_else at_place 4 (first_failing (λ i. ltb 0 (confirm_byte job i)) 0 (entry_count job))

-- Checks 1 to 5, upward: the input's length, the job's, and the lengths of output and work.
unfoldable pub input_check : ℕ → List ℕ → ℕ → ℕ → Check
unfolding unless job_check buffers_right ◌or_else◌
input_check input job output work =
    unless (leb input max_read) 1
    or_else job_check job
    or_else unless (buffers_right input output work) 5

-- 6: a batch is empty or has a final 10, and no more than 1,024 lines.
unfoldable pub batch_right : List ℕ → Bool
unfolding lines
batch_right batch =
    (eqb (length batch) 0 || eqb (get_or batch (length batch - 1) 0) 10)
    && leb (length (lines batch)) max_lines

-- ---- the calls

-- What a call is given: the set's bytes, an index's bytes and a list of counts (empty: not offered), the job's bytes, a read or a batch, and
-- the two lent buffers.
pub record Given : Type 0 where
  pub set : List ℕ
  pub index : List ℕ
  pub counts : List ℕ
  pub job : List ℕ
  pub input : List ℕ
  pub output : List ℕ
  pub work : List ℕ

-- The same with no index offered.
unfoldable pub without_index : Given → Given
without_index g =
    record { set = g.set; index = []; counts = g.counts; job = g.job; input = g.input; output = g.output; work = g.work }

-- The same with no counts offered.
unfoldable pub without_counts : Given → Given
without_counts g = record { set = g.set; index = g.index; counts = []; job = g.job; input = g.input; output = g.output; work = g.work }

-- What a call answers, and every byte of the two buffers afterwards.
pub record After : Type 0 where
  pub answer : Outcome Report
  pub output : List ℕ
  pub work : List ℕ

-- Refusals 1 to 10, 15 and 16: no lent byte is changed.
unfoldable pub unchanged : Given → Refusal → After
unchanged g r = record { answer = refused r; output = g.output; work = g.work }

-- Refusal 11 at a line: output and work buffer all zero.
unfoldable pub no_room : Given → ℕ → After
no_room g line =
    record {
      answer = refused (record { number = 11; place = line });
      output = replicate (length g.output) 0;
      work = replicate (length g.work) 0;
    }

-- The longest of a read's pass results; the read, if no methods.
unfoldable pub longest : KmerSet → List Entry → List ℕ → ℕ
unfolding pass
longest set [] read = length read
longest set (e ∷ es) read = (let p : Pass = pass set e read in max (length p.bytes) (longest set es p.bytes))

-- A call corrects reads in turn and puts an ending behind each: nothing behind a single read, byte 10 behind a line of a batch.
module _ (set : KmerSet) (es : List Entry) (ending : List ℕ) where
  -- 11: the first read, from number i on, of which a pass result with the ending is longer than what is left of the output.
  unfoldable pub too_long : ℕ → ℕ → List (List ℕ) → Option ℕ
  unfolding longest result
  too_long i left [] = none
  too_long i left (read ∷ reads) =
      elim (ltb left (longest set es read + length ending)) [
        | true ↦ some i
        | false ↦ too_long (suc i) (left - (length (result set es read) + length ending)) reads
      ]

  -- The bytes written.
  unfoldable pub results : List (List ℕ) → List ℕ
  unfolding result
  results [] = []
  results (read ∷ reads) = result set es read ++ (ending ++ results reads)

  -- The report: numbers are sums over all passes, yield, quotient and remainder from the sums; support is none where no counts are offered.
  unfoldable pub report : List (List ℕ) → Report
  unfolding results all_passes sum turns lookups attempts corrections support_over w_of yield_of quotient_of remainder_of
  report reads =
      let ps : List Fed = all_passes set es reads in
      record {
        written = length (results reads);
        turns = sum (turns set) ps;
        lookups = sum (lookups set) ps;
        attempts = sum (attempts set) ps;
        accepted = sum (corrections set) ps;
        yield = yield_of (sum (corrections set) ps) (sum (attempts set) ps);
        support = elim set.counts [ [] ↦ none | c ∷ cs ↦ support_over set ps ];
        quotient = quotient_of (sum (lookups set) ps) (sum (w_of set) ps);
        remainder = remainder_of (sum (lookups set) ps) (sum (w_of set) ps);
        bases = sum (w_of set) ps;
      }

  -- With an opened set: 11, or the result with the rest of the output zero and the whole work buffer zero.
  unfoldable pub corrected : Given → List (List ℕ) → After
  unfolding too_long results report no_room
  corrected g reads =
      elim (too_long 0 (length g.output) reads) [
        | some line ↦ no_room g line
        | none ↦ record {
          answer = accepted (report reads);
          output = results reads ++ replicate (length g.output - length (results reads)) 0;
          work = replicate (length g.work) 0;
        }
      ]

-- 16 when an offered count list's length isn't n; an empty one counts as not offered.
unfoldable pub counts_check : KmerSet → List ℕ → Check
unfolding unless
counts_check set [] = none
counts_check set (c ∷ cs) = unless (eqb (length (c ∷ cs)) (length set.keys)) 16

-- What is offered with an opened set: the index, 15, then the counts, 16.
unfoldable pub offer_check : KmerSet → List ℕ → List ℕ → Check
unfolding index_check counts_check ◌or_else◌
offer_check set index counts = index_check set index or_else (let c = counts_check set counts in c)

-- After the checks of the input come the set's, 7 to 10, then those of what is offered, 15 and 16, then 11. Lookups go by the index, where one
-- is offered.
unfoldable pub call_by : Outcome KmerSet → List ℕ → List (List ℕ) → Check → Given → After
unfolding unchanged offer_check offering corrected entries_of
call_by opening ending reads refusal g =
    elim refusal [
      | some r ↦ unchanged g r
      | none ↦ elim opening [
        | refused r ↦ unchanged g r
        | accepted set ↦ elim (offer_check set g.index g.counts) [
          | some r ↦ unchanged g r
          | none ↦ corrected (offering g.index g.counts set) (entries_of g.job) ending g reads
        ]
      ]
    ]

unfoldable pub call : List ℕ → List (List ℕ) → Check → Given → After
unfolding call_by opened
call ending reads refusal g = call_by (opened g.set) ending reads refusal g

-- Checks 1 to 5 of what is given.
unfoldable pub given_check : Given → Check
unfolding input_check
given_check g = input_check (length g.input) g.job (length g.output) (length g.work)

-- The single-read call: a list of one read.
unfoldable pub correct_read : Given → After
unfolding call given_check
correct_read g = call [] (g.input ∷ []) (given_check g) g

-- The batch call: lines corrected in turn, output line by line with byte 10.
unfoldable pub correct_batch : Given → After
unfolding call given_check batch_right lines
correct_batch g = call (10 ∷ []) (lines g.input) (given_check g or_else (let six = unless (batch_right g.input) 6 in six)) g
