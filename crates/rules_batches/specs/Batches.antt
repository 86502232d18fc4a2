-- Document 02, W14: a line minds its own business. A line's place in the output and its share; which refusals may turn on the other lines; and a
-- batch, or a FASTA file, in parts.
use Rattle.std.specs.Prelude.{ℕ, ◌+◌, ◌*◌, ◌≡◌, Bool, true, ◌&&◌, ◌||◌, get_or, drop, eqb, ltb}
use Rattle.std.proofs.Math.Option.{Option, none}
use mathlib.Core.List.{List, [], ◌∷◌, ◌++◌, map, flat_map}
use Rattle.std.proofs.Math.ListN.{length, take}
use Rattle.rules.specs.Refusal.{Refusal, accepted, refused}
use Rattle.rules.specs.Set.{KmerSet, opened}
use Rattle.rules.specs.Graph.{All}
use Rattle.rules.specs.Job.{Entry, entries_of, lines, result}
use Rattle.rules.specs.Report.{Report}
use Rattle.rules.specs.Counts.{Fed, sum, passes_of, all_passes, turns, lookups, attempts, corrections, support_over, w_of}
use Rattle.rules.specs.Calls.{Given, After, job_check, offer_check, results, correct_batch}
use Rattle.rules_fasta.specs.Shares.{given_set, SameJob, share, share_in, total, least_of, Adds, SameCounts}
use Rattle.rules_fasta.specs.Promised.{record_at, text_at}

-- ---- lists of lines in general

-- A share of turns, lookups, attempts, corrections and bases, and the smallest count behind its corrections.
pub record Share : Type 0 where
  pub turns : ℕ
  pub lookups : ℕ
  pub attempts : ℕ
  pub accepted : ℕ
  pub bases : ℕ
  pub support : Option ℕ

module _ (set : KmerSet) (es : List Entry) where
  -- Where line i stands in the output: behind the results of the lines before it, each with its ending.
  unfoldable pub place_in : List ℕ → List (List ℕ) → ℕ → ℕ
  unfolding results
  place_in ending ls i = length (results set es ending (take i ls))

  -- The bytes that stand there, as many as its result and its ending have.
  unfoldable pub bytes_in : List ℕ → List (List ℕ) → ℕ → List ℕ
  unfolding place_in result results
  bytes_in ending ls i = take (length (result set es (get_or ls i [])) + length ending) (drop (place_in ending ls i) (results set es ending ls))

  -- Line i's passes among all: one for each entry, behind those of the lines before it.
  unfoldable pub passes_in : List (List ℕ) → ℕ → List Fed
  unfolding all_passes
  passes_in ls i = take (length es) (drop (i * length es) (all_passes set es ls))

  -- Its share: what those passes count.
  unfoldable pub share_of : List (List ℕ) → ℕ → Share
  unfolding passes_in sum turns lookups attempts corrections w_of support_over
  share_of ls i =
      let ps : List Fed = passes_in ls i in
      record {
        turns = sum (turns set) ps;
        lookups = sum (lookups set) ps;
        attempts = sum (attempts set) ps;
        accepted = sum (corrections set) ps;
        bases = sum (w_of set) ps;
        support = elim set.counts [ [] ↦ none | c ∷ cs ↦ support_over set ps ];
      }

-- The share is what a report tells.
pub record Tells (r : Report) (s : Share) : Type 0 where
  pub turns : s.turns ≡ r.turns
  pub lookups : s.lookups ≡ r.lookups
  pub attempts : s.attempts ≡ r.attempts
  pub accepted : s.accepted ≡ r.accepted
  pub bases : s.bases ≡ r.bases
  pub support : s.support ≡ r.support

-- Line i of one list and line j of another: the same bytes at its place, the line's own result and its ending; the same passes, those of the line
-- alone; the same share, what a batch of its own reports.
pub record OwnLine (set : KmerSet) (es : List Entry) (ending : List ℕ) (ls ms : List (List ℕ)) (i j : ℕ) : Type 0 where
  pub bytes : bytes_in set es ending ls i ≡ bytes_in set es ending ms j
  pub own_bytes : bytes_in set es ending ls i ≡ result set es (get_or ls i []) ++ ending
  pub passes : passes_in set es ls i ≡ passes_in set es ms j
  pub own_passes : passes_in set es ls i ≡ passes_of set es (get_or ls i [])
  pub shares : share_of set es ls i ≡ share_of set es ms j
  pub own_share : Tells (share set es (get_or ls i [])) (share_of set es ls i)

-- ---- a line of a batch call

-- Line i of the batch.
unfoldable pub line_at : Given → ℕ → List ℕ
unfolding lines
line_at g i = get_or (lines g.input) i []

-- A read's result under the call's set and job.
unfoldable pub result_in : Given → List ℕ → List ℕ
unfolding given_set entries_of result
result_in g read = result (given_set g) (entries_of g.job) read

-- Where line i stands in the output, and the bytes that stand there after the call: as many as its result and byte 10.
unfoldable pub place_at : Given → ℕ → ℕ
unfolding given_set entries_of lines place_in
place_at g i = place_in (given_set g) (entries_of g.job) (10 ∷ []) (lines g.input) i

unfoldable pub bytes_at : Given → ℕ → List ℕ
unfolding result_in line_at place_at correct_batch
bytes_at g i = take (length (result_in g (line_at g i)) + 1) (drop (place_at g i) (correct_batch g).output)

-- Its passes among the call's, and its share of the call.
unfoldable pub passes_at : Given → ℕ → List Fed
unfolding given_set entries_of lines passes_in
passes_at g i = passes_in (given_set g) (entries_of g.job) (lines g.input) i

unfoldable pub share_at : Given → ℕ → Share
unfolding given_set entries_of lines share_of
share_at g i = share_of (given_set g) (entries_of g.job) (lines g.input) i

-- The text written by a call with report r.
unfoldable pub text_by : (Given → After) → Given → Report → List ℕ
text_by correct g r = take r.written (correct g).output

-- A line at i in one accepted call, with report r, and at j in another, with report q: the same bytes at its place in the output, its own result and
-- byte 10; the same line of the text written; the same passes; the same share, its support too where the counts offered are the same.
pub record SameLine (g h : Given) (r q : Report) (i j : ℕ) : Type 0 where
  pub bytes : bytes_at g i ≡ bytes_at h j
  pub own_bytes : bytes_at g i ≡ result_in g (line_at g i) ++ (10 ∷ [])
  pub line : get_or (lines (text_by correct_batch g r)) i [] ≡ get_or (lines (text_by correct_batch h q)) j []
  pub passes : passes_at g i ≡ passes_at h j
  pub turns : (share_at g i).turns ≡ (share_at h j).turns
  pub lookups : (share_at g i).lookups ≡ (share_at h j).lookups
  pub attempts : (share_at g i).attempts ≡ (share_at h j).attempts
  pub accepted : (share_at g i).accepted ≡ (share_at h j).accepted
  pub bases : (share_at g i).bases ≡ (share_at h j).bases
  pub support : g.counts ≡ h.counts → (share_at g i).support ≡ (share_at h j).support

-- ---- refusals

-- Those whose conditions may turn on the other lines: 1, 5, 6 and 11.
unfoldable pub on_lines : ℕ → Bool
on_lines n = eqb n 1 || eqb n 5 || eqb n 6 || eqb n 11

-- Those of them that are checked before number n.
unfoldable pub before : ℕ → ℕ → Bool
before s n = (eqb s 1 || eqb s 5 || eqb s 6) && ltb s n

-- The same index and counts.
pub record SameOffer (g h : Given) : Type 0 where
  pub index : g.index ≡ h.index
  pub counts : g.counts ≡ h.counts

-- The conditions of any two batches: the job's checks, the opening of the set and, where the same is offered, 15 and 16.
pub record SameChecks (g h : Given) : Type 0 where
  pub job : job_check g.job ≡ job_check h.job
  pub set : opened g.set ≡ opened h.set
  pub offer : SameOffer g h → (set : KmerSet) → offer_check set g.index g.counts ≡ offer_check set h.index h.counts

-- A call is refused with r, or with one of 1, 5 and 6 that is checked before r.
pub data RefusedAlike (h : Given) (r : Refusal) : Type 0 where
  alike : (correct_batch h).answer ≡ refused r → RefusedAlike h r
  sooner : (s : Refusal) → (correct_batch h).answer ≡ refused s → before s.number r.number ≡ true → RefusedAlike h r

-- Both calls are accepted, or both are refused with the same number and place.
pub data Agree (g h : Given) : Type 0 where
  both-accepted : (r q : Report) → (correct_batch g).answer ≡ accepted r → (correct_batch h).answer ≡ accepted q → Agree g h
  both-refused : (r : Refusal) → (correct_batch g).answer ≡ refused r → (correct_batch h).answer ≡ refused r → Agree g h

-- ---- parts

-- A call of the same kind with the same set and job, accepted with its report.
pub record Part (correct : Given → After) (g : Given) : Type 0 where
  pub call : Given
  pub report : Report
  pub same : SameJob g call
  pub is_accepted : (correct call).answer ≡ accepted report

-- The parts' input, one behind the other.
unfoldable pub input_of : {correct : Given → After} {g : Given} → List (Part correct g) → List ℕ
unfolding flat_map
input_of ps = flat_map (λ p. p.call.input) ps

unfoldable pub reports_of : {correct : Given → After} {g : Given} → List (Part correct g) → List Report
reports_of ps = map (λ p. p.report) ps

-- A call with report r beside its parts: the text written is theirs, one behind the other; written, turns, lookups, attempts, accepted and bases add;
-- yield, quotient and remainder come from the sums; the support is the least, where all offer the same counts.
pub record Joined (correct : Given → After) (g : Given) (r : Report) (ps : List (Part correct g)) : Type 0 where
  pub text : text_by correct g r ≡ flat_map (λ p. text_by correct p.call p.report) ps
  pub written : r.written ≡ total (λ q. q.written) (reports_of ps)
  pub adds : Adds r (reports_of ps)
  pub support : All (λ p. g.counts ≡ p.call.counts) ps → r.support ≡ least_of (reports_of ps)

-- ---- FASTA records

-- A record at i in one accepted file and at j in another: the same text at its place in the output, the same share; its support too where the counts
-- offered are the same.
pub record SameRecord (g h : Given) (i j : ℕ) : Type 0 where
  pub text : text_at g i ≡ text_at h j
  pub counts : SameCounts (share_in g (record_at g i).read) (share_in h (record_at h j).read)
  pub support : g.counts ≡ h.counts → (share_in g (record_at g i).read).support ≡ (share_in h (record_at h j).read).support
