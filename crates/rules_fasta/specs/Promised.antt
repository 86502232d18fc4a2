-- Document 02, W11: what is promised of an accepted FASTA call.
use Rattle.std.specs.Prelude.{ℕ, ◌-◌, ◌≡◌, true, false, List, [], ◌∷◌, map, length, get_or, take, drop}
use Rattle.std.proofs.Math.Option.{none}
use Rattle.rules.specs.Job.{entries_of, lines}
use Rattle.rules.specs.Report.{Report}
use Rattle.rules.specs.Calls.{Given, correct_batch}
use Rattle.rules_fasta.specs.Fasta.{Record, records, file_right, first_wrong, read_lines, ended, mended, text, texts, correct_fasta}
use Rattle.rules_fasta.specs.Shares.{given_set, share_in, SameCounts}

-- Record i of the file.
unfoldable pub record_at : Given → ℕ → Record
unfolding records
record_at g i = get_or (records g.input) i (record { name = []; read = [] })

-- Where record i's text stands in the output: behind the texts of the records before it.
unfoldable pub text_place : Given → ℕ → ℕ
unfolding given_set entries_of texts records
text_place g i = length (texts (given_set g) (entries_of g.job) (take i (records g.input)))

-- The bytes at that place after the call, as many as its text has.
unfoldable pub text_at : Given → ℕ → List ℕ
unfolding given_set entries_of text record_at text_place correct_fasta
text_at g i = take (length (text (given_set g) (entries_of g.job) (record_at g i))) (drop (text_place g i) (correct_fasta g).output)

-- The text written, read again: the same names and the corrected reads; neither 6 nor 18 is met.
pub record ReadAgain (g : Given) (r : Report) : Type 0 where
  pub records : records (take r.written (correct_fasta g).output) ≡ map (mended (given_set g) (entries_of g.job)) (records g.input)
  pub file : file_right (take r.written (correct_fasta g).output) ≡ true
  pub lines : first_wrong false 0 (lines (take r.written (correct_fasta g).output)) ≡ none

-- Record i beside a batch call with its read alone, accepted with report q: the text has the record's name line and, in lines of 80, what that call
-- wrote but for its byte 10; the read's share is what that call reports, its support too where the counts offered are the same.
pub record AsAlone (g : Given) (i : ℕ) (h : Given) (q : Report) : Type 0 where
  pub text : text_at g i ≡ ended ((record_at g i).name ∷ read_lines (take (q.written - 1) (correct_batch h).output))
  pub counts : SameCounts (share_in g (record_at g i).read) q
  pub support : g.counts ≡ h.counts → (share_in g (record_at g i).read).support ≡ q.support
