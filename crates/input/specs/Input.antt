-- What the answers mean in the rules' terms.
use Rattle.std.specs.Prelude.{ℕ, ◌*◌, ◌≤◌, ◌≡◌, List, [], ◌∷◌, ◌++◌, Option, None, Some, Result}
use Rattle.std.specs.Result.{ForOk}
use denote.Ref.{Bor}
use Rattle.input.specs.declared.BatchLines.{BatchLines}
use Rattle.rules.specs.Job.{entry_count, lines}
use Rattle.rules.specs.Calls.{max_read, max_methods, max_output}
use Rattle.entries.specs.declared.job.Job.{Job}
use Rattle.refusal.specs.declared.Refusal.{Refusal}
pub use Rattle.refusal.specs.Refusal.{check_of}

-- A job that passed its checks is given with the same bytes.
abbrev pub GivesJob : List ℕ → Result Job Refusal → Type 0
GivesJob job r = ForOk r (λ checked. checked.bytes.now ≡ job)

-- The bytes that are left, and the lines that are still to come.
abbrev pub bytes_left : BatchLines → List ℕ
bytes_left l = l.rest.now

abbrev pub lines_left : BatchLines → List (List ℕ)
lines_left l = lines (bytes_left l)

-- The first line comes off with its byte 10, or no line is left.
abbrev pub GivesLine : BatchLines → Option (Bor (List ℕ)) → BatchLines → Type 0
GivesLine old None new = (lines_left old ≡ []) × (new ≡ old)
GivesLine old (Some line) new = (lines_left old ≡ line.now ∷ lines_left new) × (bytes_left old ≡ line.now ++ (10 ∷ bytes_left new))

-- What checks 1 to 5 leave, by the job and the lengths of input, output and work.
pub record Within (job : List ℕ) (i o w : ℕ) : Type 0 where
  pub input : i ≤ max_read
  pub entries : entry_count job ≤ max_methods
  pub output : o ≤ max_output
  pub work : 2 * o ≤ w
  pub work_input : 2 * i ≤ w
