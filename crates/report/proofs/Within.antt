-- What the checks of the input leave.
use Prim.Native.Nat.{ℕ, ◌*◌, ◌-◌, ◌≤◌, ◌<◌, max}
use native.Mathlib.Omega.{arith}
use borrow.Author.Tests.{leb-true, eqb-true, ne_eqb}
use mathlib.Core.Path.{◌≡◌}
use mathlib.Core.Bool.{true, ◌&&◌, ◌||◌}
use mathlib.Core.Option.{none}
use mathlib.Core.List.{List}
use lib.Dec.{eqb, leb}
use lib.ListN.{length, get_or}
use Rattle.rules.specs.Refusal.{Check, ◌or_else◌, unless}
use Rattle.rules.specs.Job.{entries_of, Confirmed, lines}
use Rattle.rules.specs.Calls.{max_read, max_output, max_work, max_lines, buffers_right, job_check, input_check, batch_right}
use Rattle.rules_laws.proofs.Opened.{both as and-true, passed, unless-passed}
use Rattle.rules_laws.proofs.Upward.{job-right}
use Rattle.input.specs.Input.{Within}

module _ (i : ℕ) (job : List ℕ) (o w : ℕ) where
  buffers : buffers_right i o w ≡ true → (o ≤ max_output) × (2 * max o i ≤ w)
  unfolding buffers_right
  buffers h =
      let a = and-true (leb o max_output && leb w max_work) (leb (2 * max o i) w) h in
      let b = and-true (leb o max_output) (leb w max_work) a.0 in
      (leb-true o max_output b.0, leb-true (2 * max o i) w a.1)

  pub within : input_check i job o w ≡ none → Within job i o w
  unfolding input_check
  within h =
      let one : Check = unless (leb i max_read) 1 in
      let five : Check = unless (buffers_right i o w) 5 in
      let a = passed one (job_check job or_else five) h in
      let b = passed (job_check job) five a.1 in
      let right = job-right job b.0 in
      let room = buffers (unless-passed (buffers_right i o w) 5 b.1) in
      record {
        input = leb-true i max_read (unless-passed (leb i max_read) 1 a.0);
        entries = right.0;
        output = room.0;
        work = omega arith;
        work_input = omega arith;
      }

  pub confirms : input_check i job o w ≡ none → Confirmed (entries_of job)
  unfolding input_check
  confirms h =
      let a = passed (unless (leb i max_read) 1) (job_check job or_else unless (buffers_right i o w) 5) h in
      (job-right job (passed (job_check job) (unless (buffers_right i o w) 5) a.1).0).1

module _ (batch : List ℕ) (h : batch_right batch ≡ true) where
  abbrev last : ℕ
  last = get_or batch (length batch - 1) 0

  both : ((eqb (length batch) 0 || eqb last 10) ≡ true) × (leb (length (lines batch)) max_lines ≡ true)
  unfolding batch_right
  both = and-true (eqb (length batch) 0 || eqb last 10) (leb (length (lines batch)) max_lines) h

  pub few-lines : length (lines batch) ≤ max_lines
  few-lines = leb-true (length (lines batch)) max_lines both.1

  pub ends-in-10 : 0 < length batch → last ≡ 10
  ends-in-10 l = eqb-true last 10 (rw (ne_eqb (length batch) 0 (λ e. omega arith)) at both.0)
