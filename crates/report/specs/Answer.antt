-- What a call's answer means in the papers' terms, and what the calls promise.
use Rattle.std.specs.Prelude.{ℕ, ◌≡◌, List, Result, Ok, Err}
use Rattle.rules.specs.Refusal.{Outcome, accepted, refused}
use Rattle.rules.specs.Report as Reports
use Rattle.rules.specs.Set.{KmerSet}
use Rattle.rules.specs.Job.{Entry}
use Rattle.rules_ceiling.specs.Ceiling.{Demand3}
use Rattle.rules.specs.Calls.{Given, After}
use Rattle.refusal.specs.Refusal.{refusal_of}
use Rattle.support.specs.Support.{support_of}
use Rattle.report.specs.declared.Report.{Report}
use Rattle.refusal.specs.declared.Refusal.{Refusal}

abbrev pub report_of : Report → Reports.Report
report_of r =
    record {
      written = r.written;
      turns = r.turns;
      lookups = r.lookups;
      attempts = r.attempts;
      accepted = r.accepted;
      yield = r.yield_;
      support = support_of r.support;
      quotient = r.quotient;
      remainder = r.remainder;
      bases = r.bases;
    }

-- The rules' outcome for each case.
abbrev pub answer_of : Result Report Refusal → Outcome Reports.Report
answer_of (Ok r) = accepted (report_of r)
answer_of (Err r) = refused (refusal_of r)

-- What a call is given.
abbrev pub given : List ℕ → List ℕ → List ℕ → List ℕ → List ℕ → List ℕ → List ℕ → Given
given set index counts job input output work =
    record { set = set; index = index; counts = counts; job = job; input = input; output = output; work = work }

-- Answer, report and each lent byte are those of the rules.
pub record Exact (after : After) (r : Result Report Refusal) (o w : List ℕ) : Type 0 where
  pub answer : answer_of r ≡ after.answer
  pub output : o ≡ after.output
  pub work : w ≡ after.work

-- Demand 3, of an accepted call: one statement about the whole list of reads through the whole list of entries.
abbrev pub Ceiling : KmerSet → List Entry → List (List ℕ) → Result Report Refusal → Type 0
Ceiling set es reads (Ok r) = Demand3 set es reads r.turns r.lookups
Ceiling set es reads (Err r) = Unit
