-- What the call leaves on an empty page whose first bytes are its output.
use Rattle.std.specs.Prelude.{ℕ, ◌≤◌, ◌≡◌, List, [], ◌++◌, take, Result, Ok, Err}
use Rattle.rules.specs.Calls.{After}
use Rattle.rules_program.specs.Program.{refusal_line, counts_line, printed_for}
use Rattle.refusal.specs.Refusal.{refusal_of}
use Rattle.refusal.specs.declared.Refusal.{Refusal}
use Rattle.report.specs.declared.Report.{Report}
use Rattle.report.specs.Answer.{report_of}
use Rattle.page.specs.Page.{Page}

-- Accepted, its lines, behind which the counts are to be put; refused, nothing.
abbrev pub Answered : After → Result Report Refusal → List ℕ → Type 0
Answered after (Ok r) page =
    let lines : List ℕ = take r.written after.output in
    Page lines r.written page × (r.written ≤ 32768) × (printed_for after ≡ lines ++ counts_line (report_of r))
Answered after (Err x) page = Page [] 0 page × (printed_for after ≡ refusal_line (refusal_of x))
