use Rattle.program.proofs.Answer.{counts-fit, report-printed, refusal-fits, refusal-printed}
use Rattle.program.proofs.put_answer.Goals as goal

pub put_report-requires : goal.put_report-requires
put_report-requires c = counts-fit _ _ c.in-Ok.report c.in-Ok.ensures

pub put_refusal-requires : goal.put_refusal-requires
put_refusal-requires c = refusal-fits _ _ c.in-Err.refusal c.in-Err.ensures

pub returns-in-Ok : goal.returns-in-Ok
returns-in-Ok c = report-printed _ _ c.in-Ok.report c.in-Ok.ensures c.put_report.ensures

pub returns-in-Err : goal.returns-in-Err
returns-in-Err c = refusal-printed _ _ c.in-Err.refusal c.in-Err.ensures c.put_refusal.ensures
