use Prim.Native.Nat.{ℕ}
use mathlib.Core.Path.{subst}
use mathlib.Core.List.{List, []}
use borrow.Author.Rules.{rules}
use Rattle.rules_program.specs.Program.{Files}
use Rattle.page.specs.Page.{Page}
use Rattle.page.proofs.Text.{cleared-page}
use Rattle.program.specs.Given.{files_of}
use Rattle.program.proofs.Call.{not-taken, no-set, no-job, no-batch, odd-job, prints-answer}
use Rattle.program.proofs.printed.Goals.{After-fill, In-Some, In-Some-taken, In-Some-taken-2}
use Rattle.program.proofs.printed.Goals as goal

abbrev files : After-fill → Files
files c = files_of c.args.files

empty : (c : After-fill) → Page [] 0 c.fill.new.self
empty c = cleared-page c.args.page.now c.fill.new.self (search rules) (c.fill.ensures.after (λ y e. e))

pub returns-in_default : goal.returns-in_default
returns-in_default c =
    subst (λ (x : List ℕ). Page x c.put.result c.put.new.page)
    (no-set (files_of c.args.files) (not-taken c.taken.ensures c.in_default.is))
    (c.put.ensures.1 [] (empty (goal.at.returns-in_default c).After-fill))

pub returns-in_default-taken : goal.returns-in_default-taken
returns-in_default-taken c =
    subst (λ (x : List ℕ). Page x c.put-in_default-taken.result c.put-in_default-taken.new.page)
    (no-job (files_of c.args.files) _ c.in-Some.ensures (not-taken c.taken-2.ensures c.in_default-taken.is))
    (c.put-in_default-taken.ensures.1 [] (empty (goal.at.returns-in_default-taken c).After-fill))

pub returns-in_default-taken-2 : goal.returns-in_default-taken-2
returns-in_default-taken-2 c =
    subst (λ (x : List ℕ). Page x c.put-in_default-taken-2.result c.put-in_default-taken-2.new.page)
    (no-batch (files_of c.args.files) _ _ c.in-Some.ensures c.in-Some-taken.ensures (not-taken c.taken-3.ensures c.in_default-taken-2.is))
    (c.put-in_default-taken-2.ensures.1 [] (empty (goal.at.returns-in_default-taken-2 c).After-fill))

pub returns-then-job-ne0 : goal.returns-then-job-ne0
returns-then-job-ne0 c =
    subst (λ (x : List ℕ). Page x c.put-then-job-ne0.result c.put-then-job-ne0.new.page)
    (odd-job (files_of c.args.files) _ _ c.in-Some.ensures c.in-Some-taken.ensures _ c.in-Some-taken-2.ensures c.if-job-ne0.true)
    (c.put-then-job-ne0.ensures.1 [] (empty (goal.at.returns-then-job-ne0 c).After-fill))

pub put_answer-requires : goal.put_answer-requires
put_answer-requires c = empty (goal.at.put_answer-requires c).After-fill

pub returns : goal.returns
returns c =
    subst (λ (x : List ℕ). Page x c.put_answer.result c.put_answer.new.page)
    (prints-answer (files_of c.args.files) _ _ c.in-Some.ensures c.in-Some-taken.ensures _ c.in-Some-taken-2.ensures c.if-job-ne0.false)
    c.put_answer.ensures
