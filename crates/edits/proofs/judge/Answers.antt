use Rattle.std.proofs.Common.{sym, ◌∙◌, Ok}
use mathlib.Core.Path.{subst}
use Rattle.std.proofs.lemmas.Result.{err_from_is_err_and}
use Rattle.rules.specs.Set.{solid, set_of}
use Rattle.edit_forms.specs.Sheet.{sheet_of}
use Rattle.edit_forms.specs.Formed.{FormedIs}
use Rattle.edit_walk.specs.Walk.{walk, StepIs}
use Rattle.edits.proofs.Judging.{judge-first, walk-offends, walk-differs, walk-joins, was_ok, was_err}
use Rattle.edits.proofs.judge.Goals.{In_ok-formed, In_ok-walk}
use Rattle.edits.proofs.judge.Goals as goal

pub returns-in_err-formed : goal.returns-in_err-formed
returns-in_err-formed c =
    let a = c.args in
    let s = sheet_of a.sheet.now in
    let p = err_from_is_err_and c.from_residual.result c.from_residual.ensures.1 in
    let q = was_err c.judge_forms.result c.in_err-formed.field-0.0 c.in_err-formed.ensures.variant c.in_err-formed.ensures.cases in
    rw (p.1, p.2, q.2)
    (sym (judge-first a.set.now.head.k (solid (set_of a.set.now.bytes.now)) s
    (subst (FormedIs a.set.now.head.k s) q.1 (c.judge_forms.ensures a.sheet.now.mended.now))))

-- So many edits, all formed, which give so many letters.
all-formed : (c : In_ok-formed) → let a = c.args in
    FormedIs a.set.now.head.k (sheet_of a.sheet.now) (Ok c.in_ok-formed.formed)
all-formed c =
    let a = c.args in
    subst (FormedIs a.set.now.head.k (sheet_of a.sheet.now))
    (was_ok c.judge_forms.result c.in_ok-formed.formed c.in_ok-formed.ensures.variant c.in_ok-formed.ensures.cases)
    (c.judge_forms.ensures a.sheet.now.mended.now)

pub over_edits-walked-requires : goal.over_edits-walked-requires
over_edits-walked-requires c = let f = all-formed c in (f.0, f.1)

pub returns-in_err-walk : goal.returns-in_err-walk
returns-in_err-walk c =
    let f = all-formed (goal.at.returns-in_err-walk c).In_ok-formed in
    let a = c.args in
    let s = sheet_of a.sheet.now in
    let sol = solid (set_of a.set.now.bytes.now) in
    let p = err_from_is_err_and c.from_residual-in_err-walk.result c.from_residual-in_err-walk.ensures.1 in
    let q = was_err c.over_edits-walked.result c.in_err-walk.field-0.0 c.in_err-walk.ensures.variant c.in_err-walk.ensures.cases in
    let e = subst (StepIs a.set.now.head.k (walk a.set.now.head.k sol s)) q.1 c.over_edits-walked.ensures in
    rw (p.1, p.2, q.2) (sym (walk-offends a.set.now.head.k sol s _ _ f.0 f.1 f.2 e))

-- The walk went on to the end.
went : (c : In_ok-walk) → let a = c.args in
    let s = sheet_of a.sheet.now in
    StepIs a.set.now.head.k (walk a.set.now.head.k (solid (set_of a.set.now.bytes.now)) s) (Ok c.in_ok-walk.walk)
went c =
    let a = c.args in
    let s = sheet_of a.sheet.now in
    subst (StepIs a.set.now.head.k (walk a.set.now.head.k (solid (set_of a.set.now.bytes.now)) s))
    (was_ok c.over_edits-walked.result c.in_ok-walk.walk c.in_ok-walk.ensures.variant c.in_ok-walk.ensures.cases) c.over_edits-walked.ensures

pub returns-then-not-joins : goal.returns-then-not-joins
returns-then-not-joins c =
    let f = all-formed (goal.at.returns-then-not-joins c).In_ok-formed in
    let w = went (goal.at.returns-then-not-joins c).In_ok-walk in
    let a = c.args in
    let s = sheet_of a.sheet.now in
    sym (walk-differs a.set.now.head.k (solid (set_of a.set.now.bytes.now)) s _ _ f.0 f.1 f.2 _ w.0
    (sym c.joins.ensures ∙ c.if-not-joins.true))

pub returns : goal.returns
returns c =
    let f = all-formed (goal.at.returns c).In_ok-formed in
    let w = went (goal.at.returns c).In_ok-walk in
    let a = c.args in
    let s = sheet_of a.sheet.now in
    sym (walk-joins a.set.now.head.k (solid (set_of a.set.now.bytes.now)) s _ _ f.0 f.1 f.2 _ w.0
    (sym c.joins.ensures ∙ c.if-not-joins.false))
