use Rattle.std.proofs.Common.{refl, sym, ap, ap₂, ◌∙◌, ℕ, List, None, arith, rules}
use Rattle.std.proofs.lemmas.Result.{err_from_is_err_and}
use Rattle.rules.specs.Set.{solid, set_of}
use Rattle.rules_edits.specs.Edits.{kept_from, letters_to, kept, letters_of}
use Rattle.edit_forms.specs.Sheet.{sheet_of}
use Rattle.edit_walk.specs.Walk.{StepIs, stand_of, pass_over, over_edit, begins}
use Rattle.edit_walk.proofs.Steps.{same_step}
use Rattle.edit_walk.proofs.Pieces.{Piece, all-formed, piece, kept-is, letters-are, from_next, letters-next, rest-is, walk-on, walk_end, walk-starts, walk-stops}
use Rattle.edit_walk.proofs.over_edits.Goals.{After-edit_at-edit, After-over_edit}
use Rattle.edit_walk.proofs.over_edits.Goals as goal

pub loop-i-init : goal.loop-i-init
unfolding kept_from letters_to begins
loop-i-init c =
    let a = c.args in
    let y = c.all_a.ensures in (
      search rules,
      search rules,
      refl,
      refl,
      y.kmer,
      walk-starts a.set.now.head.k (solid (set_of a.set.now.bytes.now)) (sheet_of a.sheet.now) a.n _ c.requires.0 (rw y.is),
    )

pub edit_at-edit-requires : goal.edit_at-edit-requires
edit_at-edit-requires c = (all-formed _ _ _ c.requires.1 c.loop-i.i c.loop-i-test.true).numbers

-- Edit i's parts lie in their lists.
there : (c : After-edit_at-edit) → let a = c.args in
    Piece (sheet_of a.sheet.now) c.loop-i.from c.loop-i.given c.edit_at-edit.result
there c =
    let l = c.loop-i in
    piece _ _ _ c.requires.1 l.i l.from l.given l.invariant.2 l.invariant.3 _ c.edit_at-edit.ensures c.loop-i-test.true

pub overflow_add-end : goal.overflow_add-end
overflow_add-end c = let p = there c in omega (arith, p.in_letters)

pub slice_bounds-kept-count : goal.slice_bounds-kept-count
slice_bounds-kept-count c = (there (goal.at.slice_bounds-kept-count c).After-edit_at-edit).from_le

pub slice_bounds-kept-start : goal.slice_bounds-kept-start
slice_bounds-kept-start c = (there (goal.at.slice_bounds-kept-start c).After-edit_at-edit).from_le

pub slice_bounds-kept-end : goal.slice_bounds-kept-end
slice_bounds-kept-end c = let p = there (goal.at.slice_bounds-kept-end c).After-edit_at-edit in omega (arith, p.in_read)

pub slice_bounds-over_edit-end : goal.slice_bounds-over_edit-end
slice_bounds-over_edit-end c = (there (goal.at.slice_bounds-over_edit-end c).After-edit_at-edit).in_letters

pub overflow_add-from : goal.overflow_add-from
overflow_add-from c = let p = there (goal.at.overflow_add-from c).After-edit_at-edit in omega (arith, p.in_read)

-- The step over edit i.
stepped-over : (c : After-over_edit) → let l = c.loop-i in
    let a = c.args in
    let s = sheet_of a.sheet.now in
    StepIs a.set.now.head.k
    (over_edit a.set.now.head.k (solid (set_of a.set.now.bytes.now)) l.i (kept s l.i) (letters_of s l.i) (stand_of l.walk))
    c.over_edit.result
stepped-over c =
    let l = c.loop-i in
    let a = c.args in
    let e = kept-is _ _ _ c.requires.1 l.i l.from l.given l.invariant.2 l.invariant.3 _ c.edit_at-edit.ensures in
    let f = letters-are _ _ _ c.requires.1 l.i l.from l.given l.invariant.2 l.invariant.3 _ c.edit_at-edit.ensures in
    same_step a.set.now.head.k c.over_edit.result
    (ap₂ (λ (x y : List ℕ). over_edit a.set.now.head.k (solid (set_of a.set.now.bytes.now)) l.i x y (stand_of l.walk)) e f)
    c.over_edit.ensures

pub returns-in_err-walk : goal.returns-in_err-walk
returns-in_err-walk c =
    let l = c.loop-i in
    let p = err_from_is_err_and c.from_residual.result c.from_residual.ensures.1 in
    let s = stepped-over (goal.at.returns-in_err-walk c).After-over_edit in
    rw (p.1, p.2) (l.invariant.5 ∙ walk-stops _ _ _ _ l.i _ (search rules) (rw c.in_err-walk.was at s))

pub loop-i-preserved : goal.loop-i-preserved
loop-i-preserved c =
    let l = c.loop-i in
    let q = there (goal.at.loop-i-preserved c).After-edit_at-edit in
    let s = stepped-over (goal.at.loop-i-preserved c).After-over_edit in
    let w = rw c.in_ok-walk.was at s in (
      search rules,
      omega (arith, q.in_read),
      from_next _ _ _ c.requires.1 l.i l.from l.given l.invariant.2 l.invariant.3 _ c.edit_at-edit.ensures,
      letters-next _ _ _ c.requires.1 l.i l.from l.given l.invariant.2 l.invariant.3 _ c.edit_at-edit.ensures,
      w.1,
      l.invariant.5 ∙ walk-on _ _ _ _ l.i _ (search rules) w.0,
    )

pub returns : goal.returns
returns c =
    let l = c.loop-i in
    let a = c.args in
    let g = rest-is _ _ _ c.requires.1 l.i l.from l.given l.invariant.2 l.invariant.3 c.requires.0 (search rules) in
    same_step a.set.now.head.k c.pass_over.result
    (l.invariant.5
    ∙ walk_end _ _ _ _ l.i _ (search rules)
    ∙ ap (λ (x : List ℕ). pass_over a.set.now.head.k (solid (set_of a.set.now.bytes.now)) None x (stand_of l.walk)) (sym g))
    c.pass_over.ensures
