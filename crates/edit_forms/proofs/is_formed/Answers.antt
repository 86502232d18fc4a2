use Rattle.std.proofs.Common.{arith, rules}
use borrow.Author.Tests.{lt-leb}
use mathlib.Core.Path.{◌∙◌}
use Rattle.edit_forms.specs.Sheet.{sheet_of}
use Rattle.edit_forms.proofs.Forms.{few-numbers, not-formed, formed-by}
use Rattle.edit_forms.proofs.is_formed.Goals.{then-edit-k-via-then-edit-k, then-edit-k-via-else-edit-k+then-length-edit, then-edit-k-via-else-edit-k+else-length-edit+then-length-edit-2}
use Rattle.edit_forms.proofs.is_formed.Goals as goal

pub returns-then-sheet-i-lt3 : goal.returns-then-sheet-i-lt3
returns-then-sheet-i-lt3 c =
    let a = c.args in
    few-numbers a.k (sheet_of a.sheet.now) a.i a.given c.requires.1 (search rules)

pub returns-then-edit-k : goal.returns-then-edit-k
returns-then-edit-k c =
    let a = c.args in
    not-formed a.k (sheet_of a.sheet.now) a.i a.given c.requires.1 _ c.edit_at-edit.ensures (λ f. elim c.then-edit-k.branch [
      | then-edit-k-via-then-edit-k w ↦ omega (arith, f.low, w.if-edit-k.true)
      | then-edit-k-via-else-edit-k+then-length-edit w ↦ omega (arith, f.high, w.if-length-edit.true)
      | then-edit-k-via-else-edit-k+else-length-edit+then-length-edit-2 w ↦ omega (arith, f.high, w.if-length-edit-2.true)
    ])

pub returns-then-edit-sheet : goal.returns-then-edit-sheet
returns-then-edit-sheet c =
    let a = c.args in
    formed-by a.k (sheet_of a.sheet.now) a.i a.given c.requires.1 _ c.edit_at-edit.ensures (search rules)
    (record { low = search rules; high = omega (arith, c.if-length-edit.false, c.if-length-edit-2.false); letters = omega (arith, c.requires.2, c.if-edit-sheet.true) })
    c.is_behind.ensures

pub returns-else-edit-sheet : goal.returns-else-edit-sheet
returns-else-edit-sheet c =
    let a = c.args in
    lt-leb _ _ c.if-edit-sheet.false
    ∙ not-formed a.k (sheet_of a.sheet.now) a.i a.given c.requires.1 _ c.edit_at-edit.ensures
    (λ f. omega (arith, f.letters, c.requires.2, c.if-edit-sheet.false))
