use Rattle.std.proofs.Common.{rules}
use Rattle.edit_forms.specs.Sheet.{sheet_of}
use Rattle.edit_forms.proofs.Forms.{behind-first, behind-no, behind-by}
use Rattle.edit_forms.proofs.is_behind.Goals as goal

pub returns-then-i-eq0 : goal.returns-then-i-eq0
returns-then-i-eq0 c = behind-first (sheet_of c.args.sheet.now) c.args.i c.if-i-eq0.true

pub returns-then-last-edit : goal.returns-then-last-edit
returns-then-last-edit c =
    behind-by (sheet_of c.args.sheet.now) c.args.i _ _ (search rules) c.edit_at-last.ensures c.edit_at-edit.ensures c.if-last-edit.true

pub returns-else-last-edit : goal.returns-else-last-edit
returns-else-last-edit c =
    behind-no (sheet_of c.args.sheet.now) c.args.i _ _ (search rules) c.edit_at-last.ensures c.edit_at-edit.ensures c.if-last-edit.false
