-- The rules' sheet of the code's.
use Rattle.rules_edits.specs.Edits as rules
use Rattle.edit_forms.specs.declared.Sheet.{Sheet}

abbrev pub sheet_of : Sheet → rules.Sheet
sheet_of s = rules.sheet s.read.now s.mended.now s.edits.now s.letters.now
