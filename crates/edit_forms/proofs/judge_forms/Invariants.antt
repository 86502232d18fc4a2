use Prim.Native.Nat.{◌-◌, ◌≤◌}
use mathlib.Core.Path.{◌≡◌}
use lib.ListN.{length}
use Rattle.rules.specs.Refusal.{first_failing}
use Rattle.rules_edits.specs.Edits.{count, formed, letters_to}
use Rattle.edit_forms.specs.Sheet.{sheet_of}
use Rattle.edit_forms.proofs.judge_forms.Given as goal

abbrev pub invariant-loop-i : goal.invariant-loop-i
invariant-loop-i l =
    (l.i ≤ l.n)
    × (l.given ≤ length l.sheet.letters.now)
    × (count (sheet_of l.sheet) ≡ l.n)
    × (l.given ≡ letters_to (sheet_of l.sheet) l.i)
    × (first_failing (formed l.k (sheet_of l.sheet)) 0 l.n ≡ first_failing (formed l.k (sheet_of l.sheet)) l.i (l.n - l.i))
