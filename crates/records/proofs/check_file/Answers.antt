use native.Mathlib.Omega.{arith}
use mathlib.Core.Path.{◌≡◌}
use mathlib.Core.Bool.{true}
use Rattle.std.proofs.lemmas.Grind.{common_steps}
use Rattle.rules_fasta.specs.Fasta.{file_right}
use Rattle.records.proofs.Laws.{no-file, no_end, many-records, few-records, seen-records, seen-right, seen-wrong, told-6, told-18, told_none}
use Rattle.records.proofs.check_file.Goals.{Else-seen-gt-MAX_RECORDS}
use Rattle.records.proofs.check_file.Goals as goal

pub returns-then-is_empty : goal.returns-then-is_empty
returns-then-is_empty c = no-file _ (grind (arith, common_steps))

pub returns-then-file-ne10 : goal.returns-then-file-ne10
returns-then-file-ne10 c = told-6 _ (no_end _ (grind (arith, common_steps)) c.if-file-ne10.true)

pub returns-then-seen-gt-MAX_RECORDS : goal.returns-then-seen-gt-MAX_RECORDS
returns-then-seen-gt-MAX_RECORDS c =
    told-6 _ (many-records _ (grind (arith, common_steps)) c.if-file-ne10.false (omega (arith, seen-records _ _ c.see_all-seen.ensures, c.if-seen-gt-MAX_RECORDS.true)))

-- 6 lets pass.
six : (c : Else-seen-gt-MAX_RECORDS) → file_right c.args.file.now ≡ true
six c =
    few-records _ (grind (arith, common_steps)) c.if-file-ne10.false (omega (arith, seen-records _ _ c.see_all-seen.ensures, c.if-seen-gt-MAX_RECORDS.false))

pub returns-in-Ok : goal.returns-in-Ok
returns-in-Ok c = told_none _ (six (goal.at.returns-in-Ok c).Else-seen-gt-MAX_RECORDS) (seen-right _ _ c.see_all-seen.ensures _ c.in-Ok.is)

pub returns-in-Err : goal.returns-in-Err
returns-in-Err c = told-18 _ (six (goal.at.returns-in-Err c).Else-seen-gt-MAX_RECORDS) _ (seen-wrong _ _ c.see_all-seen.ensures _ c.in-Err.is)
