use Rattle.std.proofs.Common.{◌≡◌, refl, sym, ap, ◌∙◌, ℕ, true, Ok, Err, arith, rules}
use native.Mathlib.Nat.{sub-zero}
use Rattle.rules.specs.Refusal.{first_failing}
use Rattle.rules_edits.specs.Edits.{formed, letters_to}
use Rattle.rules_laws.proofs.First.{passed, failed, ended}
use Rattle.edit_forms.specs.Sheet.{sheet_of}
use Rattle.edit_forms.proofs.Forms.{count_is, numbers-fit, letters-more, letters-fit, any-mended}
use Rattle.edit_forms.proofs.judge_forms.Goals.{Else-not-is_formed}
use Rattle.edit_forms.proofs.judge_forms.Goals as goal

pub loop-i-init : goal.loop-i-init
unfolding letters_to
loop-i-init c = (search rules, search rules, count_is _ _ c.div_ceil-n.ensures, refl, rw (sub-zero _))

-- An edit that is formed.
formed-there : (c : Else-not-is_formed) → formed c.args.k (sheet_of c.args.sheet.now) c.loop-i.i ≡ true
formed-there c = sym c.if-not-is_formed.ensures

pub is_formed-requires : goal.is_formed-requires
is_formed-requires c = (omega (arith, c.div_ceil-n.ensures, c.loop-i-test.true), c.loop-i.invariant.3, search rules)

pub returns-then-not-is_formed : goal.returns-then-not-is_formed
returns-then-not-is_formed c mended =
    let l = c.loop-i in
    let s = sheet_of c.args.sheet.now in
    let f = formed c.args.k s in
    any-mended s mended c.args.k (Err l.i)
    (ap (λ (n : ℕ). first_failing f 0 n) l.invariant.2 ∙ l.invariant.4 ∙ failed f l.i _ (search rules) (sym c.if-not-is_formed.ensures))

pub edit_at-requires : goal.edit_at-requires
edit_at-requires c = numbers-fit _ _ _ (formed-there (goal.at.edit_at-requires c).Else-not-is_formed)

pub overflow_add-given : goal.overflow_add-given
overflow_add-given c =
    omega (arith, letters-fit _ _ _ (formed-there (goal.at.overflow_add-given c).Else-not-is_formed) _ c.edit_at.ensures, c.loop-i.invariant.3)

pub loop-i-preserved : goal.loop-i-preserved
loop-i-preserved c =
    let l = c.loop-i in
    let f = formed-there (goal.at.loop-i-preserved c).Else-not-is_formed in (
      search rules,
      omega (arith, letters-fit _ _ _ f _ c.edit_at.ensures, l.invariant.3),
      l.invariant.2,
      omega (arith, letters-more _ _ _ f _ c.edit_at.ensures, l.invariant.3),
      l.invariant.4 ∙ passed _ l.i _ (search rules) f,
    )

pub returns : goal.returns
returns c mended =
    let l = c.loop-i in
    let e : l.i ≡ c.div_ceil-n.result = search rules in
    any-mended (sheet_of c.args.sheet.now) mended c.args.k (Ok (record { edits = c.div_ceil-n.result; letters = l.given }))
    (l.invariant.2, l.invariant.4 ∙ ended _ l.i _ (search rules), l.invariant.3 ∙ ap (letters_to _) e)
