use mathlib.Core.Path.{◌≡◌, sym, ◌∙◌}
use Rattle.kmer_text.proofs.Laws.{part_slice, form-short, form-long, form-sized}
use mathlib.Core.Bool.{◌&&◌}
use lib.Dec.{eqb}
use Prim.Native.Nat.{◌+◌, ◌-◌}
use lib.ListN.{length, get_or, take}
use Rattle.rules_make.specs.MakeSet.{all, is_letter, is_digit, digits}
use Rattle.kmer_text.proofs.form_right.Goals.{Joined-all_letters, Joined-line-k-eq44, then-all_letters, else-all_letters, then-line-k-eq44, else-line-k-eq44, then-length-k-via-then-length-k, then-length-k-via-else-length-k+then-k-length}
use Rattle.kmer_text.proofs.form_right.Goals as goal

pub returns-then-length-k : goal.returns-then-length-k
returns-then-length-k c =
    elim c.then-length-k.branch [
      | then-length-k-via-then-length-k w ↦ sym (form-short _ _ w.if-length-k.true)
      | then-length-k-via-else-length-k+then-k-length w ↦ sym (form-long _ _ w.if-k-length.true)
    ]

-- The letters and the comma, and then the digits.
front : (c : Joined-all_letters) → let a = c.args in
    c.if-all_letters.value ≡ (all is_letter (take a.k a.line.now) && eqb (get_or a.line.now a.k 0) 44)
front c =
    elim c.if-all_letters.branch [
      | then-all_letters w ↦ let e = sym c.all_letters.ensures ∙ w.if-all_letters.true in rw e w.value-is
      | else-all_letters w ↦ let e = sym c.all_letters.ensures ∙ w.if-all_letters.false in rw e (w.value-is ∙ w.if-all_letters.false)
    ]

parts : (c : Joined-line-k-eq44) → let a = c.args in
    c.if-line-k-eq44.value ≡ (all is_letter (take a.k a.line.now) && eqb (get_or a.line.now a.k 0) 44 && all is_digit (digits a.k a.line.now))
unfolding digits
parts c =
    let f = front (goal.at.Joined-line-k-eq44 c).Joined-all_letters in
    let slice = part_slice (c.args.k + 1) (length c.args.line.now - 1) c.args.line.now in
    elim c.if-line-k-eq44.branch [
      | then-line-k-eq44 w ↦ let e = sym f ∙ w.if-line-k-eq44.true in rw (e, ← slice) (w.value-is ∙ w.all_digits.ensures)
      | else-line-k-eq44 w ↦ let e = sym f ∙ w.if-line-k-eq44.false in rw e (w.value-is ∙ w.if-line-k-eq44.false)
    ]

pub returns-then-all_digits : goal.returns-then-all_digits
returns-then-all_digits c =
    let p = parts (goal.at.returns-then-all_digits c).Joined-line-k-eq44 in
    sym (form-sized _ _ c.if-length-k.false c.if-k-length.false ∙ rw (sym p ∙ c.if-all_digits.true))

pub returns-else-all_digits : goal.returns-else-all_digits
returns-else-all_digits c =
    let p = parts (goal.at.returns-else-all_digits c).Joined-line-k-eq44 in
    c.if-all_digits.false ∙ sym (form-sized _ _ c.if-length-k.false c.if-k-length.false ∙ rw (sym p ∙ c.if-all_digits.false))
