-- The pieces of the read with all edits made in the code's terms.
use Prim.Native.Nat.{ℕ, zero, suc, ◌+◌, ◌-◌, ◌≤◌, ◌<◌}
use native.Mathlib.Omega.{arith}
use native.Mathlib.Nat.{sub-zero}
use native.Mathlib.Numerals.{add-one}
use mathlib.Core.Path.{◌≡◌, sym, ap, ap₂, ◌∙◌}
use mathlib.Core.Bool.{Bool}
use mathlib.Core.Option.{none}
use lib.ListN.{length, take, drop, length-drop}
use lib.Seq.{take_all}
use Rattle.std.specs.Prelude.{None}
use Rattle.rules.specs.Refusal.{first_failing}
use Rattle.rules_edits.specs.Edits.{Sheet, count, position, taken, given, end_of, letters_to, kept_from, kept, letters_of, rest, formed}
use Rattle.rules_laws.proofs.Keys.{none-fails}
use Rattle.rules_edits.proofs.Edits.{Formed, formed-facts, behind-facts}
use Rattle.edit_forms.specs.declared.Edit.{Edit}
use Rattle.edit_forms.specs.Formed.{EditIs}
use Rattle.edit_walk.specs.Walk.{Stand, on, offends, and_then, pass_over, over_edit, walk_from, begins, walk}

-- An edit with the bases and the letters before it: all parts lie in their lists.
pub record Piece (s : Sheet) (from before : ℕ) (e : Edit) : Type 0 where
  pub from_le : from ≤ e.position
  pub in_read : e.position + e.taken < length s.read
  pub in_letters : before + e.gives ≤ length s.letters

from-formed : (k : ℕ) (s : Sheet) (i : ℕ) → Formed k s i → kept_from s i ≤ position s i
unfolding kept_from
from-formed k s zero f = omega arith
from-formed k s (suc i) f = (behind-facts s i f.behind_last).1

pub all-formed : (k : ℕ) (s : Sheet) (n : ℕ) → first_failing (formed k s) 0 n ≡ none → (i : ℕ) → i < n → Formed k s i
all-formed k s n all i lt = formed-facts k s i (none-fails (formed k s) 0 n all i (omega arith) (omega arith))

module _ (k : ℕ) (s : Sheet) (n : ℕ) (all : first_failing (formed k s) 0 n ≡ none) (i from before : ℕ) (f : from ≡ kept_from s i) (g : before ≡ letters_to s i) where
  pub rest-is : count s ≡ n → i ≡ n → take (length s.read - from) (drop from s.read) ≡ rest s
  unfolding rest
  rest-is c e =
      take_all (length s.read - from) (drop from s.read) (simp length-drop (omega arith))
      ∙ ap (λ (m : ℕ). drop m s.read) (f ∙ ap (kept_from s) (e ∙ sym c))

  module _ (e : Edit) (is : EditIs s.numbers i e) where
    pub piece : i < n → Piece s from before e
    unfolding position taken end_of given letters_to
    piece lt =
        let h = all-formed k s n all i lt in
        let l = from-formed k s i h in
        record {
          from_le = omega (arith, l, f, is.position);
          in_read = omega (arith, h.high, is.position, is.taken);
          in_letters = omega (arith, h.letters, g, is.gives);
        }

    pub kept-is : kept s i ≡ take (e.position - from) (drop from s.read)
    unfolding kept position
    kept-is = rw (f, is.position)

    pub letters-are : letters_of s i ≡ take (before + e.gives - before) (drop before s.letters)
    unfolding letters_of given
    letters-are =
        let m : before + e.gives - before ≡ e.gives = omega arith in
        rw (m, g, is.gives)

    pub from_next : e.position + e.taken ≡ kept_from s (i + 1)
    unfolding kept_from end_of position taken
    from_next = ap₂ (λ (x y : ℕ). x + y) is.position is.taken ∙ sym (ap (kept_from s) (add-one i))

    pub letters-next : before + e.gives ≡ letters_to s (i + 1)
    unfolding letters_to given
    letters-next = rw (g, is.gives, add-one, letters_to)

module _ (k : ℕ) (sol : ℕ → Bool) (n : ℕ) (s : Sheet) (i : ℕ) (w : Stand) where
  at-edit : i < n → walk_from k sol s (n - i) i w ≡ and_then (over_edit k sol i (kept s i) (letters_of s i) w) (walk_from k sol s (n - (i + 1)) (i + 1))
  unfolding walk_from
  at-edit h =
      let e : n - i ≡ suc (n - (i + 1)) = omega arith in
      ap (λ (m : ℕ). walk_from k sol s m i w) e ∙ rw add-one

  pub walk-on : {v : Stand} → i < n → over_edit k sol i (kept s i) (letters_of s i) w ≡ on v
      → walk_from k sol s (n - i) i w ≡ walk_from k sol s (n - (i + 1)) (i + 1) v
  unfolding and_then
  walk-on h e = at-edit h ∙ rw e

  pub walk-stops : {j : ℕ} → i < n → over_edit k sol i (kept s i) (letters_of s i) w ≡ offends j → walk_from k sol s (n - i) i w ≡ offends j
  unfolding and_then
  walk-stops h e = at-edit h ∙ rw e

  pub walk_end : n ≤ i → walk_from k sol s (n - i) i w ≡ pass_over k sol None (rest s) w
  unfolding walk_from
  walk_end h = let e : n - i ≡ 0 = omega arith in rw e

pub walk-starts : (k : ℕ) (sol : ℕ → Bool) (s : Sheet) (n : ℕ) (w : Stand) → count s ≡ n → w ≡ begins k s.mended
    → walk k sol s ≡ walk_from k sol s (n - 0) 0 w
unfolding walk
walk-starts k sol s n w c e = rw (c, e, sub-zero n)
