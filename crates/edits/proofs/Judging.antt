-- The three judgements in the code's terms.
use Prim.Native.Nat.{ℕ, ◌≤◌, ◌<◌}
use native.Mathlib.Omega.{arith}
use denote.Ref.{Bor}
use mathlib.Core.Path.{◌≡◌, refl, sym, ap, ap₂, ◌∙◌, subst}
use mathlib.Core.Bool.{Bool, true, false, ◌&&◌, true≢false}
use Rattle.std.specs.Prelude.{Result, Ok, Err, Option as Asking, Some}
use Rattle.std.proofs.lemmas.List.{nil_from_length}
use Rattle.std.specs.Result.{is_ok, MatchResult, IsErrAnd}
use mathlib.Core.Option.{Option, none, some}
use mathlib.Core.List.{List, [], ◌∷◌}
use lib.ListN.{length}
use lib.Dec.{eqb}
use Rattle.rules.specs.Refusal.{◌or_else◌, at_place, first_failing}
use Rattle.rules.specs.Index.{same_bytes}
use Rattle.rules_edits.specs.Edits.{Sheet, count, letters_to, formed, supported, made, joins, differs, judge}
use Rattle.refusal.specs.declared.Refusal.{Refusal}
use Rattle.refusal.specs.declared.Refusal.TheVariants.{Edit}
use Rattle.refusal.specs.Refusal.{refusal_of}
use Rattle.edit_walk.specs.Walk.{Stand, Walked, on, offends, next, walk, left_of}
use Rattle.edits.specs.Joins.{is_done}
use Rattle.edit_walk.proofs.Pieces.{all-formed}
use Rattle.edit_walk.proofs.Whole.{after_all, Goes, whole-goes, all_paid}

-- ---- the judgements in order

at_first : (a b c : Option ℕ) {i : ℕ} → a ≡ some i → at_place 19 a or_else at_place 19 b or_else at_place 19 c ≡ some (refusal_of (Edit i))
unfolding ◌or_else◌ at_place
at_first a b c e = rw e

at_second : (a b c : Option ℕ) {i : ℕ} → a ≡ none → b ≡ some i → at_place 19 a or_else at_place 19 b or_else at_place 19 c ≡ some (refusal_of (Edit i))
unfolding ◌or_else◌ at_place
at_second a b c e f = rw (e, f)

at-third : (a b c : Option ℕ) → a ≡ none → b ≡ none → at_place 19 a or_else at_place 19 b or_else at_place 19 c ≡ at_place 19 c
unfolding ◌or_else◌ at_place
at-third a b c e f = rw (e, f)

module _ (k : ℕ) (sol : ℕ → Bool) (s : Sheet) where
  pub judge-first : {i : ℕ} → first_failing (formed k s) 0 (count s) ≡ some i → judge k sol s ≡ some (refusal_of (Edit i))
  unfolding judge
  judge-first e = at_first (first_failing (formed k s) 0 (count s)) (first_failing (supported k sol s) 0 (count s)) (differs s) e

  module _ (e : first_failing (formed k s) 0 (count s) ≡ none) where
    judge-second : {i : ℕ} → first_failing (supported k sol s) 0 (count s) ≡ some i → judge k sol s ≡ some (refusal_of (Edit i))
    unfolding judge
    judge-second f = at_second (first_failing (formed k s) 0 (count s)) (first_failing (supported k sol s) 0 (count s)) (differs s) e f

    module _ (f : first_failing (supported k sol s) 0 (count s) ≡ none) where
      third : judge k sol s ≡ at_place 19 (differs s)
      unfolding judge
      third = at-third (first_failing (formed k s) 0 (count s)) (first_failing (supported k sol s) 0 (count s)) (differs s) e f

      judge-third : joins s ≡ false → judge k sol s ≡ some (refusal_of (Edit (count s)))
      unfolding differs at_place
      judge-third g = third ∙ rw (g, differs)

      judge-none : joins s ≡ true → judge k sol s ≡ none
      unfolding differs at_place
      judge-none g = third ∙ rw (g, differs)

-- ---- the joining

-- what is left of the partner's read in the code's terms
module _ (left : Asking (Bor (List ℕ))) (rest : Bor (List ℕ)) (e : left ≡ Some rest) where
  pub done_of : length rest.now < 1 → is_done (left_of left) ≡ true
  unfolding is_done
  done_of h = rw (e, nil_from_length rest.now (omega arith)) refl

  pub some_left : 1 ≤ length rest.now → is_done (left_of left) ≡ false
  unfolding is_done
  some_left h = rw e (go rest.now h)
    where
      go : (l : List ℕ) → 1 ≤ length l → is_done (some l) ≡ false
      go [] g = absurd (omega arith)
      go (b ∷ l) g = refl

after_none : (xs : List ℕ) → after_all xs none ≡ none
unfolding after_all next
after_none [] = refl
after_none (x ∷ xs) = after_none xs

same_after : (xs ys : List ℕ) → same_bytes xs ys ≡ is_done (after_all xs (some ys))
unfolding same_bytes after_all is_done next
same_after [] [] = refl
same_after [] (y ∷ ys) = refl
same_after (x ∷ xs) [] = sym (ap is_done (after_none xs))
same_after (x ∷ xs) (y ∷ ys) = go (same_after xs ys) (eqb x y) refl
  where
    go : same_bytes xs ys ≡ is_done (after_all xs (some ys)) → (t : Bool) → eqb x y ≡ t
        → same_bytes (x ∷ xs) (y ∷ ys) ≡ is_done (after_all (x ∷ xs) (some (y ∷ ys)))
    go r true e = rw (e, next) r
    go r false e = rw (e, next) (sym (ap is_done (after_none xs)))

-- ---- the walk of a sheet whose n edits are all formed, and give so many letters

module _ (k : ℕ) (sol : ℕ → Bool) (s : Sheet) (n total : ℕ) (n_is : count s ≡ n) (all : first_failing (formed k s) 0 n ≡ none)
    (letters : total ≡ letters_to s n) where
  formed-all : first_failing (formed k s) 0 (count s) ≡ none
  formed-all = rw n_is all

  goes : {r : Walked} → walk k sol s ≡ r → Goes k sol s (count s) (made s) r
  goes q = subst (Goes k sol s (count s) (made s)) q (whole-goes k sol s (all-formed k s (count s) formed-all))

  pub walk-offends : {i : ℕ} → walk k sol s ≡ offends i → judge k sol s ≡ some (refusal_of (Edit i))
  walk-offends q = judge-second k sol s formed-all (goes q)

  module _ (w : Stand) (q : walk k sol s ≡ on w) where
    paid : first_failing (supported k sol s) 0 (count s) ≡ none
    paid = all_paid k sol s (all-formed k s (count s) formed-all) w (goes q)

    joins-is : (is_done w.left && eqb total (length s.letters)) ≡ joins s
    unfolding joins
    joins-is =
        ap₂ (λ (b : Bool) (m : ℕ). b && eqb m (length s.letters))
        (ap is_done (goes q).left_is ∙ sym (same_after (made s) s.mended))
        (letters ∙ ap (letters_to s) (sym n_is))

    pub walk-differs : (is_done w.left && eqb total (length s.letters)) ≡ false → judge k sol s ≡ some (refusal_of (Edit n))
    walk-differs e = judge-third k sol s formed-all paid (sym joins-is ∙ e) ∙ ap (λ (m : ℕ). some (refusal_of (Edit m))) n_is

    pub walk-joins : (is_done w.left && eqb total (length s.letters)) ≡ true → judge k sol s ≡ none
    walk-joins e = judge-none k sol s formed-all paid (sym joins-is ∙ e)

-- ---- an edit that offends, told as a refusal

pub was_ok : {A : Type 0} (r : Result A ℕ) (x : A) → true ≡ is_ok r
    → MatchResult r (λ z. ◌≡◌ {A = Result A Refusal} (Ok x) (Ok z)) (λ e. IsErrAnd {T = A} {E = Refusal} (Ok x) (λ z. z ≡ Edit e)) → r ≡ Ok x
was_ok (Ok z) x h m = let e : z ≡ x = cc in ap Ok e
was_ok (Err e) x h m = absurd (true≢false h)

pub was_err : {A : Type 0} (r : Result A ℕ) (y : Refusal) → false ≡ is_ok r
    → MatchResult r (λ z. ◌≡◌ {A = Result A Refusal} (Err y) (Ok z)) (λ e. IsErrAnd {T = A} (Err y) (λ z. z ≡ Edit e))
    → (e : ℕ) × (r ≡ Err e) × (y ≡ Edit e)
was_err (Ok x) y h m = absurd (true≢false (sym h))
was_err (Err e) y h m = (e, refl, m)
