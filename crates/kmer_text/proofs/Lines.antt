-- A text cut behind each byte 10, as std's `split_inclusive` cuts it, is cut into its lines.
use Prim.Native.Nat.{ℕ, zero, suc, ◌+◌, ◌≤◌, ◌<◌, min}
use native.Mathlib.Omega.{arith}
use native.Mathlib.Nat.{zero-add}
use native.Mathlib.Numerals.{add-one}
use mathlib.Core.Path.{◌≡◌, refl, sym, ap, subst, ◌∙◌}
use mathlib.Core.Bool.{Bool, true, false}
use mathlib.Core.Logic.{⊎_elim}
use mathlib.Core.List.{List, [], ◌∷◌, ◌++◌}
use lib.Dec.{eqb}
use lib.ListN.{length, get_or, take, drop, drop_of_length-le}
use lib.Seq.{drop-cons, take_all, take-append_seam, drop-append_seam}
use denote.Ref.{Bor}
use denote.Param.Members.{Mut}
use Rattle.std.specs.Prelude.{Option, MatchOption}
use Rattle.std.specs.Fn.{CalledAt, ComputesKey}
use Rattle.std.specs.List.{IsFirstMatchOrLen, enumerate_from}
use Rattle.std.specs.Slice.Iter.{split_inclusive_rest, split_inclusive_callee}
use Rattle.std.proofs.lemmas.Bool.{cases_lt}
use Rattle.std.proofs.lemmas.List.{nil_from_length}
use Rattle.std.proofs.lemmas.List.FromFn.{length-enumerate_from, get_or-enumerate_from}
use Rattle.std.proofs.lemmas.Fn.{always_returns_same}
use Rattle.std.proofs.lemmas.Iterator.{YieldsList}
use Rattle.std.proofs.lemmas.Iterator.Splits.{YieldsList-from_shown_while}
use Rattle.rules_make.specs.MakeSet.{in_front, text_lines}

-- ---- the first line

-- It ends with the first byte 10,
ended : (s : List ℕ) (i : ℕ) → i < length s → eqb (get_or s i 0) 10 ≡ true → ((j : ℕ) → j < i → eqb (get_or s j 0) 10 ≡ false)
    → text_lines s ≡ take (suc i) s ∷ text_lines (drop (suc i) s)
unfolding text_lines in_front
ended [] i h e before = absurd (omega arith)
ended (b ∷ s) zero h e before = rw (e, text_lines)
ended (b ∷ s) (suc i) h e before =
    rw (before 0 (omega arith), text_lines, ended s i (omega arith) e (λ j l. before (suc j) (omega arith)))

-- or is the whole text, where there is none.
whole : (s : List ℕ) → 0 < length s → ((j : ℕ) → j < length s → eqb (get_or s j 0) 10 ≡ false) → text_lines s ≡ s ∷ []
unfolding text_lines in_front
whole [] h none = absurd (omega arith)
whole (b ∷ []) h none = rw (none 0 (omega arith), text_lines)
whole (b ∷ b' ∷ s) h none = rw (none 0 (omega arith), text_lines, whole (b' ∷ s) (omega arith) (λ j l. none (suc j) (omega arith)))

first : (s line rest : List ℕ) (i : ℕ) → s ≡ line ++ rest → length line ≡ min (i + 1) (length s) → IsFirstMatchOrLen (λ b. eqb b 10) s i → 0 < length s
    → text_lines s ≡ line ∷ text_lines rest
unfolding text_lines
first s line rest i e n at some =
    let front : take (length line) s ≡ line = ap (take (length line)) e ∙ take-append_seam line rest in
    let behind : drop (length line) s ≡ rest = ap (drop (length line)) e ∙ drop-append_seam line rest in
    ⊎_elim
    (λ (h : i < length s).
    let size : suc i ≡ length line = omega arith in
    ended s i h (at.1 h 0) (λ j l. at.0 j 0 (omega arith) l)
    ∙ rw (size, front, behind))
    (λ (h : length s ≤ i).
    let size : length s ≡ length line = omega arith in
    let all : s ≡ line = sym (take_all (length line) s (omega arith)) ∙ front in
    let gone : rest ≡ [] = sym behind ∙ drop_of_length-le s (omega arith) in
    whole s some (λ j l. at.0 j 0 (omega arith) (omega arith)) ∙ rw (all, gone))
    (cases_lt i (length s))

-- ---- all lines

-- What a call of `next` gives, by what a state has left and its closure.
module _ {S F : Type 0} (left : S → List ℕ) (closure : S → F) (g : Mut F (Bor ℕ × Unit {0}) Bool) where
  abbrev pub pieces : S → Option (Bor (List ℕ)) → S → Type 0
  pieces s r t =
      MatchOption r ((length (left s) ≡ 0) × (t ≡ s))
      (λ x. (left s ≡ x.now ++ left t)
      × ((i : ℕ) × (length x.now ≡ min (i + 1) (length (left s)))
      × ((p : ℕ → Bool) → ComputesKey g p (closure s) → ComputesKey g p (closure t) × IsFirstMatchOrLen p (left s) i))
      × (0 < length (left s)))

  lines_left : (s : S) → ComputesKey g (λ b. eqb b 10) (closure s) → YieldsList pieces (λ x. x.now) s (text_lines (left s))
  unfolding text_lines
  lines_left =
      YieldsList-from_shown_while pieces (λ x. x.now) (λ t. text_lines (left t)) (λ t. ComputesKey g (λ b. eqb b 10) (closure t))
      (λ t u h k. ap (λ l. length (text_lines l)) (nil_from_length _ k.0))
      (λ t x u h k. let m = k.1.2 (λ b. eqb b 10) h in (m.0, first _ x.now _ k.1.0 k.0 k.1.1 m.1 k.2))

-- The pieces are the lines; the first two facts are the call's clauses `rest` and `closure`, the third is what the closure answers.
pub YieldsList-from_text : {F : Type 0} {s : _} (g : Mut F (Bor ℕ × Unit {0}) Bool) {f : F} (text : List ℕ) → split_inclusive_rest s ≡ text → split_inclusive_callee s ≡ f
    → ((b : ℕ) (r : Bool) (q : F) → CalledAt g f b r q → (q ≡ f) × (r ≡ eqb b 10))
    → YieldsList (pieces split_inclusive_rest split_inclusive_callee g) (λ x. x.now) s (text_lines text)
YieldsList-from_text {s = s} g {f} text rest closure tests =
    let computes = always_returns_same g (λ a r. r ≡ eqb a.0.now 10) f (λ a r q k. let m = tests a.0.now r q (record { shown = a.0; shows = refl; called = k }) in (m.1, m.0)) in
    subst (λ l. YieldsList (pieces split_inclusive_rest split_inclusive_callee g) (λ x. x.now) s (text_lines l)) rest
    (lines_left split_inclusive_rest split_inclusive_callee g s (subst (ComputesKey g (λ b. eqb b 10)) (sym closure) computes))

-- ---- a turn of a `for` over lines, of which i came before

module _ (ls : List (List ℕ)) (i : ℕ) where
  pub this-line : (line : List ℕ) → (i < length ls) × (line ≡ get_or ls i line) → drop i ls ≡ line ∷ drop (i + 1) ls
  this-line line t = rw (add-one i, drop-cons ls i line t.0) (ap (λ l. l ∷ drop (suc i) ls) (sym t.1))

  -- the same with the line's number
  pub numbered-line : (n : ℕ) (line : List ℕ) → (i < length (enumerate_from 0 ls)) × ((n, line) ≡ get_or (enumerate_from 0 ls) i (n, line))
      → (n ≡ i) × (drop i ls ≡ line ∷ drop (i + 1) ls)
  numbered-line n line t =
      let inside : i < length ls = omega (arith, t.0, length-enumerate_from 0 ls) in
      let is : (n, line) ≡ (0 + i, get_or ls i line) = t.1 ∙ get_or-enumerate_from 0 ls i (n, line) inside in
      (ap (λ p. p.0) is ∙ zero-add i, this-line line (inside, ap (λ p. p.1) is))

  pub no-line : i ≡ length ls → drop i ls ≡ []
  no-line h = drop_of_length-le ls (omega arith)
