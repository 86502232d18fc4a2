-- Laws of two words of a line, and of the keys beside three lines.
use Prim.Native.Nat.{ℕ, ◌+◌, ◌%◌, ◌≤◌, ◌<◌, min}
use native.Mathlib.Omega.{arith}
use native.Mathlib.Nat.{add-zero}
use native.Mathlib.Decide.{dec_lt}
use mathlib.Core.Path.{◌≡◌, refl, sym, ◌∙◌}
use mathlib.Core.Bool.{Bool, true, false, ◌||◌, ◌&&◌, cond, false≢true}
use mathlib.Core.List.{List}
use borrow.Author.Tests.{eqb-true, eq-eqb, ltb-true, ltb-false, lt-ltb, le-leb, leb-false}
use lib.Dec.{eqb, ltb, leb}
use Rattle.rules_laws.proofs.Opened.{both}
use Rattle.std.specs.Prelude.{Some, None}
use Rattle.few_keys.specs.Find.{key_in, Sorted, LowerBefore, Bracket, Answers}
use Rattle.cache_line.specs.Lines.{first_key, in_window}
use Rattle.few_keys.proofs.Bracket.{lower-through, higher-from}

-- ---- two words

-- Word `at` of a line and the word behind it, which is a key, but for the check word.
module _ (skip : ℕ) (part : List ℕ) (x line at word : ℕ) (low : at < 7)
    (is : first_key line + at + 1 < first_key (line + 1) → word ≡ key_in skip part (first_key line + at + 1)) where
  abbrev first : Bool
  first = eqb x (key_in skip part (first_key line + at))

  abbrev second : Bool
  second = eqb x word && ltb (at + line % 8) 13

  abbrev end : ℕ
  end = min (first_key (line + 1)) (first_key line + at + 2)

  pub pair-at : (first || second) ≡ true → Answers skip part x (first_key line + at) end (Some (first_key line + at + cond second 1 0))
  pair-at e = go second refl
    where
      go : (q : Bool) → second ≡ q → Answers skip part x (first_key line + at) end (Some (first_key line + at + cond q 1 0))
      go true d =
          let t = both (eqb x word) (ltb (at + line % 8) 13) d in
          let l : at + line % 8 < 13 = ltb-true _ _ t.1 in
          (omega arith, omega arith, sym (is (omega arith)) ∙ sym (eqb-true x word t.0))
      go false d = rw (add-zero (first_key line + at)) (omega arith, omega arith, sym (eqb-true x _ (here first refl)))
        where
          here : (p : Bool) → first ≡ p → first ≡ true
          here true c = c
          here false c = absurd (false≢true (sym (rw (c, d)) ∙ e))

  pub pair-none : (first || second) ≡ false → Answers skip part x (first_key line + at) end None
  pair-none e i l g same = go (dec_lt i (first_key line + at + 1))
    where
      go : Dec (i < first_key line + at + 1) → ⊥
      go (yes h) =
          let here : i ≡ first_key line + at = omega arith in
          let p : first ≡ true = eq-eqb x (key_in skip part (first_key line + at)) (rw here at (sym same)) in
          false≢true (sym e ∙ rw p)
      go (no h) =
          let here : i ≡ first_key line + at + 1 = omega arith in
          let w : x ≡ word = rw here at (sym same) ∙ sym (is (omega arith)) in
          let p : eqb x word ≡ true = eq-eqb x word w in
          let q : ltb (at + line % 8) 13 ≡ true = lt-ltb (at + line % 8) 13 (omega arith) in
          false≢true (sym e ∙ or-true first second (rw (p, q)))
        where
          or-true : (a b : Bool) → b ≡ true → (a || b) ≡ true
          or-true true b d = refl
          or-true false b d = d

module _ {skip : ℕ} {part : List ℕ} {first last : ℕ} (sorted : Sorted skip part first last) (x : ℕ) where
  -- x is not below the window's first key: it is above its last.
  pub behind-window : (line : ℕ) → first_key (line + 3) ≤ last
      → in_window skip part x line ≡ false
      → key_in skip part (first_key line) ≤ x → LowerBefore skip part first last x (first_key (line + 2) + 7)
  behind-window line room e l j f g k =
      let top : ℕ = first_key (line + 2) + 6 in
      lower-through sorted x top (omega arith) (leb-false _ _ (go (leb (key_in skip part (first_key line)) x) (leb x (key_in skip part top)) e (le-leb _ _ l))) j f g (omega arith)
    where
      go : (a b : Bool) → (a && b) ≡ false → a ≡ true → b ≡ false
      go true b d c = d
      go false b d c = absurd (false≢true c)

  -- x belongs to none of three lines: it can stand only before them, or only behind them.
  pub outside : (line lo hi low high : ℕ) → first ≤ first_key line → first_key (line + 3) ≤ last
      → in_window skip part x line ≡ false
      → lo < hi → Bracket skip part first last x lo hi
      → low ≡ cond (ltb x (key_in skip part (first_key line))) lo (first_key (line + 2) + 7)
      → high ≡ cond (ltb x (key_in skip part (first_key line))) (first_key line) hi
      → (low ≤ last) × Bracket skip part first last x low high
  outside line lo hi low high start room e some l low-is high_is = rw (low-is, high_is) (go (ltb x (key_in skip part (first_key line))) refl)
    where
      go : (b : Bool) → ltb x (key_in skip part (first_key line)) ≡ b
          → (cond b lo (first_key (line + 2) + 7) ≤ last) × Bracket skip part first last x (cond b lo (first_key (line + 2) + 7)) (cond b (first_key line) hi)
      go true d = (
        omega (arith, l.within),
        record {
          within = omega (arith, l.within);
          below = l.below;
          above = higher-from sorted x (first_key line) start (ltb-true _ _ d);
        },
      )
      go false d = (
        omega (arith, l.within),
        record {
          within = omega (arith, l.within);
          below = behind-window line room e (ltb-false _ _ d);
          above = l.above;
        },
      )
