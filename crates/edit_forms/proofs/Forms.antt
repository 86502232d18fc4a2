-- The first judgement in the code's terms.
use Prim.Native.Nat.{ℕ, zero, suc, ◌+◌, ◌*◌, ◌-◌, ◌≤◌, ◌<◌}
use native.Mathlib.Omega.{arith}
use native.Mathlib.Numerals.{add-one}
use borrow.Author.Tests.{leb-true, leb-false, lt-ltb, le-ltb, le-leb, lt-leb}
use mathlib.Core.Path.{◌≡◌, refl, sym, ap, ap₂, ◌∙◌, fun_ext}
use mathlib.Core.Bool.{Bool, true, false, ◌&&◌, true≢false}
use mathlib.Core.List.{List}
use lib.ListN.{length}
use lib.Dec.{ltb, leb}
use Rattle.std.specs.Int.{div_ceil}
use Rattle.std.specs.Prelude.{Result, Ok, Err}
use Rattle.rules.specs.Refusal.{first_failing}
use Rattle.rules_edits.specs.Edits.{Sheet, sheet, count, position, taken, given, end_of, letters_to, behind, formed}
use Rattle.rules_edits.proofs.Edits.{Formed, formed-facts, facts-formed}
use Rattle.edit_forms.specs.declared.Edit.{Edit}
use Rattle.edit_forms.specs.declared.Formed.{Formed as Form}
use Rattle.edit_forms.specs.Formed.{EditIs, FormedIs}

-- ---- behind the edit before

module _ (s : Sheet) (i : ℕ) where
  pub behind-first : i ≡ 0 → true ≡ behind s i
  unfolding behind
  behind-first e = rw e

  -- behind edit i - 1
  module _ (last edit : Edit) (some_before : 1 ≤ i) (l : EditIs s.numbers (i - 1) last) (e : EditIs s.numbers i edit) where
    behind-is : behind s i ≡ (ltb last.position edit.position && leb (last.position + last.taken) edit.position)
    unfolding behind end_of position taken
    behind-is = let q : i ≡ suc (i - 1) = omega arith in ap (behind s) q ∙ rw (l.position, l.taken, e.position, ← q)

    pub behind-no : edit.position ≤ last.position → ltb last.position edit.position ≡ behind s i
    behind-no h = sym (behind-is ∙ rw (le-ltb last.position edit.position h))

    pub behind-by : last.position < edit.position → leb last.taken (edit.position - last.position) ≡ behind s i
    behind-by h = sym (behind-is ∙ rw (lt-ltb last.position edit.position h) (go (leb last.taken (edit.position - last.position)) refl))
      where
        go : (t : Bool) → leb last.taken (edit.position - last.position) ≡ t → leb (last.position + last.taken) edit.position ≡ t
        go true q = let m = leb-true _ _ q in le-leb _ _ (omega arith)
        go false q = let m = leb-false _ _ q in lt-leb _ _ (omega arith)

-- ---- one edit

-- before which the edits give so many letters
module _ (k : ℕ) (s : Sheet) (i so_far : ℕ) (so : so_far ≡ letters_to s i) where
  formed-no : (Formed k s i → ⊥) → false ≡ formed k s i
  formed-no n = go (formed k s i) refl
    where
      go : (t : Bool) → formed k s i ≡ t → false ≡ t
      go true e = absurd (n (formed-facts k s i e))
      go false e = refl

  pub few-numbers : length s.numbers - 3 * i < 3 → false ≡ formed k s i
  few-numbers h = formed-no (λ f. omega (arith, f.numbers))

  module _ (e : Edit) (is : EditIs s.numbers i e) where
    -- The numbers of an edit that is formed.
    pub record Fits : Type 0 where
      pub low : k ≤ e.position
      pub high : e.position + e.taken < length s.read
      pub letters : so_far + e.gives ≤ length s.letters

    fits : Formed k s i → Fits
    unfolding position end_of taken letters_to given
    fits f = record { low = omega (arith, f.low, is.position); high = omega (arith, f.high, is.position, is.taken); letters = omega (arith, f.letters, is.gives, so) }

    pub not-formed : (Fits → ⊥) → false ≡ formed k s i
    not-formed n = formed-no (λ f. n (fits f))

    pub formed-by : {b : Bool} → 3 * i + 3 ≤ length s.numbers → Fits → b ≡ behind s i → b ≡ formed k s i
    unfolding position end_of taken letters_to given
    formed-by {b} three f q = go (behind s i) refl
      where
        go : (t : Bool) → behind s i ≡ t → b ≡ formed k s i
        go true p =
            (q ∙ p)
            ∙ sym (facts-formed k s i (record {
              numbers = three;
              low = omega (arith, f.low, is.position);
              high = omega (arith, f.high, is.position, is.taken);
              letters = omega (arith, f.letters, is.gives, so);
              behind_last = p;
            }))
        go false p = (q ∙ p) ∙ formed-no (λ g. true≢false (sym g.behind_last ∙ p))

-- ---- all edits

pub count_is : (s : Sheet) (n : ℕ) → n ≡ div_ceil (length s.numbers) 3 → count s ≡ n
unfolding count
count_is s n h = omega arith

module _ (k : ℕ) (s : Sheet) (i : ℕ) (yes : formed k s i ≡ true) where
  pub numbers-fit : 3 * i + 3 ≤ length s.numbers
  numbers-fit = (formed-facts k s i yes).numbers

  module _ (e : Edit) (is : EditIs s.numbers i e) where
    pub letters-more : letters_to s i + e.gives ≡ letters_to s (i + 1)
    unfolding letters_to given
    letters-more = rw (is.gives, add-one, letters_to)

    pub letters-fit : letters_to s i + e.gives ≤ length s.letters
    letters-fit = rw (letters-more, add-one) (formed-facts k s i yes).letters

-- ---- the partner's read is not asked

module _ (s : Sheet) (mended : List ℕ) where
  abbrev pub asked_of : Sheet
  asked_of = sheet s.read mended s.numbers s.letters

  same-count : count s ≡ count asked_of
  unfolding count
  same-count = refl

  same-letters : (i : ℕ) → letters_to s i ≡ letters_to asked_of i
  unfolding letters_to given
  same-letters zero = refl
  same-letters (suc i) = ap (λ (n : ℕ). n + given s i) (same-letters i)

  same-behind : (i : ℕ) → behind s i ≡ behind asked_of i
  unfolding behind end_of position taken
  same-behind zero = refl
  same-behind (suc i) = refl

  same-formed : (k : ℕ) → formed k s ≡ formed k asked_of
  unfolding formed end_of position taken
  same-formed k = fun_ext (λ i. rw (same-letters (suc i), same-behind i))

  pub any-mended : (k : ℕ) (r : Result Form ℕ) → FormedIs k s r → FormedIs k asked_of r
  any-mended k (Ok f) p =
      (sym same-count ∙ p.0, sym (ap (λ (g : ℕ → Bool). first_failing g 0 f.edits) (same-formed k)) ∙ p.1, p.2 ∙ same-letters f.edits)
  any-mended k (Err i) p = sym (ap₂ (λ (g : ℕ → Bool) (n : ℕ). first_failing g 0 n) (same-formed k) same-count) ∙ p
