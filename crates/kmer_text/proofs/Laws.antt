-- Laws of a line's bytes and form.
use Prim.Native.Nat.{ℕ, zero, suc, ◌+◌, ◌*◌, ◌-◌, ◌^◌, ◌≤◌, ◌<◌}
use native.Mathlib.Omega.{arith}
use native.Mathlib.Nat.{pow-suc}
use native.Mathlib.Numerals.{add-one}
use borrow.Author.Tests.{ne_eqb, leb-true, le-leb, lt-leb}
use mathlib.Core.Path.{◌≡◌, refl, sym, ap, ◌∙◌}
use mathlib.Core.Bool.{Bool, true, false, ◌&&◌}
use mathlib.Core.Logic.{inl, inr}
use mathlib.Core.List.{List, [], ◌∷◌}
use types.Run.{OneOf}
use lib.Dec.{eqb, leb}
use lib.ListN.{length, get_or, take, drop, length-take, length-drop, drop_of_length-le}
use lib.Seq.{slice, drop-cons, take-nil}
use Rattle.std.specs.List.{list_all}
use Rattle.rules_laws.proofs.Opened.{both}
use Rattle.rules_make.specs.MakeSet.{is_letter, is_digit, all, digits, number, form_right}

-- ---- all bytes

-- As the standard library says it.
pub all-list : (ok : ℕ → Bool) (s : List ℕ) → list_all ok s ≡ all ok s
unfolding all
all-list ok [] = refl
all-list ok (b ∷ bs) = ap (λ (t : Bool). ok b && t) (all-list ok bs)

pub all-at : (ok : ℕ → Bool) (s : List ℕ) → all ok s ≡ true → (i : ℕ) → i < length s → ok (get_or s i 0) ≡ true
unfolding all
all-at ok [] e i h = absurd (omega arith)
all-at ok (b ∷ bs) e zero h = (both (ok b) (all ok bs) e).0
all-at ok (b ∷ bs) e (suc i) h = all-at ok bs (both (ok b) (all ok bs) e).1 i (omega arith)

-- ---- letters

pub letter-one : (b : ℕ) → OneOf (65 ∷ 67 ∷ 71 ∷ 84 ∷ []) b → is_letter b ≡ true
unfolding is_letter
letter-one b (inl e) = rw e
letter-one b (inr (inl e)) = rw e
letter-one b (inr (inr (inl e))) = rw e
letter-one b (inr (inr (inr e))) = rw e

pub letter-none : (b : ℕ) → (OneOf (65 ∷ 67 ∷ 71 ∷ 84 ∷ []) b → ⊥) → is_letter b ≡ false
unfolding is_letter
letter-none b f =
    rw (ne_eqb b 65 (λ e. f (inl e)), ne_eqb b 67 (λ e. f (inr (inl e))), ne_eqb b 71 (λ e. f (inr (inr (inl e)))), ne_eqb b 84 (λ e. f (inr (inr (inr e)))))

-- ---- parts

pub part_slice : (a b : ℕ) (l : List ℕ) → take (b - a) (drop a l) ≡ slice a b l
part_slice zero b l = let e : b - 0 ≡ b = omega arith in rw e
part_slice (suc a) zero l = let e : 0 - suc a ≡ 0 = omega arith in rw e
part_slice (suc a) (suc b) [] = take-nil (suc b - suc a)
part_slice (suc a) (suc b) (x ∷ xs) = let e : suc b - suc a ≡ b - a = omega arith in rw e (part_slice a b xs)

-- ---- digits

pub digit-range : (b : ℕ) → is_digit b ≡ true → (48 ≤ b) × (b ≤ 57)
unfolding is_digit
digit-range b e = let t = both (leb 48 b) (leb b 57) e in (leb-true 48 b t.0, leb-true b 57 t.1)

pub number_more : (s : List ℕ) (i sum : ℕ) → i < length s → number sum (drop i s) ≡ number (10 * sum + (get_or s i 0 - 48)) (drop (i + 1) s)
unfolding number
number_more s i sum h = rw (drop-cons s i 0 h, add-one)

pub number-end : (s : List ℕ) (i sum : ℕ) → length s ≤ i → number sum (drop i s) ≡ sum
unfolding number
number-end s i sum h = rw (drop_of_length-le s {i = i} h)

pub ten-more : (i sum d : ℕ) → sum < 10 ^ i → 48 ≤ d → d ≤ 57 → 10 * sum + (d - 48) < 10 ^ (i + 1)
ten-more i sum d h l g = rw (add-one i, pow-suc 10 i) (omega arith)

-- ---- a line's form

pub digits-length : (k : ℕ) (line : List ℕ) → length (digits k line) ≡ length line - 1 - (k + 1)
unfolding digits
digits-length k line =
    let a : ℕ = k + 1 in
    let b : ℕ = length line - 1 in
    ap length (sym (part_slice a b line)) ∙ omega (arith, length-take (b - a) (drop a line), length-drop a line)

-- A count of 1 to 10 digits, by the line's length.
module _ (k : ℕ) (line : List ℕ) where
  pub no_digit : length line < k + 3 → leb 1 (length (digits k line)) ≡ false
  no_digit h = lt-leb 1 (length (digits k line)) (omega (arith, digits-length k line))

  pub a-digit : k + 3 ≤ length line → leb 1 (length (digits k line)) ≡ true
  a-digit h = le-leb 1 (length (digits k line)) (omega (arith, digits-length k line))

  pub many-digits : k + 12 < length line → leb (length (digits k line)) 10 ≡ false
  many-digits h = lt-leb (length (digits k line)) 10 (omega (arith, digits-length k line))

  pub few-digits : length line ≤ k + 12 → leb (length (digits k line)) 10 ≡ true
  few-digits h = le-leb (length (digits k line)) 10 (omega (arith, digits-length k line))

  pub form-short : length line < k + 3 → form_right k line ≡ false
  unfolding form_right
  form-short h = rw (no_digit h)

  pub form-long : k + 12 < length line → form_right k line ≡ false
  unfolding form_right
  form-long h = rw (a-digit (omega arith), many-digits h)

  pub form-sized : k + 3 ≤ length line → length line ≤ k + 12
      → form_right k line ≡ (all is_letter (take k line) && eqb (get_or line k 0) 44 && all is_digit (digits k line) && eqb (get_or line (length line - 1) 0) 10)
  unfolding form_right
  form-sized h l = rw (a-digit h, few-digits l)

  sized-low : 1 ≤ length (digits k line) → k + 3 ≤ length line
  sized-low h = omega (arith, digits-length k line)

  sized-high : length (digits k line) ≤ 10 → length line ≤ k + 12
  sized-high h = omega (arith, digits-length k line)

pub record Formed (k : ℕ) (line : List ℕ) : Type 0 where
  pub long : k + 3 ≤ length line
  pub short : length line ≤ k + 12
  pub digits_right : all is_digit (digits k line) ≡ true

pub formed : (k : ℕ) (line : List ℕ) → form_right k line ≡ true → Formed k line
unfolding form_right
formed k line h =
    let f = both _ _ h in
    let e = both _ _ f.0 in
    let d = both _ _ e.0 in
    let c = both _ _ d.0 in
    let b = both _ _ c.0 in
    let some : 1 ≤ length (digits k line) = leb-true _ _ b.0 in
    let few : length (digits k line) ≤ 10 = leb-true _ _ b.1 in
    record { long = sized-low k line some; short = sized-high k line few; digits_right = e.1 }
