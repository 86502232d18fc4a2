-- Document 02, W8: a lookup's index is where its key stands, and solid is as document 01 has it.
use Prim.Native.Nat.{ℕ, zero, suc, ◌+◌, ◌-◌, ◌≤◌, ◌<◌}
use native.Mathlib.Omega.{arith}
use borrow.Author.Tests.{eqb-true, eq-eqb, ne_eqb}
use mathlib.Core.Path.{◌≡◌, refl, sym, ap, ◌∙◌}
use mathlib.Core.Bool.{Bool, true, false, not, ◌||◌}
use mathlib.Core.Option.{Option, none, some, some-injective, none-ne-some}
use mathlib.Core.List.{List, [], ◌∷◌, ◌++◌}
use lib.ListN.{length, get_or, take, length-take, length-drop}
use lib.Seq.{slice, get_or-take, get_or-drop}
use lib.Dec.{eqb}
use Rattle.rules.specs.Letters.{among, canonical}
use Rattle.rules.specs.Set.{KmerSet, number_from, range_start, range_end, first_for, keys_for, lookup, is_none, solid}

-- ---- the number of a key in a list

-- There is one exactly where the key is one of the list.
pub number-among : (i y : ℕ) (ks : List ℕ) → not (is_none (number_from i y ks)) ≡ among y ks
unfolding number_from is_none among
number-among i y [] = refl
number-among i y (x ∷ ks) = go (number-among (suc i) y ks) (eqb y x) refl
  where
    go : not (is_none (number_from (suc i) y ks)) ≡ among y ks → (t : Bool) → eqb y x ≡ t → not (is_none (number_from i y (x ∷ ks))) ≡ t || among y ks
    go h true e = rw (e, number_from)
    go h false e = rw (e, number_from) h

-- What stands there.
number_at : (i y : ℕ) (ks : List ℕ) (j : ℕ) → number_from i y ks ≡ some j → (m : ℕ) × (j ≡ i + m) × (m < length ks) × (get_or ks m 0 ≡ y)
unfolding number_from
number_at i y [] j h = absurd (none-ne-some j h)
number_at i y (x ∷ ks) j h = go (number_at (suc i) y ks j) (eqb y x) refl
  where
    go : (number_from (suc i) y ks ≡ some j → (m : ℕ) × (j ≡ suc i + m) × (m < length ks) × (get_or ks m 0 ≡ y)) → (t : Bool) → eqb y x ≡ t
        → (m : ℕ) × (j ≡ i + m) × (m < suc (length ks)) × (get_or (x ∷ ks) m 0 ≡ y)
    go r true e = (0, sym (some-injective i j (rw (e, number_from) at h)) ∙ omega arith, omega arith, sym (eqb-true y x e))
    go r false e = (let w = r (rw (e, number_from) at h) in (suc w.0, omega (arith, w.1), omega (arith, w.2), w.3))

-- Each key is above all before it.
abbrev pub Rising : List ℕ → Type 0
Rising ks = (a b : ℕ) → a < b → b < length ks → get_or ks a 0 < get_or ks b 0

-- Where keys rise, it is where the key stands.
number_is : (i y : ℕ) (ks : List ℕ) → Rising ks → (m : ℕ) → m < length ks → get_or ks m 0 ≡ y → number_from i y ks ≡ some (i + m)
unfolding number_from
number_is i y [] r m lt e = absurd (omega arith)
number_is i y (x ∷ ks) r zero lt e =
    rw (eq-eqb y x (sym e), number_from) (let z : i ≡ i + 0 = omega arith in ap {B = Option ℕ} some z)
number_is i y (x ∷ ks) r (suc m) lt e =
    let less : x < get_or ks m 0 = r 0 (suc m) (omega arith) lt in
    rw (ne_eqb y x (λ (q : y ≡ x). omega (arith, less)), number_from)
    (number_is (suc i) y ks (λ a b l h. r (suc a) (suc b) (omega arith) (omega arith)) m (omega arith) e
    ∙ (let z : suc i + m ≡ i + suc m = omega arith in ap {B = Option ℕ} some z))

pub not-numbered : (i x : ℕ) (xs : List ℕ) → ((j : ℕ) → j < length xs → get_or xs j 0 ≡ x → ⊥) → number_from i x xs ≡ none
unfolding number_from
not-numbered i x [] f = refl
not-numbered i x (y ∷ ys) f =
    rw (ne_eqb x y (λ e. f 0 (omega arith) (sym e)), number_from) (not-numbered (suc i) x ys (λ j h. f (suc j) (omega arith)))

-- Of a list in two parts, where the key is not in one of them.
pub number_behind : (i x : ℕ) (a b : List ℕ) → ((j : ℕ) → j < length a → get_or a j 0 ≡ x → ⊥) → number_from i x (a ++ b) ≡ number_from (i + length a) x b
unfolding number_from
number_behind i x [] b f = (let e : i ≡ i + 0 = omega arith in ap (λ (n : ℕ). number_from n x b) e)
number_behind i x (y ∷ a) b f =
    let e : suc i + length a ≡ i + suc (length a) = omega arith in
    rw (ne_eqb x y (λ q. f 0 (omega arith) (sym q)), number_from)
    (number_behind (suc i) x a b (λ j h. f (suc j) (omega arith)) ∙ ap (λ (n : ℕ). number_from n x b) e)

pub number-before : (i x : ℕ) (a b : List ℕ) → ((j : ℕ) → j < length b → get_or b j 0 ≡ x → ⊥) → number_from i x (a ++ b) ≡ number_from i x a
unfolding number_from
number-before i x [] b f = not-numbered i x b f
number-before i x (y ∷ a) b f = go (eqb x y) refl (number-before (suc i) x a b f)
  where
    go : (t : Bool) → eqb x y ≡ t → number_from (suc i) x (a ++ b) ≡ number_from (suc i) x a → number_from i x (y ∷ (a ++ b)) ≡ number_from i x (y ∷ a)
    go true e h = rw (e, number_from)
    go false e h = rw (e, number_from) h

-- ---- a lookup

-- Among the keys from lo on and before hi.
slice_at : (y lo hi : ℕ) (ks : List ℕ) (j : ℕ) → number_from lo y (slice lo hi ks) ≡ some j → (j < length ks) × (get_or ks j 0 ≡ y)
slice_at y lo hi ks j h =
    let w = number_at lo y (slice lo hi ks) j h in
    let size : length (slice lo hi ks) ≡ length (take hi ks) - lo = length-drop lo (take hi ks) in
    let short : length (take hi ks) ≤ length ks = omega (arith, length-take hi ks) in
    let under : lo + w.0 < length (take hi ks) = omega (arith, w.2) in
    let low : lo + w.0 < hi = omega (arith, length-take hi ks) in
    let e : j ≡ lo + w.0 = w.1 in (
      omega arith,
      ap (λ (m : ℕ). get_or ks m 0) e ∙ sym (get_or-take hi ks (lo + w.0) 0 low) ∙ sym (get_or-drop lo (take hi ks) w.0 0) ∙ w.3,
    )

module _ (s : KmerSet) (y : ℕ) where
  -- A code is solid where its canonical code is one of the keys that are looked at.
  pub solid-is : solid s y ≡ among (canonical s.k y) (keys_for s (canonical s.k y))
  unfolding solid lookup
  solid-is = number-among (first_for s (canonical s.k y)) (canonical s.k y) (keys_for s (canonical s.k y))

  -- The index that a lookup answers is that of the key that is the canonical code, whatever is offered.
  pub lookup-at : (i : ℕ) → lookup s y ≡ some i → (i < length s.keys) × (get_or s.keys i 0 ≡ canonical s.k y)
  unfolding lookup first_for keys_for
  lookup-at i h = go s.index refl
    where
      key : ℕ
      key = canonical s.k y

      go : (index : List ℕ) → s.index ≡ index → (i < length s.keys) × (get_or s.keys i 0 ≡ key)
      go [] e =
          let w = number_at 0 key s.keys i (rw (e, lookup, first_for, keys_for) at h) in
          let f : i ≡ w.0 = omega (arith, w.1) in
          (omega (arith, w.2), ap (λ (m : ℕ). get_or s.keys m 0) f ∙ w.3)
      go (b ∷ bs) e = slice_at key (range_start s key) (range_end s key) s.keys i (rw (e, lookup, first_for, keys_for) at h)

  -- And where keys rise and no index is offered, it is answered.
  pub lookup-is : s.index ≡ [] → Rising s.keys → (i : ℕ) → i < length s.keys → get_or s.keys i 0 ≡ canonical s.k y → lookup s y ≡ some i
  unfolding lookup first_for keys_for
  lookup-is e r i lt f =
      rw (e, lookup, first_for, keys_for)
      (number_is 0 (canonical s.k y) s.keys r i lt f ∙ (let z : 0 + i ≡ i = omega arith in ap {B = Option ℕ} some z))

  pub lookup-none : s.index ≡ [] → ((i : ℕ) → i < length s.keys → get_or s.keys i 0 ≡ canonical s.k y → ⊥) → lookup s y ≡ none
  unfolding lookup first_for keys_for
  lookup-none e f = rw (e, lookup, first_for, keys_for) (not-numbered 0 (canonical s.k y) s.keys f)
