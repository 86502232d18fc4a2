-- The walk in the code's terms.
use Prim.Native.Nat.{ℕ, suc, ◌+◌, ◌≤◌, ◌<◌}
use native.Mathlib.Omega.{arith}
use native.Mathlib.Numerals.{add-one}
use borrow.Author.Tests.{eq-eqb, ne_eqb}
use mathlib.Core.Path.{◌≡◌, refl, sym, ap, ap₂, ◌∙◌, subst}
use mathlib.Core.Bool.{Bool, true, false}
use mathlib.Core.Option.{Option, none, some}
use mathlib.Core.List.{List, [], ◌∷◌}
use lib.ListN.{length, get_or, drop, drop_of_length-le}
use lib.Seq.{drop-cons}
use Rattle.std.specs.Prelude.{Option as Asking, Some, None, Result}
use Rattle.std.specs.Option.{option_or}
use Rattle.rules.specs.Letters.{Kmer, add_base}
use Rattle.edit_walk.specs.declared.Walk.{Walk}
use Rattle.edit_walk.specs.Walk.{Stand, Walked, on, offends, next, stepped, and_then, yes, blamed, pass_over, at_edit, over_edit, StepIs}

-- ---- the next base

pub next-end : (b : ℕ) (l : List ℕ) → length l ≡ 0 → none ≡ next b (some l)
unfolding next
next-end b [] e = refl
next-end b (c ∷ l) e = absurd (omega arith)

pub next-same : (b c : ℕ) (l : List ℕ) → c ≡ b → some l ≡ next b (some (c ∷ l))
unfolding next
next-same b c l e = rw (eq-eqb b c (sym e), next)

pub next-other : (b c : ℕ) (l : List ℕ) → (c ≡ b → ⊥) → none ≡ next b (some (c ∷ l))
unfolding next
next-other b c l n = rw (ne_eqb b c (λ e. n (sym e)), next)

pub stand-is : (k : ℕ) (then : Asking ℕ) (b : ℕ) (w : Stand) {y : Kmer} {l : Option (List ℕ)} → y ≡ add_base k w.kmer b → l ≡ next b w.left
    → record { kmer = y; asks = then; left = l } ≡ stepped k then b w
unfolding stepped
stand-is k then b w e f = ap₂ (λ (x : Kmer) (m : Option (List ℕ)). record { kmer = x; asks = then; left = m }) e f

-- ---- a part

-- no edit offends by a solid k-mer
blamed_solid : (o : Asking ℕ) → blamed o true ≡ None
unfolding blamed
blamed_solid None = refl
blamed_solid (Some i) = refl

module _ (k : ℕ) (sol : ℕ → Bool) (then : Asking ℕ) (part : List ℕ) (i : ℕ) (w : Stand) where
  at_base : Asking ℕ → Walked
  unfolding pass_over
  at_base o = elim o [ Some j ↦ offends j | None ↦ pass_over k sol then (drop (suc i) part) (stepped k then (get_or part i 0) w) ]

  over-base : i < length part
      → pass_over k sol then (drop i part) w ≡ at_base (blamed w.asks (yes sol (add_base k w.kmer (get_or part i 0))))
  unfolding pass_over at_base
  over-base h = rw (drop-cons part i 0 h)

  base-free : i < length part → w.asks ≡ None
      → pass_over k sol then (drop i part) w ≡ pass_over k sol then (drop (i + 1) part) (stepped k then (get_or part i 0) w)
  unfolding at_base blamed
  base-free h e = over-base h ∙ rw (e, blamed, at_base, add-one)

  base-solid : i < length part → yes sol (add_base k w.kmer (get_or part i 0)) ≡ true
      → pass_over k sol then (drop i part) w ≡ pass_over k sol then (drop (i + 1) part) (stepped k then (get_or part i 0) w)
  unfolding at_base
  base-solid h e = over-base h ∙ rw (e, blamed_solid w.asks, at_base, add-one)

  base-offends : {j : ℕ} → i < length part → w.asks ≡ Some j → yes sol (add_base k w.kmer (get_or part i 0)) ≡ false
      → pass_over k sol then (drop i part) w ≡ offends j
  unfolding at_base blamed
  base-offends h a e = over-base h ∙ rw (e, a, blamed, at_base)

  -- v is where the walk stands behind the base
  module _ (h : i < length part) (v : Stand) (v-is : v ≡ stepped k then (get_or part i 0) w) where
    kmer_is : v.kmer ≡ add_base k w.kmer (get_or part i 0)
    unfolding stepped
    kmer_is = ap (λ (x : Stand). x.kmer) v-is

    pub step-free : w.asks ≡ None → pass_over k sol then (drop i part) w ≡ pass_over k sol then (drop (i + 1) part) v
    step-free e = base-free h e ∙ ap (pass_over k sol then (drop (i + 1) part)) (sym v-is)

    pub step-solid : yes sol v.kmer ≡ true → pass_over k sol then (drop i part) w ≡ pass_over k sol then (drop (i + 1) part) v
    step-solid e = base-solid h (sym (ap (yes sol) kmer_is) ∙ e) ∙ ap (pass_over k sol then (drop (i + 1) part)) (sym v-is)

    pub step-offends : {j : ℕ} → w.asks ≡ Some j → yes sol v.kmer ≡ false → pass_over k sol then (drop i part) w ≡ offends j
    step-offends a e = base-offends h a (sym (ap (yes sol) kmer_is) ∙ e)

  pub part_end : length part ≤ i → pass_over k sol then (drop i part) w ≡ on w
  unfolding pass_over
  part_end h = rw (drop_of_length-le part h)

-- ---- an edit

module _ (k : ℕ) (sol : ℕ → Bool) (i : ℕ) (bases letters : List ℕ) (w : Stand) where
  pub edit-stopped : {j : ℕ} → pass_over k sol None bases w ≡ offends j → over_edit k sol i bases letters w ≡ offends j
  unfolding over_edit and_then
  edit-stopped e = rw e

  module _ (v : Stand) (e : pass_over k sol None bases w ≡ on v) where
    pub edit-offends : yes sol v.kmer ≡ false → over_edit k sol i bases letters w ≡ offends i
    unfolding over_edit and_then at_edit
    edit-offends f = rw (e, f, at_edit)

    pub edit-on : (o : Asking ℕ) → o ≡ option_or v.asks (Some i) → yes sol v.kmer ≡ true
        → over_edit k sol i bases letters w ≡ pass_over k sol (Some i) letters (record { kmer = v.kmer; asks = o; left = v.left })
    unfolding over_edit and_then at_edit
    edit-on o g f = rw (e, f, at_edit, g)

-- ---- answers

pub same_step : (k : ℕ) {a b : Walked} (r : Result Walk ℕ) → a ≡ b → StepIs k b r → StepIs k a r
same_step k r e h = subst (λ (x : Walked). StepIs k x r) (sym e) h
