-- The report's numbers. Document 02, W4: the yield is the nearest whole, an exact half the even one, and exactly one number is so. W10: quotient
-- and remainder give the lookups back, and exactly two numbers do.
use Prim.Native.Nat.{ℕ, zero, suc, ◌+◌, ◌*◌, ◌-◌, ◌/◌, ◌%◌, ◌≤◌, ◌<◌}
use native.Mathlib.Omega.{arith}
use native.Mathlib.Nat.{div-add-mod', mod-lt}
use native.Mathlib.Decide.{dec_lt}
use borrow.Author.Tests.{ltb-true, ltb-false, eqb-true, eqb-false, ne_eqb}
use mathlib.Core.Path.{◌≡◌, refl, sym, ◌∙◌}
use mathlib.Core.Bool.{Bool, true, false}
use mathlib.Core.List.{List, [], ◌∷◌}
use lib.Dec.{eqb, ltb}
use Rattle.rules.specs.Set.{KmerSet}
use Rattle.rules.specs.Job.{Entry, entries_of}
use Rattle.rules.specs.Report.{Report, Nearest, nearest, yield_of, PerBase, quotient_of, remainder_of}
use Rattle.rules.specs.Counts.{sum, all_passes, w_of}
use Rattle.rules.specs.Calls.{report}
use Rattle.rules.specs.Samples.{A, C, G, N, AACGCCG, sample_set}

pub nearest-is : (a d : ℕ) → 0 < d → Nearest a d (nearest a d)
unfolding nearest
nearest-is a d pos = go (ltb (2 * r) d) refl (eqb (2 * r) d) refl (q % 2) refl
  where
    q : ℕ
    q = a / d

    r : ℕ
    r = a % d

    whole : q * d + r ≡ a
    whole = div-add-mod' a d

    rest : r < d
    rest = mod-lt a pos

    up : (q + 1) * d ≡ q * d + d
    up = omega arith

    go : (s : Bool) → ltb (2 * r) d ≡ s → (t : Bool) → eqb (2 * r) d ≡ t → (p : ℕ) → q % 2 ≡ p → Nearest a d (nearest a d)
    go true e t f p g =
        let h : 2 * r < d = ltb-true (2 * r) d e in
        rw (e, nearest)
        (record {
          not_below = omega (arith, whole, rest);
          not_above = omega (arith, whole, rest);
          half_below = λ z. absurd (omega (arith, whole, rest));
          half_above = λ z. absurd (omega (arith, whole, rest));
        })
    go false e false f p g =
        let h : d ≤ 2 * r = ltb-false (2 * r) d e in
        let n : 2 * r ≡ d → ⊥ = eqb-false (2 * r) d f in
        rw (e, nearest, f)
        (record {
          not_below = omega (arith, whole, rest, up);
          not_above = omega (arith, whole, rest, up);
          half_below = λ z. absurd (omega (arith, whole, rest, up));
          half_above = λ z. absurd (omega (arith, whole, rest, up));
        })
    go false e true f zero g =
        let h : 2 * r ≡ d = eqb-true (2 * r) d f in
        rw (e, nearest, f, g)
        (record {
          not_below = omega (arith, whole, rest);
          not_above = omega (arith, whole, rest);
          half_below = λ z. omega arith;
          half_above = λ z. omega arith;
        })
    go false e true f (suc zero) g =
        let h : 2 * r ≡ d = eqb-true (2 * r) d f in
        rw (e, nearest, f, g)
        (record {
          not_below = omega (arith, whole, rest, up);
          not_above = omega (arith, whole, rest, up);
          half_below = λ z. omega arith;
          half_above = λ z. omega arith;
        })
    go false e true f (suc (suc p)) g = absurd (omega arith)

-- Two numbers so near are one or more apart only if they are neighbours with the half between them, and then both would be even.
not-less : (a d q p : ℕ) → 0 < d → Nearest a d q → Nearest a d p → q < p → ⊥
not-less a d q p pos low high less =
    let m : ℕ = p - (q + 1) in
    let e : p ≡ q + 1 + m = omega arith in
    let up : (q + 1 + m) * d ≡ q * d + d + m * d = omega arith in
    let far : m * d ≡ 0 = omega (arith, low.not_below, rw e at high.not_above) in
    let near : m ≡ 0 = none m far in
    let there : 2 * a ≡ 2 * (q * d) + d = omega (arith, low.not_below, rw e at high.not_above) in
    let here : 2 * ((q + 1 + m) * d) ≡ 2 * a + d = omega (arith, low.not_below, rw e at high.not_above) in
    omega (arith, low.half_below there, rw e at high.half_above here)
  where
    none : (m : ℕ) → m * d ≡ 0 → m ≡ 0
    none zero f = refl
    none (suc m) f = absurd (omega arith)

pub nearest-only : (a d q p : ℕ) → 0 < d → Nearest a d q → Nearest a d p → q ≡ p
nearest-only a d q p pos x y = go (dec_lt q p) (dec_lt p q)
  where
    go : Dec (q < p) → Dec (p < q) → q ≡ p
    go (yes l) s = absurd (not-less a d q p pos x y l)
    go (no f) (yes l) = absurd (not-less a d p q pos y x l)
    go (no f) (no g) = omega arith

-- With attempts the yield is that number and no other.
pub yield-nearest : (accepted attempts : ℕ) → 0 < attempts → Nearest (accepted * 1000) attempts (yield_of accepted attempts)
unfolding yield_of
yield-nearest accepted attempts pos = rw (yield_of, ne_eqb attempts 0 (λ e. omega arith)) (nearest-is (accepted * 1000) attempts pos)

-- 62.5 gives 62 and 187.5 gives 188; 0.5 gives 0 and 1.5 gives 2; 666.7 gives 667 and 333.3 gives 333; all of 7, none of 7, and no attempts.
pub yields :
    yield_of 1 16 ∷ yield_of 3 16 ∷ yield_of 1 2000 ∷ yield_of 3 2000 ∷ yield_of 2 3 ∷ yield_of 1 3 ∷ yield_of 7 7 ∷ yield_of 0 7 ∷ yield_of 0 0 ∷ []
    ≡ 62 ∷ 188 ∷ 0 ∷ 2 ∷ 667 ∷ 333 ∷ 1000 ∷ 0 ∷ 0 ∷ []
unfolding yield_of
yields = refl

-- ---- lookups for each base

pub per-base : (lookups bases : ℕ) → PerBase lookups bases (quotient_of lookups bases) (remainder_of lookups bases)
unfolding quotient_of remainder_of
per-base lookups zero =
    record { adds_up = λ l. absurd (omega arith); left = λ l. absurd (omega arith); no_quotient = λ e. refl; no_remainder = λ e. refl }
per-base lookups (suc b) =
    let f : eqb (suc b) 0 ≡ false = ne_eqb (suc b) 0 (λ e. omega arith) in
    rw (quotient_of, remainder_of, f)
    (record {
      adds_up = λ l. div-add-mod' lookups (suc b);
      left = λ l. mod-lt lookups (omega arith);
      no_quotient = λ e. absurd (omega arith);
      no_remainder = λ e. absurd (omega arith);
    })

-- Exactly these two numbers are so.
not-fewer : (d q r p s : ℕ) → q * d + r ≡ p * d + s → r < d → q < p → ⊥
not-fewer d q r p s e l less =
    let m : ℕ = p - (q + 1) in
    let f : p ≡ q + 1 + m = omega arith in
    let up : (q + 1 + m) * d ≡ q * d + d + m * d = omega arith in
    let g : q * d + r ≡ (q + 1 + m) * d + s = rw f at e in
    omega arith

pub per-base-only : (lookups bases q r p s : ℕ) → PerBase lookups bases q r → PerBase lookups bases p s → (q ≡ p) × (r ≡ s)
per-base-only lookups zero q r p s x y =
    (x.no_quotient refl ∙ sym (y.no_quotient refl), x.no_remainder refl ∙ sym (y.no_remainder refl))
per-base-only lookups (suc b) q r p s x y = go (dec_lt q p) (dec_lt p q)
  where
    pos : 0 < suc b
    pos = omega arith

    same : q * suc b + r ≡ p * suc b + s
    same = x.adds_up pos ∙ sym (y.adds_up pos)

    go : Dec (q < p) → Dec (p < q) → (q ≡ p) × (r ≡ s)
    go (yes l) d = absurd (not-fewer (suc b) q r p s same (x.left pos) l)
    go (no f) (yes l) = absurd (not-fewer (suc b) p s q r (sym same) (y.left pos) l)
    go (no f) (no g) = let e : q ≡ p = omega arith in (e, (let h : p * suc b + r ≡ p * suc b + s = rw e at same in omega arith))

-- A report tells these numbers, and the sum of w_of over the passes of demand 3.
pub told-per-base : (set : KmerSet) (es : List Entry) (ending : List ℕ) (reads : List (List ℕ))
    → let r : Report = report set es ending reads in
    (r.bases ≡ sum (w_of set) (all_passes set es reads)) × PerBase r.lookups r.bases r.quotient r.remainder
unfolding report
told-per-base set es ending reads = (refl, per-base _ _)

-- What a batch of the sample's set tells: lookups, bases, quotient, remainder.
pub per_base : List ℕ → List (List ℕ) → List ℕ
unfolding report entries_of
per_base job reads = (let r : Report = report sample_set (entries_of job) (10 ∷ []) reads in r.lookups ∷ r.bases ∷ r.quotient ∷ r.remainder ∷ [])

-- Graph on AACGCCG, 21 lookups for 4 bases. One on AAC, which has no base beyond the first k and still costs a lookup, and on AA and no letter, which
-- cost none. A job without entries. One twice on AACC: the second pass is fed AACTC, a base more. A batch of AACGC, AA, AACGCCG and AAC under One. Of
-- NNNNAAC a lookup is made for the last k-mer alone: fewer than the bases.
pub lookups_for_each_base :
    per_base (3 ∷ 1 ∷ []) (AACGCCG ∷ [])
    ∷ per_base (1 ∷ 1 ∷ []) ((A ∷ A ∷ C ∷ []) ∷ [])
    ∷ per_base (1 ∷ 1 ∷ []) ((A ∷ A ∷ []) ∷ [] ∷ [])
    ∷ per_base [] (AACGCCG ∷ [])
    ∷ per_base (1 ∷ 1 ∷ 1 ∷ 1 ∷ []) ((A ∷ A ∷ C ∷ C ∷ []) ∷ [])
    ∷ per_base (1 ∷ 1 ∷ []) ((A ∷ A ∷ C ∷ G ∷ C ∷ []) ∷ (A ∷ A ∷ []) ∷ AACGCCG ∷ (A ∷ A ∷ C ∷ []) ∷ [])
    ∷ per_base (1 ∷ 1 ∷ []) ((N ∷ N ∷ N ∷ N ∷ A ∷ A ∷ C ∷ []) ∷ [])
    ∷ []
    ≡ (21 ∷ 4 ∷ 5 ∷ 1 ∷ [])
    ∷ (1 ∷ 0 ∷ 0 ∷ 0 ∷ [])
    ∷ (0 ∷ 0 ∷ 0 ∷ 0 ∷ [])
    ∷ (0 ∷ 0 ∷ 0 ∷ 0 ∷ [])
    ∷ (14 ∷ 3 ∷ 4 ∷ 2 ∷ [])
    ∷ (29 ∷ 6 ∷ 4 ∷ 5 ∷ [])
    ∷ (1 ∷ 4 ∷ 0 ∷ 1 ∷ [])
    ∷ []
unfolding per_base sample_set
lookups_for_each_base = refl
