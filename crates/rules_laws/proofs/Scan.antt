-- Successors and scan: the sole successor is the only solid one; what they cost, and where a scan ends.
use Prim.Native.Nat.{ℕ, zero, suc, ◌+◌, ◌*◌, ◌%◌, ◌^◌, ◌≤◌, ◌<◌}
use native.Mathlib.Omega.{arith}
use mathlib.Core.Path.{◌≡◌, refl, sym, ap, ◌∙◌, subst}
use mathlib.Core.Bool.{Bool, true, false, false≢true}
use mathlib.Core.Option.{Option, none, some, some-injective}
use mathlib.Core.List.{List, [], ◌∷◌}
use lib.ListN.{length, get_or}
use Rattle.rules.specs.Letters.{Kmer, all_known, add, code}
use Rattle.rules.specs.Counted.{Counted, give}
use Rattle.rules.specs.Scan.{only, yes_from, ask, is_solid, not_solid, successor, successors, four_cost, u, sole, scan_from}
use Rattle.rules.specs.Graph.{All, also, OnlySuccessor}
use Rattle.rules_laws.proofs.Kmer.{Known, known-true, all_known_lem, ne-known, add-lt, add-unknown}
use Rattle.rules_laws.proofs.Counted.{bind-some, bind_is}

-- ---- the element of a list of exactly one

-- what holds of each holds of it
pub only-all : {A : Type 0} (P : A → Type 0) (l : List A) (a : A) → All P l → only l ≡ some a → P a
unfolding only
only-all P [] a h e = absurd (let z : ◌≡◌ {A = ℕ} 0 1 = cc in omega arith)
only-all P (x ∷ []) a (also p h) e = subst P (some-injective x a e) p
only-all P (x ∷ y ∷ l) a h e = absurd (let z : ◌≡◌ {A = ℕ} 0 1 = cc in omega arith)

-- index i of l says yes, and no other does
pub record OnlyYes (l : List Bool) (i : ℕ) : Type 0 where
  pub inside : i < length l
  pub says_yes : get_or l i false ≡ true
  pub alone : (m : ℕ) → m < length l → get_or l m false ≡ true → m ≡ i

no-yes : (j : ℕ) (l : List Bool) → ((m : ℕ) → m < length l → get_or l m false ≡ true → ⊥) → yes_from j l ≡ []
unfolding yes_from
no-yes j [] h = refl
no-yes j (true ∷ l) h = absurd (h 0 (omega arith) refl)
no-yes j (false ∷ l) h = no-yes (suc j) l (λ m lt y. h (suc m) (omega arith) y)

yes-none : (j : ℕ) (l : List Bool) → yes_from j l ≡ [] → (m : ℕ) → get_or l m false ≡ true → ⊥
unfolding yes_from
yes-none j [] e m y = false≢true y
yes-none j (true ∷ l) e m y = let z : suc (length (yes_from (suc j) l)) ≡ 0 = ap length e in omega arith
yes-none j (false ∷ l) e zero y = false≢true y
yes-none j (false ∷ l) e (suc m) y = yes-none (suc j) l e m y

pub only_yes : (j : ℕ) (l : List Bool) (a : ℕ) → only (yes_from j l) ≡ some a → (i : ℕ) × (a ≡ j + i) × OnlyYes l i
unfolding yes_from only
only_yes j [] a e = absurd (let z : ◌≡◌ {A = ℕ} 0 1 = cc in omega arith)
only_yes j (true ∷ l) a e = go (yes_from (suc j) l) refl
  where
    go : (r : List ℕ) → yes_from (suc j) l ≡ r → (i : ℕ) × (a ≡ j + i) × OnlyYes (true ∷ l) i
    go [] q = (
      0,
      sym (some-injective j a (rw q at e)) ∙ omega arith,
      record { inside = omega arith; says_yes = refl; alone = elim [ zero ↦ λ lt y. refl | suc m ↦ λ lt y. absurd (yes-none (suc j) l q m y) ] },
    )
    go (b ∷ r) q = absurd (let p : none ≡ some a = rw q at e in let z : ◌≡◌ {A = ℕ} 0 1 = cc in omega arith)
only_yes j (false ∷ l) a e =
    let w = only_yes (suc j) l a e in (
      suc w.0,
      w.1 ∙ omega arith,
      record {
        inside = omega (arith, w.2.inside);
        says_yes = w.2.says_yes;
        alone = elim [ zero ↦ λ lt y. absurd (false≢true y) | suc m ↦ λ lt y. ap suc (w.2.alone m (omega arith) y) ];
      },
    )

pub yes-only : (j : ℕ) (l : List Bool) (i : ℕ) → OnlyYes l i → only (yes_from j l) ≡ some (j + i)
unfolding yes_from only
yes-only j [] i o = absurd (omega (arith, o.inside))
yes-only j (true ∷ l) zero o =
    let q = no-yes (suc j) l (λ m lt y. absurd (omega (arith, o.alone (suc m) (omega arith) y))) in
    rw q (let z : j ≡ j + 0 = omega arith in ap {B = Option ℕ} some z)
yes-only j (true ∷ l) (suc i) o = absurd (omega (arith, o.alone 0 (omega arith) refl))
yes-only j (false ∷ l) zero o = absurd (false≢true o.says_yes)
yes-only j (false ∷ l) (suc i) o =
    yes-only (suc j) l i
    (record {
      inside = omega (arith, o.inside);
      says_yes = o.says_yes;
      alone = λ m lt y. let e = o.alone (suc m) (omega arith) y in omega arith;
    })
    ∙ (let z : suc j + i ≡ j + suc i = omega arith in ap {B = Option ℕ} some z)

-- ---- a k-mer asked

module _ (sol : ℕ → Bool) (y : Kmer) where
  -- a solid k-mer has no unknown letter
  pub ask-known : (ask sol y).answer ≡ true → Known y
  unfolding ask
  ask-known h = go (all_known y) refl
    where
      go : (t : Bool) → all_known y ≡ t → Known y
      go true e = all_known_lem y e
      go false e = absurd (false≢true (rw (e, ask) at h))

  -- its answer is its code's
  pub ask-is : Known y → (ask sol y).answer ≡ sol y.code
  unfolding ask
  ask-is h = rw (known-true y h, ask)

  -- and costs 1
  pub ask-one : Known y → (ask sol y).lookups ≡ 1
  unfolding ask
  ask-one h = rw (known-true y h, ask)

  pub ask-cost : (ask sol y).lookups ≤ 1
  unfolding ask
  ask-cost = go (all_known y) refl
    where
      go : (t : Bool) → all_known y ≡ t → (ask sol y).lookups ≤ 1
      go true e = rw (e, ask) (omega arith)
      go false e = rw (e, ask) (omega arith)

  -- one that holds an unknown letter costs nothing
  pub ask-none : all_known y ≡ false → ask sol y ≡ record { answer = false; lookups = 0 }
  unfolding ask
  ask-none h = rw (h, ask)

-- ---- the sole successor

module _ (k : ℕ) (sol : ℕ → Bool) where
  four : (y : Kmer) (a : ℕ) → a < 4 → get_or (successors k sol y) a false ≡ (ask sol (add k y a)).answer
  unfolding successors successor
  four y zero h = refl
  four y (suc zero) h = refl
  four y (suc (suc zero)) h = refl
  four y (suc (suc (suc zero))) h = refl
  four y (suc (suc (suc (suc a)))) h = absurd (omega arith)

  four-length : (y : Kmer) → length (successors k sol y) ≡ 4
  unfolding successors
  four-length y = refl

  -- y+u(y) is the only solid successor of y
  pub sole-is : (y z : Kmer) → (sole k sol y).answer ≡ some z → OnlySuccessor k sol y z
  unfolding sole give u
  sole-is y z e =
      let w = bind-some (u k sol y) (λ a. give (add k y a)) z e in
      let v = only_yes 0 (successors k sol y) w.0 w.1 in
      let a : ℕ = w.0 in
      let n = four-length y in
      let i : v.0 ≡ a = omega (arith, v.1) in
      let lt : a < 4 = omega (arith, v.1, v.2.inside) in
      let q : add k y a ≡ z = some-injective (add k y a) z w.2 in
      let yes : (ask sol (add k y a)).answer ≡ true = sym (four y a lt) ∙ subst (λ (x : ℕ). get_or (successors k sol y) x false ≡ true) i v.2.says_yes in
      record {
        by = a;
        by_lt = lt;
        is = sym q;
        solid_found = subst (λ (x : Kmer). (ask sol x).answer ≡ true) q yes;
        only_one = λ b lb s. v.2.alone b (omega arith) (four y b lb ∙ s) ∙ i;
      }

  -- and the only solid successor is found
  pub sole-found : (y z : Kmer) → OnlySuccessor k sol y z → (sole k sol y).answer ≡ some z
  unfolding sole give u
  sole-found y z o =
      let n = four-length y in
      let f = yes-only 0 (successors k sol y) o.by
      (record {
        inside = omega (arith, o.by_lt);
        says_yes = four y o.by o.by_lt ∙ subst (λ (x : Kmer). (ask sol x).answer ≡ true) o.is o.solid_found;
        alone = λ m lt s. let l : m < 4 = omega arith in o.only_one m l (sym (four y m l) ∙ s);
      }) in
      let e : 0 + o.by ≡ o.by = omega arith in
      bind_is (u k sol y) (λ a. give (add k y a)) o.by (f ∙ ap {B = Option ℕ} some e)
      ∙ ap {B = Option Kmer} some (sym o.is)

  pub sole-lt : (y z : Kmer) → (sole k sol y).answer ≡ some z → z.code < 4 ^ k
  sole-lt y z e = let o = sole-is y z e in rw o.is (add-lt k y o.by)

  -- the four together, asked one by one
  four-at-most : (y : Kmer) → four_cost k sol y ≤ 4
  unfolding four_cost successor
  four-at-most y =
      omega (arith, ask-cost sol (add k y 0), ask-cost sol (add k y 1), ask-cost sol (add k y 2), ask-cost sol (add k y 3))

  -- a sole successor costs the four answers, found or not
  pub sole-lookups : (y : Kmer) → (sole k sol y).lookups ≡ four_cost k sol y
  unfolding sole u give
  sole-lookups y = go (only (yes_from 0 (successors k sol y))) refl
    where
      go : (o : Option ℕ) → only (yes_from 0 (successors k sol y)) ≡ o → (sole k sol y).lookups ≡ four_cost k sol y
      go none e = rw (e, sole) (omega arith)
      go (some a) e = rw (e, sole) (omega arith)

  pub sole-cost : (y : Kmer) → (sole k sol y).lookups ≤ 4
  sole-cost y = omega (arith, sole-lookups y, four-at-most y)

  pub is_solid-cost : (y : Kmer) → (is_solid k sol y).lookups ≤ 1
  unfolding is_solid
  is_solid-cost y = go (ask sol y).answer refl
    where
      go : (t : Bool) → (ask sol y).answer ≡ t → (is_solid k sol y).lookups ≤ 1
      go true e = rw (e, is_solid) (ask-cost sol y)
      go false e = rw (e, is_solid) (ask-cost sol y)

  pub not_solid-cost : (y : Kmer) → (not_solid k sol y).lookups ≤ 1
  unfolding not_solid
  not_solid-cost y = go (ask sol y).answer refl
    where
      go : (t : Bool) → (ask sol y).answer ≡ t → (not_solid k sol y).lookups ≤ 1
      go true e = rw (e, not_solid) (ask-cost sol y)
      go false e = rw (e, not_solid) (ask-cost sol y)

-- The theorem `four-cost`: the four successors of a k-mer cost 4 lookups if its last k − 1 letters are known, else 0.
module _ (j : ℕ) (sol : ℕ → Bool) (y : Kmer) where
  pub four-cost : y.unknown % 2 ^ j ≡ 0 → four_cost (suc j) sol y ≡ 4
  unfolding four_cost successor
  four-cost h = omega (arith, at 0 (omega arith), at 1 (omega arith), at 2 (omega arith), at 3 (omega arith))
    where
      at : (a : ℕ) → a < 4 → (ask sol (add (suc j) y a)).lookups ≡ 1
      at a lt = ask-one sol (add (suc j) y a) (add-unknown j y a lt ∙ omega arith)

  -- where there is a solid successor it costs 4
  pub sole-four : (z : Kmer) → (sole (suc j) sol y).answer ≡ some z → (sole (suc j) sol y).lookups ≡ 4
  sole-four z e =
      let o = sole-is (suc j) sol y z e in
      let u : y.unknown % 2 ^ j * 2 ≡ 0 =
      sym (add-unknown j y o.by o.by_lt) ∙ ap (λ (v : Kmer). v.unknown) (sym o.is) ∙ ask-known sol z o.solid_found in
      sole-lookups (suc j) sol y ∙ four-cost (omega arith)

  pub four-free : (y.unknown % 2 ^ j ≡ 0 → ⊥) → four_cost (suc j) sol y ≡ 0
  unfolding four_cost successor
  four-free h = omega (arith, at 0 (omega arith), at 1 (omega arith), at 2 (omega arith), at 3 (omega arith))
    where
      at : (a : ℕ) → a < 4 → (ask sol (add (suc j) y a)).lookups ≡ 0
      at a lt = ap (λ (r : Counted Bool). r.lookups)
          (ask-none sol (add (suc j) y a) (ne-known (add (suc j) y a) (λ e. h (let u = add-unknown j y a lt in omega arith))))

-- ---- the scan

-- The lookups a for the first base, and those of the others if it was not solid.
unfoldable pub scan_if : Bool → ℕ → ℕ → ℕ
scan_if true a n = a
scan_if false a n = a + n

module _ (k : ℕ) (sol : ℕ → Bool) where
  -- what a scan of s behind y costs
  unfoldable pub scan_cost : Kmer → List ℕ → ℕ
  unfolding scan_if
  scan_cost y [] = 0
  scan_cost y (b ∷ s) =
      (let z : Kmer = add k y (code b) in scan_if (ask sol z).answer (ask sol z).lookups (scan_cost z s))

  pub record ScanIs (l i : ℕ) (y : Kmer) (s : List ℕ) : Type 0 where
    pub cost : (scan_from k sol l i y s).lookups ≡ l + scan_cost y s
    pub low : i + scan_cost y s ≤ (scan_from k sol l i y s).index + 1
    pub from : i ≤ (scan_from k sol l i y s).index
    pub high : (scan_from k sol l i y s).index ≤ i + length s
    pub short : scan_cost y s ≤ length s

  pub scan-is : (l i : ℕ) (y : Kmer) (s : List ℕ) → ScanIs l i y s
  unfolding scan_from scan_cost scan_if
  scan-is l i y [] = record { cost = omega arith; low = omega arith; from = omega arith; high = omega arith; short = omega arith }
  scan-is l i y (b ∷ s) = go (scan-is (l + (ask sol z).lookups) (suc i) z s) (ask sol z).answer refl
    where
      z : Kmer
      z = add k y (code b)

      one : (ask sol z).lookups ≤ 1
      one = ask-cost sol z

      go : ScanIs (l + (ask sol z).lookups) (suc i) z s → (t : Bool) → (ask sol z).answer ≡ t → ScanIs l i y (b ∷ s)
      go h true e =
          record {
            cost = rw (e, scan_from) (omega arith);
            low = rw (e, scan_from) (omega (arith, one));
            from = rw (e, scan_from) (omega arith);
            high = rw (e, scan_from) (omega arith);
            short = rw (e, scan_cost) (omega (arith, one));
          }
      go h false e =
          record {
            cost = rw (e, scan_from) (omega (arith, h.cost));
            low = rw (e, scan_from) (omega (arith, h.low, one));
            from = rw (e, scan_from) (omega (arith, h.from));
            high = rw (e, scan_from) (omega (arith, h.high));
            short = rw (e, scan_cost) (omega (arith, h.short, one));
          }
