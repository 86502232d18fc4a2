-- A search: its lookups stay within the budget and come in fours; a found chain is one; where all is tried there is none.
use Prim.Native.Nat.{ℕ, zero, suc, ◌+◌, ◌-◌, ◌%◌, ◌≤◌, ◌<◌}
use native.Mathlib.Omega.{arith}
use native.Mathlib.Nat.{le_refl}
use borrow.Author.Tests.{eqb-true, eqb-false, ltb-true, ltb-false}
use mathlib.Core.Path.{◌≡◌, refl, sym, ap, ◌∙◌, subst}
use mathlib.Core.Bool.{Bool, true, false}
use mathlib.Core.List.{List, [], ◌∷◌}
use lib.ListN.{length}
use lib.Dec.{eqb, ltb}
use Rattle.rules.specs.Letters.{push, letter}
use Rattle.rules.specs.Counted.{Counted}
use Rattle.rules_bridge.specs.Bridge.{cost, Move, Chain, arrive, further, End, found, tried, stopped, before, ends, go_on, in_order, from_letter, from_kmer}

-- ---- ends told apart

found-tried : (bs : List ℕ) → found bs ≡ tried → ⊥
found-tried bs e = let z : ◌≡◌ {A = ℕ} 0 1 = cc in omega arith

pub tried-found : (bs : List ℕ) → tried ≡ found bs → ⊥
tried-found bs e = let z : ◌≡◌ {A = ℕ} 0 1 = cc in omega arith

pub stopped-found : (bs : List ℕ) → stopped ≡ found bs → ⊥
stopped-found bs e = let z : ◌≡◌ {A = ℕ} 0 1 = cc in omega arith

pub stopped-tried : stopped ≡ tried → ⊥
stopped-tried e = let z : ◌≡◌ {A = ℕ} 0 1 = cc in omega arith

same-found : (bs cs : List ℕ) → found bs ≡ found cs → bs ≡ cs
same-found bs cs e = cc

pub chain_length : {k : ℕ} {sol : ℕ → Bool} {y t : ℕ} {bs : List ℕ} → Chain k sol y bs t → 1 ≤ length bs
chain_length (arrive m) = omega arith
chain_length (further m c) = omega arith

-- ---- lookups

-- From l lookups on: never fewer, never past the budget, in fours, and a stop only where fewer than 4 remain.
pub record Spent (budget l : ℕ) (r : Counted End) : Type 0 where
  pub grows : l ≤ r.lookups
  pub within : l ≤ budget → r.lookups ≤ budget
  pub fours : r.lookups % 4 ≡ l % 4
  pub stops : r.answer ≡ stopped → budget - r.lookups < 4

module _ (budget : ℕ) where
  go_on-spent : (l : ℕ) (r : Counted End) (more : ℕ → Counted End) → Spent budget l r → Spent budget r.lookups (more r.lookups)
      → Spent budget l (go_on r more)
  unfolding go_on
  go_on-spent l r more h g = go r.answer refl
    where
      go : (e : End) → r.answer ≡ e → Spent budget l (go_on r more)
      go (found bs) e = rw (e, go_on) h
      go tried e =
          rw (e, go_on)
          (record {
            grows = omega (arith, h.grows, g.grows);
            within = λ b. g.within (h.within b);
            fours = g.fours ∙ h.fours;
            stops = g.stops;
          })
      go stopped e = rw (e, go_on) h

  tried-spent : (l : ℕ) → Spent budget l (ends tried l)
  tried-spent l = record { grows = le_refl l; within = λ b. b; fours = refl; stops = λ e. absurd (stopped-tried (sym e)) }

  pub in_order-spent : (look : ℕ → ℕ → Counted End) → ((a l : ℕ) → Spent budget l (look a l)) → (n a l : ℕ) → Spent budget l (in_order look n a l)
  unfolding in_order
  in_order-spent look h zero a l = tried-spent l
  in_order-spent look h (suc n) a l =
      go_on-spent l (look a l) (in_order look n (suc a)) (h a l) (in_order-spent look h n (suc a) (look a l).lookups)

module _ (k : ℕ) (sol : ℕ → Bool) (to budget : ℕ) where
  pub before-stopped : (a : ℕ) (e : End) → before a e ≡ stopped → e ≡ stopped
  unfolding before
  before-stopped a (found bs) h = absurd (stopped-found (letter a ∷ bs) (sym h))
  before-stopped a tried h = absurd (stopped-tried (sym h))
  before-stopped a stopped h = refl

  pub from_letter-spent : (behind : ℕ → ℕ → Counted End) → ((z l : ℕ) → Spent budget l (behind z l)) → (y a l : ℕ)
      → Spent budget l (from_letter k sol to budget behind y a l)
  unfolding from_letter
  from_letter-spent behind h y a l = go (sol (push 4 k y a)) refl (eqb (push 4 k y a) to) refl
    where
      go : (p : Bool) → sol (push 4 k y a) ≡ p → (q : Bool) → eqb (push 4 k y a) to ≡ q → Spent budget l (from_letter k sol to budget behind y a l)
      go false e q f = rw (e, from_letter) (tried-spent budget l)
      go true e true f =
          rw (e, from_letter, f)
          (record { grows = le_refl l; within = λ b. b; fours = refl; stops = λ s. absurd (stopped-found (letter a ∷ []) (sym s)) })
      go true e false f =
          let g = h (push 4 k y a) l in
          rw (e, from_letter, f)
          (record { grows = g.grows; within = g.within; fours = g.fours; stops = λ s. g.stops (before-stopped a (behind (push 4 k y a) l).answer s) })

  pub spent : (m y l : ℕ) → Spent budget l (from_kmer k sol to budget m y l)
  unfolding from_kmer
  spent zero y l = tried-spent budget l
  spent (suc m) y l = go (spent m) (ltb (budget - l) cost) refl
    where
      go : ((z u : ℕ) → Spent budget u (from_kmer k sol to budget m z u)) → (b : Bool) → ltb (budget - l) cost ≡ b
          → Spent budget l (from_kmer k sol to budget (suc m) y l)
      go i true e =
          let lt = ltb-true (budget - l) cost e in
          rw (e, from_kmer) (record { grows = le_refl l; within = λ b. b; fours = refl; stops = λ s. lt })
      go i false e =
          let le = ltb-false (budget - l) cost e in
          let h = in_order-spent budget (from_letter k sol to budget (from_kmer k sol to budget m) y)
          (from_letter-spent (from_kmer k sol to budget m) i y) 4 0 (l + cost) in
          rw (e, from_kmer)
          (record { grows = omega (arith, h.grows); within = λ b. h.within (omega arith); fours = h.fours ∙ omega arith; stops = h.stops })

-- ---- a found chain is a chain

-- What is found is a chain from y of at most m moves.
abbrev pub Sound : (k : ℕ) → (ℕ → Bool) → ℕ → ℕ → ℕ → Counted End → Type 0
Sound k sol to m y r = (bs : List ℕ) → r.answer ≡ found bs → Chain k sol y bs to × (length bs ≤ m)

module _ (k : ℕ) (sol : ℕ → Bool) (to : ℕ) where
  go_on-sound : (m y : ℕ) (r : Counted End) (more : ℕ → Counted End) → Sound k sol to m y r → Sound k sol to m y (more r.lookups)
      → Sound k sol to m y (go_on r more)
  unfolding go_on
  go_on-sound m y r more h g = go r.answer refl
    where
      go : (e : End) → r.answer ≡ e → Sound k sol to m y (go_on r more)
      go (found bs) e = rw (e, go_on) h
      go tried e = rw (e, go_on) g
      go stopped e = rw (e, go_on) h

  in_order-sound : (m y : ℕ) (look : ℕ → ℕ → Counted End) → ((a l : ℕ) → a < 4 → Sound k sol to m y (look a l))
      → (n a l : ℕ) → a + n ≤ 4 → Sound k sol to m y (in_order look n a l)
  unfolding in_order
  in_order-sound m y look h zero a l lt = λ bs e. absurd (tried-found bs e)
  in_order-sound m y look h (suc n) a l lt =
      go_on-sound m y (look a l) (in_order look n (suc a)) (h a l (omega arith))
      (in_order-sound m y look h n (suc a) (look a l).lookups (omega arith))

module _ (k : ℕ) (sol : ℕ → Bool) (to budget : ℕ) where
  moved : (y a : ℕ) → a < 4 → sol (push 4 k y a) ≡ true → Move k sol y (letter a) (push 4 k y a)
  moved y a lt s = record { by = a; by_lt = lt; spelt = refl; is = refl; solid_found = s }

  before-sound : (m y a : ℕ) → Move k sol y (letter a) (push 4 k y a) → (r : Counted End) → Sound k sol to m (push 4 k y a) r
      → Sound k sol to (suc m) y (ends (before a r.answer) r.lookups)
  unfolding before
  before-sound m y a o r h bs = go r.answer refl
    where
      go : (e : End) → r.answer ≡ e → before a r.answer ≡ found bs → Chain k sol y bs to × (length bs ≤ suc m)
      go (found cs) e f =
          let c = h cs e in
          let w : letter a ∷ cs ≡ bs = same-found (letter a ∷ cs) bs (rw e at f) in
          let d : Chain k sol y (letter a ∷ cs) to × (suc (length cs) ≤ suc m) = (further o c.0, omega (arith, c.1)) in
          subst (λ (x : List ℕ). Chain k sol y x to × (length x ≤ suc m)) w d
      go tried e f = absurd (tried-found bs (rw e at f))
      go stopped e f = absurd (stopped-found bs (rw e at f))

  from_letter-sound : (m : ℕ) (behind : ℕ → ℕ → Counted End) → ((z l : ℕ) → Sound k sol to m z (behind z l)) → (y a l : ℕ) → a < 4
      → Sound k sol to (suc m) y (from_letter k sol to budget behind y a l)
  unfolding from_letter
  from_letter-sound m behind h y a l lt = go (sol (push 4 k y a)) refl (eqb (push 4 k y a) to) refl
    where
      go : (p : Bool) → sol (push 4 k y a) ≡ p → (q : Bool) → eqb (push 4 k y a) to ≡ q
          → Sound k sol to (suc m) y (from_letter k sol to budget behind y a l)
      go false e q f = rw (e, from_letter) (λ bs s. absurd (tried-found bs s))
      go true e true f =
          let o = moved y a lt e in
          let t : push 4 k y a ≡ to = eqb-true (push 4 k y a) to f in
          let c : Chain k sol y (letter a ∷ []) to = subst (λ (z : ℕ). Chain k sol y (letter a ∷ []) z) t (arrive o) in
          rw (e, from_letter, f)
          (λ bs s. subst (λ (x : List ℕ). Chain k sol y x to × (length x ≤ suc m)) (same-found (letter a ∷ []) bs s) (c, omega arith))
      go true e false f = rw (e, from_letter, f) (before-sound m y a (moved y a lt e) (behind (push 4 k y a) l) (h (push 4 k y a) l))

  pub sound : (m y l : ℕ) → Sound k sol to m y (from_kmer k sol to budget m y l)
  unfolding from_kmer
  sound zero y l = λ bs e. absurd (tried-found bs e)
  sound (suc m) y l = go (sound m) (ltb (budget - l) cost) refl
    where
      go : ((z u : ℕ) → Sound k sol to m z (from_kmer k sol to budget m z u)) → (b : Bool) → ltb (budget - l) cost ≡ b
          → Sound k sol to (suc m) y (from_kmer k sol to budget (suc m) y l)
      go i true e = rw (e, from_kmer) (λ bs s. absurd (stopped-found bs s))
      go i false e =
          rw (e, from_kmer)
          (in_order-sound k sol to (suc m) y (from_letter k sol to budget (from_kmer k sol to budget m) y)
          (from_letter-sound m (from_kmer k sol to budget m) i y) 4 0 (l + cost) (omega arith))

-- ---- where all is tried there is no chain

-- Where all was tried, no chain of at most m moves leads from y to the end.
abbrev pub Complete : (k : ℕ) → (ℕ → Bool) → ℕ → ℕ → ℕ → Counted End → Type 0
Complete k sol to m y r = r.answer ≡ tried → (bs : List ℕ) → Chain k sol y bs to → length bs ≤ m → ⊥

go_on-tried : (r : Counted End) (more : ℕ → Counted End) → (go_on r more).answer ≡ tried → (r.answer ≡ tried) × ((more r.lookups).answer ≡ tried)
unfolding go_on
go_on-tried r more h = go r.answer refl
  where
    go : (e : End) → r.answer ≡ e → (r.answer ≡ tried) × ((more r.lookups).answer ≡ tried)
    go (found bs) e = absurd (found-tried bs (sym e ∙ (rw (e, go_on) at h)))
    go tried e = (e, rw (e, go_on) at h)
    go stopped e = absurd (stopped-tried (sym e ∙ (rw (e, go_on) at h)))

-- each letter was tried
in_order-tried : (look : ℕ → ℕ → Counted End) (n a l : ℕ) → (in_order look n a l).answer ≡ tried
    → (b : ℕ) → a ≤ b → b < a + n → (u : ℕ) × ((look b u).answer ≡ tried)
unfolding in_order
in_order-tried look zero a l h b le lt = absurd (omega arith)
in_order-tried look (suc n) a l h b le lt =
    let t = go_on-tried (look a l) (in_order look n (suc a)) h in
    go (λ le'. in_order-tried look n (suc a) (look a l).lookups t.1 b le' (omega arith)) t.0 (eqb a b) refl
  where
    go : (suc a ≤ b → (u : ℕ) × ((look b u).answer ≡ tried)) → (look a l).answer ≡ tried → (q : Bool) → eqb a b ≡ q → (u : ℕ) × ((look b u).answer ≡ tried)
    go i t true e = (l, subst (λ (c : ℕ). (look c l).answer ≡ tried) (eqb-true a b e) t)
    go i t false e = let n = eqb-false a b e in i (omega arith)

before-tried : (a : ℕ) (e : End) → before a e ≡ tried → e ≡ tried
unfolding before
before-tried a (found bs) h = absurd (found-tried (letter a ∷ bs) h)
before-tried a tried h = refl
before-tried a stopped h = absurd (stopped-tried h)

module _ (k : ℕ) (sol : ℕ → Bool) (to budget : ℕ) where
  -- a letter to a solid successor that is tried: it is not the end, and behind it all is tried
  from_letter-tried : (behind : ℕ → ℕ → Counted End) (y a l : ℕ) → sol (push 4 k y a) ≡ true → (from_letter k sol to budget behind y a l).answer ≡ tried
      → (push 4 k y a ≡ to → ⊥) × ((behind (push 4 k y a) l).answer ≡ tried)
  unfolding from_letter
  from_letter-tried behind y a l e h = go (eqb (push 4 k y a) to) refl
    where
      go : (q : Bool) → eqb (push 4 k y a) to ≡ q → (push 4 k y a ≡ to → ⊥) × ((behind (push 4 k y a) l).answer ≡ tried)
      go true f = absurd (found-tried (letter a ∷ []) (rw (e, from_letter, f) at h))
      go false f = (eqb-false (push 4 k y a) to f, before-tried a (behind (push 4 k y a) l).answer (rw (e, from_letter, f) at h))

  pub complete : (m y l : ℕ) → Complete k sol to m y (from_kmer k sol to budget m y l)
  unfolding from_kmer
  complete zero y l h bs c lt = absurd (omega (arith, chain_length c))
  complete (suc m) y l h bs c lt = go (complete m) (ltb (budget - l) cost) refl
    where
      look : ℕ → ℕ → Counted End
      look = from_letter k sol to budget (from_kmer k sol to budget m) y

      at : (b : ℕ) → b < 4 → (in_order look 4 0 (l + cost)).answer ≡ tried → (u : ℕ) × ((look b u).answer ≡ tried)
      at b b_lt t = in_order-tried look 4 0 (l + cost) t b (omega arith) (omega arith)

      over : ((z u : ℕ) → Complete k sol to m z (from_kmer k sol to budget m z u)) → (in_order look 4 0 (l + cost)).answer ≡ tried
          → (cs : List ℕ) → Chain k sol y cs to → length cs ≤ suc m → ⊥
      over i t cs (arrive o) lt =
          let w = at o.by o.by_lt t in
          (from_letter-tried (from_kmer k sol to budget m) y o.by w.0 (sym (ap sol o.is) ∙ o.solid_found) w.1).0 (sym o.is)
      over i t cs (further {z = z} {bs = ds} o d) lt =
          let w = at o.by o.by_lt t in
          let s = (from_letter-tried (from_kmer k sol to budget m) y o.by w.0 (sym (ap sol o.is) ∙ o.solid_found) w.1).1 in
          i (push 4 k y o.by) w.0 s ds (subst (λ (x : ℕ). Chain k sol x ds to) o.is d) (omega arith)

      go : ((z u : ℕ) → Complete k sol to m z (from_kmer k sol to budget m z u)) → (b : Bool) → ltb (budget - l) cost ≡ b → ⊥
      go i true e = stopped-tried (rw (e, from_kmer) at h)
      go i false e = over i (rw (e, from_kmer) at h) bs c lt
