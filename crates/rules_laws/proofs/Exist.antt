-- One and Two: what an attempt costs, and what holds of the mend that it gives.
use Prim.Native.Nat.{ℕ, suc, ◌+◌, ◌*◌, ◌≤◌}
use native.Mathlib.Omega.{arith}
use native.Mathlib.Nat.{le_trans}
use borrow.Author.Tests.{eqb-true}
use mathlib.Core.Path.{◌≡◌, refl, sym, ap, ◌∙◌, subst}
use mathlib.Core.Bool.{Bool, true, false}
use mathlib.Core.Option.{Option, none, some, some-injective, none-ne-some}
use mathlib.Core.List.{List, [], ◌∷◌}
use lib.ListN.{length, take, drop, length-take}
use lib.Dec.{ltb, eqb}
use Rattle.rules.specs.Letters.{Kmer, drop_last, add, add_all, code, last, in_place}
use Rattle.rules.specs.Counted.{after, refuse, give, ◌>>◌}
use Rattle.rules.specs.Scan.{ask, is_solid, not_solid, sole, alternative}
use Rattle.rules.specs.Exist.{Mend, Scenario, row, cons, one, with, two, solid_run, score, keep, tried, kept, one_more, one_more_of, choose, exist}
use Rattle.rules.specs.Graph.{All, end, also}
use Rattle.rules_laws.proofs.Kmer.{last_one, last-two}
use Rattle.rules_laws.proofs.Counted.{bind-cost, bind-some, then-cost}
use Rattle.rules_laws.proofs.Scan.{only-all, ask-cost, sole-is, sole-cost, is_solid-cost, not_solid-cost}

-- All, for a list that is written out: a tuple
abbrev pub Each : {A : Type 0} → (A → Type 0) → List A → Type 0
Each P [] = Unit {0}
Each P (a ∷ l) = P a × Each P l

pub all_of : {A : Type 0} (P : A → Type 0) (l : List A) → Each P l → All P l
all_of P [] h = end
all_of P (a ∷ l) h = also h.0 (all_of P l h.1)

cons-length : (o : Option Mend) (ms : List Mend) → length (cons o ms) ≤ suc (length ms)
unfolding cons
cons-length none ms = omega arith
cons-length (some m) ms = omega arith

cons-all : (P : Mend → Type 0) (o : Option Mend) (ms : List Mend) → ((m : Mend) → o ≡ some m → P m) → All P ms → All P (cons o ms)
unfolding cons
cons-all P none ms h a = a
cons-all P (some m) ms h a = also (h m refl) a

module _ (k : ℕ) (sol : ℕ → Bool) where
  solid_run-cost : (y : Kmer) (bs : List ℕ) → (solid_run k sol y bs).lookups ≤ length bs
  unfolding solid_run
  solid_run-cost y [] = omega arith
  solid_run-cost y (b ∷ bs) = go (solid_run-cost z bs) (ask sol z).answer refl
    where
      z : Kmer
      z = add k y (code b)

      go : (solid_run k sol z bs).lookups ≤ length bs → (t : Bool) → (ask sol z).answer ≡ t → (solid_run k sol y (b ∷ bs)).lookups ≤ suc (length bs)
      go i true e = rw (e, solid_run) (omega (arith, ask-cost sol z))
      go i false e = rw (e, solid_run) (omega (arith, ask-cost sol z))

  module _ (c : ℕ) (s : List ℕ) where
    -- ---- costs

    score-cost : (o : ℕ) (t : Kmer) → (score k sol c s o t).lookups ≤ 1 + c
    unfolding score after
    score-cost o t = go (ask sol t).answer refl (ltb (length s) (o + c)) refl
      where
        go : (p : Bool) → (ask sol t).answer ≡ p → (q : Bool) → ltb (length s) (o + c) ≡ q → (score k sol c s o t).lookups ≤ 1 + c
        go true e true f = rw (e, score, f) (omega (arith, ask-cost sol t))
        go true e false f = rw (e, score, f) (omega (arith, ask-cost sol t, solid_run-cost t (take c (drop o s)), length-take c (drop o s)))
        go false e q f = rw (e, score) (omega (arith, ask-cost sol t))

    tried-cost : (sc : Scenario) → (tried k sol c s sc).lookups ≤ sc.trial.lookups + (1 + c)
    unfolding tried refuse keep
    tried-cost sc = go (ltb (length s) sc.least) refl
      where
        go : (q : Bool) → ltb (length s) sc.least ≡ q → (tried k sol c s sc).lookups ≤ sc.trial.lookups + (1 + c)
        go true f = rw (f, tried) (omega arith)
        go false f = rw (f, tried) (bind-cost sc.trial (keep k sol c s sc) (1 + c) (λ t. score-cost sc.o t))

    -- all that the scenarios can cost
    bill : List Scenario → ℕ
    bill [] = 0
    bill (sc ∷ scs) = sc.trial.lookups + (1 + c) + bill scs

    kept-cost : (scs : List Scenario) → (kept k sol c s scs).lookups ≤ bill scs
    unfolding kept bill
    kept-cost [] = omega arith
    kept-cost (sc ∷ scs) = omega (arith, tried-cost sc, kept-cost scs)

    kept-length : (scs : List Scenario) → length (kept k sol c s scs).answer ≤ length scs
    unfolding kept
    kept-length [] = omega arith
    kept-length (sc ∷ scs) = omega (arith, cons-length (tried k sol c s sc).answer (kept k sol c s scs).answer, kept-length scs)

    one_more-cost : (y : Kmer) (m : Mend) → (one_more k sol c s y m).lookups ≤ 1
    unfolding one_more refuse give
    one_more-cost y m = go (ltb (c + m.resume + 1) (length s)) refl
      where
        go : (q : Bool) → ltb (c + m.resume + 1) (length s) ≡ q → (one_more k sol c s y m).lookups ≤ 1
        go true f =
            let z = add_all k (in_place k y m.letters) (take (c + 1) (drop m.resume s)) in
            rw (f, one_more) (le_trans (then-cost (is_solid k sol z) (give m)) (omega (arith, is_solid-cost k sol z)))
        go false f = rw (f, one_more) (omega arith)

    one_more_of-cost : (y : Kmer) (ms : List Mend) → (one_more_of k sol c s y ms).lookups ≤ length ms
    unfolding one_more_of
    one_more_of-cost y [] = omega arith
    one_more_of-cost y (m ∷ ms) = omega (arith, one_more-cost y m, one_more_of-cost y ms)

    choose-cost : (y : Kmer) (ms : List Mend) → (choose k sol c s y ms).lookups ≤ length ms
    unfolding choose refuse give
    choose-cost y [] = omega arith
    choose-cost y (m ∷ []) = omega arith
    choose-cost y (m ∷ m' ∷ ms) = one_more_of-cost y (m ∷ m' ∷ ms)

    -- an attempt costs 4 for its start, its scenarios, and one base more for each
    exist-cost : (scenarios : Kmer → List ℕ → List Scenario) (l : ℕ) (y : Kmer)
        → ((x : Kmer) → bill (scenarios x s) + length (scenarios x s) ≤ l) → (exist k sol c s scenarios y).lookups ≤ 4 + l
    unfolding exist alternative after
    exist-cost scenarios l y h =
        le_trans
        (bind-cost (alternative k sol y) _ l
        (λ x. omega (arith, kept-cost (scenarios x s), kept-length (scenarios x s), choose-cost y (kept k sol c s (scenarios x s)).answer, h x)))
        (omega (arith, sole-cost k sol (drop_last y)))

    pub one-cost : (y : Kmer) → (exist k sol c s (one k sol) y).lookups ≤ 10 + 3 * c
    unfolding one row bill give
    one-cost y = le_trans (exist-cost (one k sol) (6 + 3 * c) y (λ x. omega arith)) (omega arith)

    pub two-cost : (y : Kmer) → (exist k sol c s (two k sol) y).lookups ≤ 67 + 13 * c
    unfolding two row bill give
    two-cost y = le_trans (exist-cost (two k sol) (63 + 13 * c) y bound) (omega arith)
      where
        bound : (x : Kmer) → bill (two k sol x s) + length (two k sol x s) ≤ 63 + 13 * c
        bound x =
            let x1 = with k sol x s 1 in
            let x12 = with k sol x1 s 2 in
            omega (
              arith,
              sole-cost k sol x,
              sole-cost k sol x1,
              sole-cost k sol (with k sol x s 2),
              sole-cost k sol (with k sol x s 0),
              is_solid-cost k sol (with k sol x s 3),
              is_solid-cost k sol x1,
              not_solid-cost k sol x1,
              not_solid-cost k sol x12,
              then-cost (not_solid k sol x1) (sole k sol x),
              then-cost (is_solid k sol x1 >> not_solid k sol x12) (sole k sol x1),
              then-cost (is_solid k sol x1) (not_solid k sol x12),
            )

    -- ---- what holds of every scenario's mend holds of the attempt's

    -- of a scenario's mend, where its tried k-mer scores c
    unfoldable pub Kept : (Mend → Type 0) → Scenario → Type 0
    Kept P sc =
        (t : Kmer) → sc.trial.answer ≡ some t → (score k sol c s sc.o t).answer ≡ c → P (record { letters = sc.letters t; resume = sc.r; on = t ∷ [] })

    keep_some : (P : Mend → Type 0) (sc : Scenario) (t : Kmer) (m : Mend)
        → ((score k sol c s sc.o t).answer ≡ c → P (record { letters = sc.letters t; resume = sc.r; on = t ∷ [] }))
        → (keep k sol c s sc t).answer ≡ some m → P m
    unfolding keep
    keep_some P sc t m h e = go (eqb (score k sol c s sc.o t).answer c) refl
      where
        go : (q : Bool) → eqb (score k sol c s sc.o t).answer c ≡ q → P m
        go true f = subst P (some-injective _ m (rw (f, keep) at e)) (h (eqb-true _ c f))
        go false f = absurd (none-ne-some m (rw (f, keep) at e))

    tried-some : (P : Mend → Type 0) (sc : Scenario) → Kept P sc → (m : Mend) → (tried k sol c s sc).answer ≡ some m → P m
    unfolding tried Kept refuse
    tried-some P sc h m e = go (ltb (length s) sc.least) refl
      where
        go : (q : Bool) → ltb (length s) sc.least ≡ q → P m
        go true f = absurd (none-ne-some m (rw (f, tried) at e))
        go false f =
            let w = bind-some sc.trial (keep k sol c s sc) m (rw (f, tried) at e) in
            keep_some P sc w.0 m (h w.0 w.1) w.2

    kept-all : (P : Mend → Type 0) (scs : List Scenario) → All (Kept P) scs → All P (kept k sol c s scs).answer
    unfolding kept
    kept-all P [] h = end
    kept-all P (sc ∷ scs) (also h hs) =
        cons-all P (tried k sol c s sc).answer (kept k sol c s scs).answer (tried-some P sc h) (kept-all P scs hs)

    one_more-some : (P : Mend → Type 0) (y : Kmer) (m m' : Mend) → P m → (one_more k sol c s y m).answer ≡ some m' → P m'
    unfolding one_more refuse give ◌>>◌
    one_more-some P y m m' h e = go (ltb (c + m.resume + 1) (length s)) refl
      where
        go : (q : Bool) → ltb (c + m.resume + 1) (length s) ≡ q → P m'
        go true f =
            let w = bind-some (is_solid k sol (add_all k (in_place k y m.letters) (take (c + 1) (drop m.resume s)))) (λ a. give m) m' (rw (f, one_more) at e) in
            subst P (some-injective m m' w.2) h
        go false f = absurd (none-ne-some m' (rw (f, one_more) at e))

    one_more_of-all : (P : Mend → Type 0) (y : Kmer) (ms : List Mend) → All P ms → All P (one_more_of k sol c s y ms).answer
    unfolding one_more_of
    one_more_of-all P y [] h = end
    one_more_of-all P y (m ∷ ms) (also h hs) =
        cons-all P (one_more k sol c s y m).answer (one_more_of k sol c s y ms).answer (λ m' e. one_more-some P y m m' h e) (one_more_of-all P y ms hs)

    choose-all : (P : Mend → Type 0) (y : Kmer) (ms : List Mend) (m : Mend) → All P ms → (choose k sol c s y ms).answer ≡ some m → P m
    unfolding choose refuse give
    choose-all P y [] m h e = absurd (none-ne-some m e)
    choose-all P y (x ∷ []) m (also h hs) e = subst P (some-injective x m e) h
    choose-all P y (x ∷ x' ∷ ms) m h e =
        only-all P (one_more_of k sol c s y (x ∷ x' ∷ ms)).answer m (one_more_of-all P y (x ∷ x' ∷ ms) h) e

    pub exist-some : (P : Mend → Type 0) (scenarios : Kmer → List ℕ → List Scenario) (y : Kmer) (m : Mend)
        → ((x : Kmer) → (alternative k sol y).answer ≡ some x → All (Kept P) (scenarios x s)) → (exist k sol c s scenarios y).answer ≡ some m → P m
    unfolding exist after
    exist-some P scenarios y m h e =
        let w = bind-some (alternative k sol y) _ m e in
        choose-all P y (kept k sol c s (scenarios w.0 s)).answer m (kept-all P (scenarios w.0 s) (h w.0 w.1)) w.2

-- ---- after a mend that takes no base, the base is good in its place

module _ (j : ℕ) (sol : ℕ → Bool) (c' : ℕ) where
  abbrev k : ℕ
  k = suc j

  abbrev c : ℕ
  c = suc c'

  -- a score of c from o = 0 says that the bad base is good behind the tried k-mer
  score-first : (b : ℕ) (s : List ℕ) (t : Kmer) → (score k sol c (b ∷ s) 0 t).answer ≡ c → (ask sol (add k t (code b))).answer ≡ true
  unfolding score solid_run after
  score-first b s t e = go (ask sol t).answer refl (ltb (suc (length s)) (0 + c)) refl (ask sol (add k t (code b))).answer refl
    where
      go : (p : Bool) → (ask sol t).answer ≡ p → (q : Bool) → ltb (suc (length s)) (0 + c) ≡ q → (r : Bool) → (ask sol (add k t (code b))).answer ≡ r
          → (ask sol (add k t (code b))).answer ≡ true
      go p e1 q e2 true e3 = e3
      go false e1 q e2 false e3 = absurd (let z : 0 ≡ c = rw (e1, score) at e in omega arith)
      go true e1 true e2 false e3 = absurd (let z : 0 ≡ c = rw (e1, score, e2) at e in omega arith)
      go true e1 false e2 false e3 = absurd (let z : 0 ≡ c = rw (e1, score, e2, e3, solid_run) at e in omega arith)

  -- what is asked of a mend at base b and bad k-mer y
  abbrev Stays : ℕ → Kmer → Mend → Type 0
  Stays b y m = m.resume ≡ 0 → (ask sol (add k (in_place k y m.letters) (code b))).answer ≡ true

  pub one-stays : (b : ℕ) (s : List ℕ) (y : Kmer) (m : Mend) → (exist k sol c (b ∷ s) (one k sol) y).answer ≡ some m
      → m.resume ≡ 0 → (ask sol (add k (in_place k y m.letters) (code b))).answer ≡ true
  unfolding one row Kept give alternative in_place
  one-stays b s y m e = exist-some k sol c (b ∷ s) (Stays b y) (one k sol) y m each e
    where
      -- D alone resumes at 0
      each : (x : Kmer) → (alternative k sol y).answer ≡ some x → All (Kept k sol c (b ∷ s) (Stays b y)) (one k sol x (b ∷ s))
      each x a =
          let w = sole-is k sol (drop_last y) x a in
          all_of (Kept k sol c (b ∷ s) (Stays b y)) (one k sol x (b ∷ s)) (
            λ t p q z. absurd (omega arith),
            (
              λ t p q z. absurd (omega arith),
              (
                λ t p q z.
                    let back : add_all k (drop_last y) (last 1 x) ≡ t =
                    ap (λ (v : Kmer). add_all k (drop_last y) (last 1 v)) w.is
                    ∙ last_one j (drop_last y) w.by w.by_lt ∙ sym w.is ∙ some-injective x t p in
                    subst (λ (v : Kmer). (ask sol (add k v (code b))).answer ≡ true) (sym back) (score-first b s t q),
                tt,
              ),
            ),
          )

  pub two-stays : (b : ℕ) (s : List ℕ) (y : Kmer) (m : Mend) → (exist k sol c (b ∷ s) (two k sol) y).answer ≡ some m
      → m.resume ≡ 0 → (ask sol (add k (in_place k y m.letters) (code b))).answer ≡ true
  unfolding two row Kept alternative in_place
  two-stays b s y m e = exist-some k sol c (b ∷ s) (Stays b y) (two k sol) y m each e
    where
      -- DD alone resumes at 0
      each : (x : Kmer) → (alternative k sol y).answer ≡ some x → All (Kept k sol c (b ∷ s) (Stays b y)) (two k sol x (b ∷ s))
      each x a =
          let w = sole-is k sol (drop_last y) x a in
          all_of (Kept k sol c (b ∷ s) (Stays b y)) (two k sol x (b ∷ s)) (
            λ t p q z. absurd (omega arith),
            (
              λ t p q z. absurd (omega arith),
              (
                λ t p q z. absurd (omega arith),
                (
                  λ t p q z. absurd (omega arith),
                  (
                    λ t p q z.
                        let v = sole-is k sol x t p in
                        let xt : t ≡ add k (add k (drop_last y) w.by) v.by = v.is ∙ ap (λ (x' : Kmer). add k x' v.by) w.is in
                        let back : add_all k (drop_last y) (last 2 t) ≡ t =
                        ap (λ (t' : Kmer). add_all k (drop_last y) (last 2 t')) xt
                        ∙ last-two j (drop_last y) w.by v.by w.by_lt v.by_lt ∙ sym xt in
                        subst (λ (v' : Kmer). (ask sol (add k v' (code b))).answer ≡ true) (sym back) (score-first b s t q),
                    (
                      λ t p q z. absurd (omega arith),
                      (
                        λ t p q z. absurd (omega arith),
                        (
                          λ t p q z. absurd (omega arith),
                          (
                            λ t p q z. absurd (omega arith),
                            (λ t p q z. absurd (omega arith), (λ t p q z. absurd (omega arith), (λ t p q z. absurd (omega arith), (λ t p q z. absurd (omega arith), tt)))),
                          ),
                        ),
                      ),
                    ),
                  ),
                ),
              ),
            ),
          )
