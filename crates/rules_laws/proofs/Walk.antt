-- Graph's walk: it accepts exactly when a chain exists, and it makes fewer than 6n moves.
use Prim.Native.Nat.{ℕ, zero, suc, ◌+◌, ◌*◌, ◌-◌, ◌≤◌, ◌<◌, max}
use native.Mathlib.Omega.{arith}
use native.Mathlib.Decide.{dec_le}
use native.Mathlib.Nat.{suc-add, zero-add}
use borrow.Author.Tests.{eqb-true, eqb-false}
use mathlib.Core.Path.{◌≡◌, refl, sym, ap, ◌∙◌, subst}
use mathlib.Core.Logic.{◌⊎◌, inl, inr, ⊎_elim}
use mathlib.Core.Bool.{Bool, true, false, ◌||◌, true≢false, false≢true}
use mathlib.Core.Option.{Option, none, some, some-injective, none-ne-some}
use mathlib.Core.List.{List, [], ◌∷◌, ◌++◌, append_assoc}
use lib.ListN.{length}
use lib.Dec.{eqb}
use Rattle.rules.specs.Letters.{Kmer, same, met}
use Rattle.rules.specs.Counted.{refuse}
use Rattle.rules.specs.Scan.{ask, sole}
use Rattle.rules.specs.Graph.{All, end, also, Distinct, end-distinct, also-distinct, OnlySuccessor, Moves, move, more, Chain, Walk, start, moved, halt, walk, walk_from}
use Rattle.rules_laws.proofs.Scan.{ask-known, sole-is, sole-found, sole-lt, sole-cost}
use Rattle.rules_laws.proofs.Kmer.{same_true, same_self, same-ne, same_false}
use Rattle.rules_laws.proofs.Few.{or_right, or-false, SolidKmer, Few}

-- ---- the way to the first t

-- t stands at the end of zs, and nowhere else
data First (t : Kmer) : List Kmer → Type 0 where
  first_one : First t (t ∷ [])
  first_more : {z : Kmer} {zs : List Kmer} → (z ≡ t → ⊥) → First t zs → First t (z ∷ zs)

module _ (k : ℕ) (sol : ℕ → Bool) where
  moves-solid : {y t : Kmer} {zs : List Kmer} → Moves k sol y zs t → All (λ z. (ask sol z).answer ≡ true) zs
  moves-solid (move o) = also o.solid_found end
  moves-solid (more o m) = also o.solid_found (moves-solid m)

  -- two only successors are one
  one-successor : {y z z' : Kmer} → OnlySuccessor k sol y z → OnlySuccessor k sol y z' → z ≡ z'
  one-successor {y} {z} {z'} o o' = some-injective z z' (sym (sole-found k sol y z o) ∙ sole-found k sol y z' o')

  -- two ways from y to the first t are one way
  one_way : {y t : Kmer} {zs vs : List Kmer} → Moves k sol y zs t → First t zs → Moves k sol y vs t → First t vs → length zs ≡ length vs
  one_way (move o) f (move o') g = refl
  one_way (move o) f (more o' m) (first_more n g) = absurd (n (one-successor o' o))
  one_way (more o m) (first_more n f) (move o') g = absurd (n (one-successor o o'))
  one_way (more {t = t} o m) (first_more n f) (more {zs = zs'} o' m') (first_more n' g) =
      ap suc (one_way m f (subst (λ (w : Kmer). Moves k sol w zs' t) (one-successor o' o) m') g)
  one_way (move {y = y} {t = t} o) f (more o' m) first_one = elim m [ ]
  one_way {vs = vs} (more {y = y} {z = z} o m) first_one _ g = elim m [ ]
  one_way (more {y = y} {z = z} {t = t} {zs = zs} o m) (first_more n f) (more o' m') first_one = elim m' [ ]

  record Suffix (z t : Kmer) (l : ℕ) : Type 0 where
    rest : List Kmer
    moves : Moves k sol z rest t
    first : First t rest
    shorter : length rest < l

  suffix : {y t : Kmer} {zs : List Kmer} → Moves k sol y zs t → First t zs → (z : Kmer) → met z zs ≡ true → (z ≡ t → ⊥) → Suffix z t (length zs)
  unfolding met
  suffix (move {t = t} o) f z a n = go (same z t) refl a
    where
      go : (b : Bool) → same z t ≡ b → b || false ≡ true → Suffix z t 1
      go true e h = absurd (n (same_true z t e))
      go false e h = absurd (false≢true h)
  suffix (more {z = z'} {t = t} {zs = zs} o m) (first_more n' f) z a n = go (λ h. suffix m f z h n) (same z z') refl a
    where
      go : (met z zs ≡ true → Suffix z t (length zs)) → (b : Bool) → same z z' ≡ b → b || met z zs ≡ true → Suffix z t (suc (length zs))
      go i true e h = record { rest = zs; moves = subst (λ (w : Kmer). Moves k sol w zs t) (sym (same_true z z' e)) m; first = f; shorter = omega arith }
      go i false e h = let w = i h in record { rest = w.rest; moves = w.moves; first = w.first; shorter = omega (arith, w.shorter) }
  suffix (more {y = y} {z = z'} o m) first_one z a n = elim m [ ]

  -- the way to the first t meets nothing twice
  distinct-first : {y t : Kmer} {zs : List Kmer} → (y ≡ t → ⊥) → Moves k sol y zs t → First t zs → Distinct (y ∷ zs)
  unfolding met
  distinct-first {y} {t} n (move o) f = also-distinct {y = y} {ys = t ∷ []} (rw (same-ne y t n)) (also-distinct refl end-distinct)
  distinct-first {y} {t} n (more {z = z} {zs = zs} o m) (first_more n' f) = go (distinct-first n' m f) (met y (z ∷ zs)) refl
    where
      go : Distinct (z ∷ zs) → (b : Bool) → met y (z ∷ zs) ≡ b → Distinct (y ∷ z ∷ zs)
      go d true a =
          let w = suffix (more o m) (first_more n' f) y a n in
          absurd (omega (arith, w.shorter, one_way (more o m) (first_more n' f) w.moves w.first))
      go d false a = also-distinct a d
  distinct-first n (more {y = y} {z = z} o m) first_one = elim m [ ]

  last-met : {y t : Kmer} {zs : List Kmer} → Moves k sol y zs t → met t zs ≡ true
  unfolding met
  last-met (move {t = t} o) = rw (same_self t (ask-known sol t o.solid_found))
  last-met (more {z = z} {t = t} o m) = or_right (same t z) (last-met m)

  -- ---- the walk, case by case

  module _ (f : ℕ) (t : Kmer) (w : Walk) where
    abbrev cost : ℕ
    cost = (sole k sol w.at).lookups

    walk-dead : (sole k sol w.at).answer ≡ none → walk k sol (suc f) t w ≡ halt w cost
    unfolding walk
    walk-dead e = rw (e, walk)

    module _ (y : Kmer) (e : (sole k sol w.at).answer ≡ some y) where
      walk-hit : same y t ≡ true
          → walk k sol (suc f) t w ≡ record { answer = some (w.seen ++ (y ∷ [])); lookups = w.lookups + cost }
      unfolding walk
      walk-hit h = rw (e, walk, h)

      walk_loop : same y t ≡ false → same y w.mark ≡ true → walk k sol (suc f) t w ≡ halt w cost
      unfolding walk
      walk_loop h g = rw (e, walk, h, g)

      walk-goes : same y t ≡ false → same y w.mark ≡ false → walk k sol (suc f) t w ≡ walk k sol f t (moved w y cost)
      unfolding walk
      walk-goes h g = rw (e, walk, h, g)

moved-moves : (w : Walk) (y : Kmer) (l : ℕ) → (moved w y l).moves ≡ suc w.moves
unfolding moved
moved-moves w y l = refl

-- the mark after a move: set, or kept
record MarkAfter (w : Walk) (y : Kmer) (l : ℕ) : Type 0 where
  marks : ((suc w.moves ≡ w.marks_at) × ((moved w y l).mark ≡ y) × ((moved w y l).marks_at ≡ 2 * w.marks_at))
      ⊎ ((suc w.moves ≡ w.marks_at → ⊥) × ((moved w y l).mark ≡ w.mark) × ((moved w y l).marks_at ≡ w.marks_at))

marked : (w : Walk) (y : Kmer) (l : ℕ) → MarkAfter w y l
unfolding moved
marked w y l = go (eqb (suc w.moves) w.marks_at) refl
  where
    go : (b : Bool) → eqb (suc w.moves) w.marks_at ≡ b → MarkAfter w y l
    go true e = record { marks = inl (eqb-true _ _ e, rw (e, moved), rw (e, moved) (omega arith)) }
    go false e = record { marks = inr (eqb-false _ _ e, rw (e, moved), rw (e, moved)) }

module _ (k : ℕ) (sol : ℕ → Bool) where
  -- a walk costs 4 at most for each move
  pub walk-cost : (f : ℕ) (t : Kmer) (w : Walk) → (walk k sol f t w).lookups ≤ w.lookups + 4 * f
  unfolding walk halt moved
  walk-cost zero t w = omega arith
  walk-cost (suc f) t w = go (λ y. walk-cost f t (moved w y l)) (sole k sol w.at).answer refl
    where
      l : ℕ
      l = (sole k sol w.at).lookups

      four : l ≤ 4
      four = sole-cost k sol w.at

      go : ((y : Kmer) → (walk k sol f t (moved w y l)).lookups ≤ w.lookups + l + 4 * f)
          → (o : Option Kmer) → (sole k sol w.at).answer ≡ o → (walk k sol (suc f) t w).lookups ≤ w.lookups + 4 * suc f
      go i none g = rw (g, walk) (omega (arith, four))
      go i (some y) g = on (same y t) refl (same y w.mark) refl
        where
          on : (q : Bool) → same y t ≡ q → (r : Bool) → same y w.mark ≡ r → (walk k sol (suc f) t w).lookups ≤ w.lookups + 4 * suc f
          on true e2 r e3 = rw (g, walk, e2) (omega (arith, four))
          on false e2 true e3 = rw (g, walk, e2, e3) (omega (arith, four))
          on false e2 false e3 = rw (g, walk, e2, e3) (omega (arith, four, i y))

  -- a chain is found: the mark is behind
  complete : (f : ℕ) (t : Kmer) (w : Walk) (y : Kmer) (zs : List Kmer) → w.at ≡ y → Moves k sol y zs t → Distinct zs → met w.mark zs ≡ false
      → length zs ≤ f → (walk k sol f t w).answer ≡ some (w.seen ++ zs)
  unfolding met moved
  complete zero t w y (z ∷ zs) e m d a h = absurd (omega arith)
  complete (suc f) t w y (z ∷ []) e (move o) d a h =
      rw (walk-hit k sol f z w z (rw e (sole-found k sol y z o)) (same_self z (ask-known sol z o.solid_found)))
  complete (suc f) t w y (z ∷ zs) e (more o m) (also-distinct nz d) a h =
      let v = moved w z (sole k sol w.at).lookups in
      let q = marked w z (sole k sol w.at).lookups in
      let r = or-false (same w.mark z) (met w.mark zs) a in
      let nt : z ≡ t → ⊥ = λ c. true≢false (sym (last-met k sol m) ∙ ap (λ (c' : Kmer). met c' zs) (sym c) ∙ nz) in
      let nm : z ≡ w.mark → ⊥ = λ c. true≢false (sym (same_self z (ask-known sol z o.solid_found)) ∙ ap (λ (c' : Kmer). same c' z) c ∙ r.0) in
      let behind : met v.mark zs ≡ false =
      ⊎_elim (λ c. ap (λ (u : Kmer). met u zs) c.1 ∙ nz) (λ c. ap (λ (u : Kmer). met u zs) c.1 ∙ r.1) q.marks in
      let i = complete f t v z zs refl m d behind (omega arith) in
      rw (walk-goes k sol f t w z (rw e (sole-found k sol y z o)) (same-ne z t nt) (same-ne z w.mark nm))
      (i ∙ ap {B = Option (List Kmer)} some (append_assoc w.seen (z ∷ []) zs))
  complete zero t w y [] e m d a h = elim m [ ]
  complete (suc f) t w y [] e m d a h = elim m [ ]

  -- what is accepted is the way to the first t
  record Found (t : Kmer) (w : Walk) (ls : List Kmer) : Type 0 where
    via : List Kmer
    moves : Moves k sol w.at via t
    first : First t via
    all : ls ≡ w.seen ++ via

  sound : (f : ℕ) (t : Kmer) (w : Walk) (ls : List Kmer) → (walk k sol f t w).answer ≡ some ls → Found t w ls
  unfolding walk halt moved
  sound zero t w ls h = absurd (none-ne-some ls h)
  sound (suc f) t w ls h = go (λ v. sound f t v ls) (sole k sol w.at).answer refl
    where
      go : ((v : Walk) → (walk k sol f t v).answer ≡ some ls → Found t v ls)
          → (o : Option Kmer) → (sole k sol w.at).answer ≡ o → Found t w ls
      go ih none e = absurd (none-ne-some ls (rw (walk-dead k sol f t w e) at h))
      go ih (some y) e = on (same y t) refl (same y w.mark) refl
        where
          o : OnlySuccessor k sol w.at y
          o = sole-is k sol w.at y e

          on : (p : Bool) → same y t ≡ p → (q : Bool) → same y w.mark ≡ q → Found t w ls
          on true e1 q e2 =
              let yt = same_true y t e1 in
              record {
                via = t ∷ [];
                moves = move (subst (λ (z : Kmer). OnlySuccessor k sol w.at z) yt o);
                first = first_one;
                all = sym (some-injective (w.seen ++ (y ∷ [])) ls (rw (walk-hit k sol f t w y e e1) at h))
                    ∙ ap (λ (z : Kmer). w.seen ++ (z ∷ [])) yt;
              }
          on false e1 true e2 = absurd (none-ne-some ls (rw (walk_loop k sol f t w y e e1 e2) at h))
          on false e1 false e2 =
              let i = ih (moved w y (sole k sol w.at).lookups) (rw (walk-goes k sol f t w y e e1 e2) at h) in
              record {
                via = y ∷ i.via;
                moves = more o i.moves;
                first = first_more (same_false y t (ask-known sol y o.solid_found) e1) i.first;
                all = i.all ∙ append_assoc w.seen (y ∷ []) i.via;
              }

-- ---- from x on, by sole successors

-- the sole successor, or the k-mer itself where there is none
after : Option Kmer → Kmer → Kmer
after none y = y
after (some z) y = z

-- at y, the i-th k-mer from x
module _ (k n : ℕ) (sol : ℕ → Bool) (few : Few k n sol) (x : Kmer) (good : SolidKmer k sol x) where
  it : ℕ → Kmer
  unfolding after
  it zero = x
  it (suc i) = after (sole k sol (it i)).answer (it i)

  it-shift : (a b e : ℕ) → it a ≡ it b → it (e + a) ≡ it (e + b)
  unfolding it
  it-shift a b zero h = rw (zero-add a, zero-add b) h
  it-shift a b (suc e) h = rw (suc-add e a, suc-add e b, it-shift a b e h)

  it-good : (i : ℕ) → SolidKmer k sol (it i)
  unfolding it after SolidKmer
  it-good zero = good
  it-good (suc i) = go (it-good i) (sole k sol (it i)).answer refl
    where
      go : SolidKmer k sol (it i) → (o : Option Kmer) → (sole k sol (it i)).answer ≡ o → SolidKmer k sol (after o (it i))
      go g none e = g
      go g (some z) e = (sole-lt k sol (it i) z e, (sole-is k sol (it i) z e).solid_found)

  -- it i, .., it 0
  firsts : ℕ → List Kmer
  firsts zero = x ∷ []
  firsts (suc i) = it (suc i) ∷ firsts i

  firsts-length : (i : ℕ) → length (firsts i) ≡ suc i
  unfolding firsts
  firsts-length zero = refl
  firsts-length (suc i) = ap suc (firsts-length i)

  firsts-good : (i : ℕ) → All (SolidKmer k sol) (firsts i)
  unfolding firsts
  firsts-good zero = also good end
  firsts-good (suc i) = also (it-good (suc i)) (firsts-good i)

  find : (z : Kmer) (i : ℕ) → met z (firsts i) ≡ true → (a : ℕ) × (a ≤ i) × (it a ≡ z)
  unfolding firsts met it
  find z zero h = go (same z x) refl h
    where
      go : (t : Bool) → same z x ≡ t → t || false ≡ true → (a : ℕ) × (a ≤ 0) × (it a ≡ z)
      go true e h = (0, omega arith, sym (same_true z x e))
      go false e h = absurd (false≢true h)
  find z (suc i) h = go (find z i) (same z (it (suc i))) refl h
    where
      go : (met z (firsts i) ≡ true → (a : ℕ) × (a ≤ i) × (it a ≡ z)) → (t : Bool) → same z (it (suc i)) ≡ t → t || met z (firsts i) ≡ true
          → (a : ℕ) × (a ≤ suc i) × (it a ≡ z)
      go f true e h = (suc i, omega arith, sym (same_true z (it (suc i)) e))
      go f false e h = let w = f h in (w.0, omega (arith, w.1), w.2)

  Repeat : ℕ → Type 0
  Repeat i = (a : ℕ) × (b : ℕ) × (a < b) × (b ≤ i) × (it a ≡ it b)

  distinct-or : (i : ℕ) → Distinct (firsts i) ⊎ Repeat i
  unfolding firsts Repeat met
  distinct-or zero = inl (also-distinct refl end-distinct)
  distinct-or (suc i) = go (distinct-or i) (met (it (suc i)) (firsts i)) refl
    where
      go : Distinct (firsts i) ⊎ Repeat i → (t : Bool) → met (it (suc i)) (firsts i) ≡ t → Distinct (firsts (suc i)) ⊎ Repeat (suc i)
      go (inl d) true e = let w = find (it (suc i)) i e in inr (w.0, suc i, omega (arith, w.1), omega arith, w.2)
      go (inl d) false e = inl (also-distinct e d)
      go (inr r) t e = inr (r.0, r.1, r.2, omega (arith, r.3), r.4)

  repeat : Repeat (2 * n)
  unfolding Few
  repeat = go (distinct-or (2 * n))
    where
      go : Distinct (firsts (2 * n)) ⊎ Repeat (2 * n) → Repeat (2 * n)
      go (inl d) = absurd (omega (arith, few (firsts (2 * n)) d (firsts-good (2 * n)), firsts-length (2 * n)))
      go (inr r) = r

  -- from 2n moves on, every k-mer comes again within 2n moves
  period : (q : ℕ) → 2 * n ≤ q → (d : ℕ) × (0 < d) × (d ≤ 2 * n) × (it (d + q) ≡ it q)
  unfolding Repeat
  period q h =
      let r = repeat in
      let a : ℕ = r.0 in
      let b : ℕ = r.1 in
      let e : it ((q - a) + b) ≡ it ((q - a) + a) = it-shift b a (q - a) (sym r.4) in
      let e1 : (q - a) + b ≡ (b - a) + q = omega (arith, r.2, r.3) in
      let e2 : (q - a) + a ≡ q = omega (arith, r.2, r.3) in
      (b - a, omega (arith, r.2), omega (arith, r.3), ap it (sym e1) ∙ e ∙ ap it e2)

  -- ---- exactly when a chain exists

  moves-good : {y t : Kmer} {zs : List Kmer} → Moves k sol y zs t → All (SolidKmer k sol) zs
  unfolding SolidKmer
  moves-good (move {y = y} {t = t} o) = also (sole-lt k sol y t (sole-found k sol y t o), o.solid_found) end
  moves-good (more {y = y} {z = z} o m) = also (sole-lt k sol y z (sole-found k sol y z o), o.solid_found) (moves-good m)

  pub chain-found : (t : Kmer) (c : Chain k sol x t) → (walk_from k n sol t x).answer ≡ some (x ∷ c.via)
  unfolding walk_from start SolidKmer Few
  chain-found t c = go c.distinct
    where
      go : Distinct (x ∷ c.via) → (walk_from k n sol t x).answer ≡ some (x ∷ c.via)
      go (also-distinct nx d) =
          let xt : x ≡ t → ⊥ = λ e. true≢false (sym (last-met k sol c.moves) ∙ ap (λ (u : Kmer). met u c.via) (sym e) ∙ nx) in
          let l = few (x ∷ c.via) c.distinct (also good (moves-good c.moves)) in
          rw (same-ne x t xt, walk_from) (complete k sol (6 * n) t (start x) x c.via refl c.moves d nx (omega arith))

  pub found-chain : (t : Kmer) (ls : List Kmer) → (walk_from k n sol t x).answer ≡ some ls → (c : Chain k sol x t) × (ls ≡ x ∷ c.via)
  unfolding walk_from refuse start SolidKmer
  found-chain t ls h = go (same x t) refl
    where
      go : (b : Bool) → same x t ≡ b → (c : Chain k sol x t) × (ls ≡ x ∷ c.via)
      go true e = absurd (none-ne-some ls (rw (e, walk_from) at h))
      go false e =
          let w = sound k sol (6 * n) t (start x) ls (rw (e, walk_from) at h) in (
            record {
              via = w.via;
              moves = w.moves;
              all_solid = also good.1 (moves-solid k sol w.moves);
              distinct = distinct-first k sol (same_false x t (ask-known sol x good.1) e) w.moves w.first;
            },
            w.all,
          )

  -- ---- the fuel is enough

  -- A walk from x that still goes on: the mark was set by move q, below 4n, and has not come again.
  record Going (w : Walk) : Type 0 where
    q : ℕ
    at_is : it w.moves ≡ w.at
    mark_is : it q ≡ w.mark
    q_le : q ≤ w.moves
    m_lt : w.moves < w.marks_at
    p_is : w.marks_at ≡ max 1 (2 * q)
    q_lt : q < 4 * n
    fresh : (i : ℕ) → q < i → i ≤ w.moves → it i ≡ it q → ⊥

  n_pos : 0 < n
  unfolding met Few
  n_pos = omega (arith, few (x ∷ []) (also-distinct refl end-distinct) (also good end))

  -- at most 6n − 2 moves
  going-bound : (w : Walk) → Going w → w.moves + 2 ≤ 6 * n
  going-bound w i = elim (dec_le (2 * n) i.q) [ yes h ↦ late h | no h ↦ omega (arith, n_pos) ]
    where
      late : 2 * n ≤ i.q → w.moves + 2 ≤ 6 * n
      late h =
          let r = period i.q h in
          elim (dec_le (r.0 + i.q) w.moves)
          [ yes g ↦ absurd (i.fresh (r.0 + i.q) (omega (arith, r.1)) g r.3) | no g ↦ omega (arith, r.2) ]

  it-next : (w : Walk) (y : Kmer) → it w.moves ≡ w.at → (sole k sol w.at).answer ≡ some y → it (suc w.moves) ≡ y
  unfolding it after
  it-next w y a e = rw (a, e)

  going_step : (w : Walk) (y : Kmer) (l : ℕ) → Going w → (sole k sol w.at).answer ≡ some y → (y ≡ w.mark → ⊥) → Going (moved w y l)
  unfolding moved
  going_step w y l i e ne = ⊎_elim set keep (marked w y l).marks
    where
      v : Walk
      v = moved w y l

      nx : it (suc w.moves) ≡ y
      nx = it-next w y i.at_is e

      -- nothing since the mark is the mark, the new k-mer included
      fresh' : (a : ℕ) → i.q < a → a ≤ suc w.moves → it a ≡ it i.q → ⊥
      fresh' a lt le e' =
          elim (dec_le a w.moves) [
            | yes g ↦ i.fresh a lt g e'
            | no g ↦ ne (sym nx ∙ ap it (let z : suc w.moves ≡ a = omega arith in z) ∙ e' ∙ i.mark_is)
          ]

      early : suc w.moves ≡ w.marks_at → i.q < 2 * n
      early s = elim (dec_le (2 * n) i.q) [
        | yes h ↦ (let r = period i.q h in absurd (fresh' (r.0 + i.q) (omega (arith, r.1)) (omega (arith, r.2, i.p_is)) r.3))
        | no h ↦ omega arith
      ]

      set : (suc w.moves ≡ w.marks_at) × (v.mark ≡ y) × (v.marks_at ≡ 2 * w.marks_at) → Going v
      set c =
          record {
            q = suc w.moves;
            at_is = nx;
            mark_is = nx ∙ sym c.1;
            q_le = omega arith;
            m_lt = omega (arith, c.0, c.2);
            p_is = omega (arith, c.0, c.2);
            q_lt = omega (arith, early c.0, c.0, i.p_is, n_pos);
            fresh = λ a lt le e'. omega arith;
          }

      keep : (suc w.moves ≡ w.marks_at → ⊥) × (v.mark ≡ w.mark) × (v.marks_at ≡ w.marks_at) → Going v
      keep c =
          record {
            q = i.q;
            at_is = nx;
            mark_is = i.mark_is ∙ sym c.1;
            q_le = omega (arith, i.q_le);
            m_lt = omega (arith, c.0, c.2, i.m_lt);
            p_is = omega (arith, c.2, i.p_is);
            q_lt = i.q_lt;
            fresh = λ a lt le e'. fresh' a lt le e';
          }

  walk-enough : (f g : ℕ) (t : Kmer) (w : Walk) → Going w → 6 * n ≤ w.moves + f + 1 → 6 * n ≤ w.moves + g + 1 → walk k sol f t w ≡ walk k sol g t w
  unfolding SolidKmer
  walk-enough zero g t w i p q = absurd (omega (arith, going-bound w i))
  walk-enough (suc f) zero t w i p q = absurd (omega (arith, going-bound w i))
  walk-enough (suc f) (suc g) t w i p q = go (walk-enough f g t) (sole k sol w.at).answer refl
    where
      go : ((v : Walk) → Going v → 6 * n ≤ v.moves + f + 1 → 6 * n ≤ v.moves + g + 1 → walk k sol f t v ≡ walk k sol g t v)
          → (o : Option Kmer) → (sole k sol w.at).answer ≡ o → walk k sol (suc f) t w ≡ walk k sol (suc g) t w
      go ih none e = walk-dead k sol f t w e ∙ sym (walk-dead k sol g t w e)
      go ih (some y) e = on (same y t) refl (same y w.mark) refl
        where
          on : (a : Bool) → same y t ≡ a → (b : Bool) → same y w.mark ≡ b → walk k sol (suc f) t w ≡ walk k sol (suc g) t w
          on true e1 b e2 = walk-hit k sol f t w y e e1 ∙ sym (walk-hit k sol g t w y e e1)
          on false e1 true e2 = walk_loop k sol f t w y e e1 e2 ∙ sym (walk_loop k sol g t w y e e1 e2)
          on false e1 false e2 =
              let m = moved-moves w y (sole k sol w.at).lookups in
              let ky = ask-known sol y (sole-is k sol w.at y e).solid_found in
              walk-goes k sol f t w y e e1 e2
              ∙ ih (moved w y (sole k sol w.at).lookups) (going_step w y (sole k sol w.at).lookups i e (same_false y w.mark ky e2)) (omega arith) (omega arith)
              ∙ sym (walk-goes k sol g t w y e e1 e2)

  -- Any fuel from 6n − 1 on gives the same walk: it makes fewer than 6n moves.
  pub walk-fuel : (f : ℕ) (t : Kmer) → 6 * n ≤ f + 1 → walk k sol f t (start x) ≡ walk k sol (6 * n) t (start x)
  unfolding start it
  walk-fuel f t h =
      walk-enough f (6 * n) t (start x)
      (record {
        q = 0;
        at_is = refl;
        mark_is = refl;
        q_le = omega arith;
        m_lt = omega arith;
        p_is = omega arith;
        q_lt = omega (arith, n_pos);
        fresh = λ i lt le e. omega arith;
      })
      (omega arith) (omega arith)
