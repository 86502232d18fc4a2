-- Document 02, W8: what a correction rests on is solid; counts change nothing but the support; and there is a support exactly where a
-- correction was accepted.
use Prim.Native.Nat.{ℕ, zero, suc, ◌+◌, ◌*◌, ◌-◌, ◌≤◌, min}
use native.Mathlib.Omega.{arith}
use borrow.Author.Tests.{ltb-true}
use mathlib.Core.Path.{◌≡◌, refl, sym, ap, ◌∙◌, subst}
use mathlib.Core.Bool.{Bool, true, false}
use mathlib.Core.Option.{Option, none, some, some-injective, none-ne-some}
use mathlib.Core.List.{List, [], ◌∷◌, ◌++◌}
use lib.ListN.{length}
use lib.Dec.{ltb, eqb}
use Rattle.rules.specs.Letters.{Kmer, met}
use Rattle.rules.specs.Counted.{Try, after, give}
use Rattle.rules.specs.Scan.{Scan, ask, sole, alternative, error_len}
use Rattle.rules.specs.Exist.{Mend, Scenario, score, one, exist}
use Rattle.rules.specs.Graph.{All, end, also, graph, chain_mend}
use Rattle.rules.specs.GapSize.{gap, gap_from, gap_size}
use Rattle.rules.specs.Driver.{Pass, State, weaker, weakest, keep_base, mend_base, turn, turns_of, begin, drive}
use Rattle.rules_laws.proofs.Counted.{bind-some}
use Rattle.rules_laws.proofs.Scan.{sole-is}
use Rattle.rules_laws.proofs.Few.{SolidKmer, Few}
use Rattle.rules_laws.proofs.Exist.{Kept, exist-some}
use Rattle.rules_laws.proofs.Driver.{Case, solid_found, is-quiet, is-refused, is-mended, case, turn-solid, turn-quiet, turn-refused, turn-mended, turns_of-step, turns_of-end}
use Rattle.rules_laws.proofs.Correctors.{all_snoc, gap-any}
use Rattle.rules_laws.proofs.Exactly.{x-good, graph-exactly, gap_size-exactly}

-- ---- what a correction rests on

-- Some k-mers, all solid.
pub record Rests (sol : ℕ → Bool) (m : Mend) : Type 0 where
  pub first : Kmer
  pub others : List Kmer
  pub are : m.on ≡ first ∷ others
  pub all_solid : All (λ y. (ask sol y).answer ≡ true) m.on

module _ (k : ℕ) (sol : ℕ → Bool) (c' : ℕ) (s : List ℕ) where
  abbrev c : ℕ
  c = suc c'

  -- a tried k-mer that scores c is solid
  score-solid : (o : ℕ) (t : Kmer) → (score k sol c s o t).answer ≡ c → (ask sol t).answer ≡ true
  unfolding score
  score-solid o t e = go (ask sol t).answer refl
    where
      go : (p : Bool) → (ask sol t).answer ≡ p → p ≡ true
      go true f = refl
      go false f = absurd (let z : 0 ≡ c = rw (f, score) at e in omega arith)

  each : (scs : List Scenario) → All (Kept k sol c s (Rests sol)) scs
  unfolding Kept
  each [] = end
  each (sc ∷ scs) =
      also (λ t p q. record { first = t; others = []; are = refl; all_solid = also (score-solid sc.o t q) end }) (each scs)

  pub exist-rests : (scenarios : Kmer → List ℕ → List Scenario) (y : Kmer) (m : Mend) → (exist k sol c s scenarios y).answer ≡ some m → Rests sol m
  exist-rests scenarios y m e = exist-some k sol c s (Rests sol) scenarios y m (λ x a. each (scenarios x s)) e

module _ (k n : ℕ) (sol : ℕ → Bool) (few : Few k n sol) (s : List ℕ) (y : Kmer) where
  chain-rests : (x : Kmer) (via : List Kmer) (m : Mend) → m.on ≡ x ∷ via → All (λ z. (ask sol z).answer ≡ true) (x ∷ via) → Rests sol m
  chain-rests x via m e h =
      record { first = x; others = via; are = e; all_solid = subst (λ (l : List Kmer). All (λ z. (ask sol z).answer ≡ true) l) (sym e) h }

  pub graph-rests : (m : Mend) → (graph k n sol s y).answer ≡ some m → Rests sol m
  unfolding chain_mend
  graph-rests m e =
      let w = (graph-exactly k n sol few s y).only_if m e in
      let b = w.0 in
      chain-rests b.x b.chain.via m (ap (λ (m' : Mend). m'.on) w.1) b.chain.all_solid

  -- a gap's k-mers are solid
  gap-solid : (m : ℕ) (seen : List Kmer) (z : Kmer) (l : ℕ) (ls : List Kmer) → All (λ v. (ask sol v).answer ≡ true) seen
      → (gap k sol m seen z l).answer ≡ some ls → All (λ v. (ask sol v).answer ≡ true) ls
  unfolding gap
  gap-solid zero seen z l ls h e = subst (λ (v : List Kmer). All (λ v. (ask sol v).answer ≡ true) v) (some-injective seen ls e) h
  gap-solid (suc m) seen z l ls h e = go (λ v. gap-solid m (seen ++ (v ∷ [])) v (l + (sole k sol z).lookups) ls) (sole k sol z).answer refl
    where
      go : ((v : Kmer) → All (λ u. (ask sol u).answer ≡ true) (seen ++ (v ∷ [])) → (gap k sol m (seen ++ (v ∷ [])) v (l + (sole k sol z).lookups)).answer ≡ some ls
          → All (λ u. (ask sol u).answer ≡ true) ls)
          → (o : Option Kmer) → (sole k sol z).answer ≡ o → All (λ u. (ask sol u).answer ≡ true) ls
      go i none f = absurd (none-ne-some ls (rw (f, gap) at e))
      go i (some v) f = on (met v seen) refl
        where
          on : (q : Bool) → met v seen ≡ q → All (λ u. (ask sol u).answer ≡ true) ls
          on true g = absurd (none-ne-some ls (rw (f, gap, g) at e))
          on false g = i v (all_snoc (λ u. (ask sol u).answer ≡ true) seen v h (sole-is k sol z v f).solid_found) (rw (f, gap, g) at e)

  gap_from-rests : (i : ℕ) (m : Mend) → (gap_from k sol i y).answer ≡ some m → Rests sol m
  unfolding gap_from give SolidKmer
  gap_from-rests i m e =
      let w = bind-some (alternative k sol y) _ m e in
      let x : Kmer = w.0 in
      let v = bind-some (gap k sol i (x ∷ []) x 0) _ m w.2 in
      let h = gap-solid i (x ∷ []) x 0 v.0 (also (x-good k sol y x w.1).1 end) v.1 in
      let l = (gap-any k sol i (x ∷ []) x 0).1 v.0 v.1 in
      let on-is : m.on ≡ v.0 = sym (ap (λ (m' : Mend). m'.on) (some-injective _ m v.2)) in
      filled v.0 l h on-is
    where
      filled : (ls : List Kmer) → length ls ≡ 1 + i → All (λ u. (ask sol u).answer ≡ true) ls → m.on ≡ ls → Rests sol m
      filled [] l h o = absurd (omega arith)
      filled (z ∷ zs) l h o = chain-rests z zs m o h

  pub gap_size-rests : (c' : ℕ) (m : Mend) → (gap_size k n sol (suc c') s y).answer ≡ some m → Rests sol m
  unfolding gap_size after chain_mend
  gap_size-rests c' m e = go (ltb sc.index k) refl (eqb sc.index k) refl
    where
      sc : Scan
      sc = error_len k sol y s

      go : (p : Bool) → ltb sc.index k ≡ p → (q : Bool) → eqb sc.index k ≡ q → Rests sol m
      go true f q g =
          let w = (gap_size-exactly k n sol few s y (suc c') (ltb-true sc.index k f)).only_if m e in
          let b = w.0 in
          chain-rests b.x b.chain.via m (ap (λ (m' : Mend). m'.on) w.1) b.chain.all_solid
      go false f true g = exist-rests k sol c' s (one k sol) y m (rw (f, gap_size, g) at e)
      go false f false g = gap_from-rests (sc.index - k) m (rw (f, gap_size, g) at e)

-- ---- counts change nothing but the support

-- A pass with another support.
unfoldable pub supported : Pass → Option ℕ → Pass
supported p v = record { bytes = p.bytes; turns = p.turns; lookups = p.lookups; attempts = p.attempts; accepted = p.accepted; support = v }

module _ (k : ℕ) (sol : ℕ → Bool) (count count' : Kmer → ℕ) (ce : List ℕ → Kmer → Try Mend) where
  standing : State → Option ℕ → State
  unfolding supported
  standing st v = record { kmer = st.kmer; previous = st.previous; rest = st.rest; done = supported st.done v }

  turn-any : (st : State) (b : ℕ) (s : List ℕ) (v : Option ℕ)
      → (w : Option ℕ) × (turn k sol count' ce (standing st v) b s ≡ standing (turn k sol count ce st b s) w)
  unfolding standing supported keep_base mend_base
  turn-any st b s v = go (case k sol count ce st b s)
    where
      go : Case k sol count ce st b s → (w : Option ℕ) × (turn k sol count' ce (standing st v) b s ≡ standing (turn k sol count ce st b s) w)
      go (solid_found e) = (v, turn-solid k sol count' ce (standing st v) b s e ∙ ap (λ (x : State). standing x v) (sym (turn-solid k sol count ce st b s e)))
      go (is-quiet e p) =
          (v, turn-quiet k sol count' ce (standing st v) b s e p ∙ ap (λ (x : State). standing x v) (sym (turn-quiet k sol count ce st b s e p)))
      go (is-refused e p a) =
          (v, turn-refused k sol count' ce (standing st v) b s e p a ∙ ap (λ (x : State). standing x v) (sym (turn-refused k sol count ce st b s e p a)))
      go (is-mended m e p a) =
          let w : Option ℕ = weaker v (weakest count' m.on) in (
            w,
            turn-mended k sol count' ce (standing st v) b s m e p a ∙ ap (λ (x : State). standing x w) (sym (turn-mended k sol count ce st b s m e p a)),
          )

  turns-any : (f : ℕ) (st : State) (v : Option ℕ)
      → (w : Option ℕ) × (turns_of k sol count' ce f (standing st v) ≡ standing (turns_of k sol count ce f st) w)
  unfolding turns_of standing
  turns-any zero st v = (v, refl)
  turns-any (suc f) st v = go (turns-any f) st.rest refl
    where
      go : ((st' : State) (v : Option ℕ) → (w : Option ℕ) × (turns_of k sol count' ce f (standing st' v) ≡ standing (turns_of k sol count ce f st') w))
          → (r : List ℕ) → st.rest ≡ r → (w : Option ℕ) × (turns_of k sol count' ce (suc f) (standing st v) ≡ standing (turns_of k sol count ce (suc f) st) w)
      go ih [] e =
          (v, turns_of-end k sol count' ce (suc f) (standing st v) e ∙ ap (λ (x : State). standing x v) (sym (turns_of-end k sol count ce (suc f) st e)))
      go ih (b ∷ s) e =
          let t = turn-any st b s v in
          let i = ih (turn k sol count ce st b s) t.0 in (
            i.0,
            turns_of-step k sol count' ce f (standing st v) b s e ∙ ap (λ (x : State). turns_of k sol count' ce f x) t.1
                ∙ i.1 ∙ ap (λ (x : State). standing x i.0) (sym (turns_of-step k sol count ce f st b s e)),
          )

  -- Bytes, turns, lookups, attempts and accepted corrections are the same for all counts.
  pub counts-any : (read : List ℕ) → supported (drive k sol count ce read) none ≡ supported (drive k sol count' ce read) none
  unfolding drive begin supported standing
  counts-any read = go (ltb (length read) k) refl
    where
      go : (p : Bool) → ltb (length read) k ≡ p → supported (drive k sol count ce read) none ≡ supported (drive k sol count' ce read) none
      go true e = rw (e, drive)
      go false e =
          let t = turns-any (2 * (length read - k)) (begin k sol count ce read) none in
          rw (e, drive) (sym (ap (λ (x : State). supported x.done none) t.1))

-- ---- the smallest count

pub weaker-none : (o : Option ℕ) → weaker o none ≡ o
unfolding weaker
weaker-none none = refl
weaker-none (some a) = refl

pub weaker-assoc : (o p q : Option ℕ) → weaker (weaker o p) q ≡ weaker o (weaker p q)
unfolding weaker
weaker-assoc none p q = refl
weaker-assoc (some a) none q = refl
weaker-assoc (some a) (some b) none = refl
weaker-assoc (some a) (some b) (some c) = (let e : min (min a b) c ≡ min a (min b c) = omega arith in ap {B = Option ℕ} some e)

-- The k-mers of a walk may be weighed one by one.
pub weakest-append : (count : Kmer → ℕ) (xs ys : List Kmer) → weakest count (xs ++ ys) ≡ weaker (weakest count xs) (weakest count ys)
unfolding weakest weaker
weakest-append count [] ys = refl
weakest-append count (x ∷ xs) ys =
    ap (weaker (some (count x))) (weakest-append count xs ys)
    ∙ sym (weaker-assoc (some (count x)) (weakest count xs) (weakest count ys))

weakest-some : (count : Kmer → ℕ) (y : Kmer) (ys : List Kmer) → (v : ℕ) × (weakest count (y ∷ ys) ≡ some v)
unfolding weakest weaker
weakest-some count y ys = go (weakest count ys) refl
  where
    go : (o : Option ℕ) → weakest count ys ≡ o → (v : ℕ) × (weaker (some (count y)) o ≡ some v)
    go none e = (count y, refl)
    go (some w) e = (_, refl)

-- No k-mer of the list has a smaller count.
pub weakest-least : (count : Kmer → ℕ) (ys : List Kmer) (v : ℕ) → weakest count ys ≡ some v → All (λ y. v ≤ count y) ys
unfolding weakest weaker
weakest-least count [] v e = end
weakest-least count (y ∷ ys) v e = go (weakest-least count ys) (weakest count ys) refl
  where
    lower : (zs : List Kmer) (u : ℕ) → v ≤ u → All (λ z. u ≤ count z) zs → All (λ z. v ≤ count z) zs
    lower [] u l h = end
    lower (z ∷ zs) u l (also p h) = (let q : v ≤ count z = omega arith in also q (lower zs u l h))

    nothing : (zs : List Kmer) → weakest count zs ≡ none → All (λ z. v ≤ count z) zs
    nothing [] f = end
    nothing (z ∷ zs) f = absurd (none-ne-some _ (sym f ∙ (weakest-some count z zs).1))

    go : ((u : ℕ) → weakest count ys ≡ some u → All (λ z. u ≤ count z) ys) → (o : Option ℕ) → weakest count ys ≡ o → All (λ z. v ≤ count z) (y ∷ ys)
    go ih none f =
        let h : count y ≡ v = some-injective (count y) v (ap (weaker (some (count y))) (sym f) ∙ e) in
        let q : v ≤ count y = omega arith in
        also q (nothing ys f)
    go ih (some u) f =
        let h : min (count y) u ≡ v = some-injective (min (count y) u) v (ap (weaker (some (count y))) (sym f) ∙ e) in
        let q : v ≤ count y = omega arith in
        also q (lower ys u (omega arith) (ih u f))

-- ---- a support exactly where a correction was accepted

-- None of no correction, a count of one or more.
pub record Weighed (accepted : ℕ) (support : Option ℕ) : Type 0 where
  pub of_none : accepted ≡ 0 → support ≡ none
  pub of_some : 1 ≤ accepted → (v : ℕ) × (support ≡ some v)

some-weighed : (a v : ℕ) (o : Option ℕ) → 1 ≤ a → o ≡ some v → Weighed a o
some-weighed a v o h e = record { of_none = λ z. absurd (omega arith); of_some = λ l. (v, e) }

pub weaker-weighed : (a b : ℕ) (o p : Option ℕ) → Weighed a o → Weighed b p → Weighed (a + b) (weaker o p)
unfolding weaker
weaker-weighed zero b none p h g = subst (λ (n : ℕ). Weighed n p) (let e : b ≡ 0 + b = omega arith in e) g
weaker-weighed zero b (some v) p h g = absurd (none-ne-some v (sym (h.of_none refl)))
weaker-weighed (suc a) b none p h g = absurd (none-ne-some _ (h.of_some (omega arith)).1)
weaker-weighed (suc a) b (some v) none h g = some-weighed (suc a + b) v (some v) (omega arith) refl
weaker-weighed (suc a) b (some v) (some w) h g = some-weighed (suc a + b) _ (weaker (some v) (some w)) (omega arith) refl

module _ (k : ℕ) (sol : ℕ → Bool) (count : Kmer → ℕ) (ce : List ℕ → Kmer → Try Mend)
    (rests : (s : List ℕ) (y : Kmer) (m : Mend) → (ce s y).answer ≡ some m → Rests sol m) where
  turn-weighed : (st : State) (b : ℕ) (s : List ℕ) → Weighed st.done.accepted st.done.support
      → Weighed (turn k sol count ce st b s).done.accepted (turn k sol count ce st b s).done.support
  unfolding keep_base mend_base
  turn-weighed st b s h = go (case k sol count ce st b s)
    where
      go : Case k sol count ce st b s → Weighed (turn k sol count ce st b s).done.accepted (turn k sol count ce st b s).done.support
      go (solid_found e) = rw (turn-solid k sol count ce st b s e) h
      go (is-quiet e p) = rw (turn-quiet k sol count ce st b s e p) h
      go (is-refused e p a) = rw (turn-refused k sol count ce st b s e p a) h
      go (is-mended m e p a) =
          let r = rests (b ∷ s) _ m a in
          let v = weakest-some count r.first r.others in
          rw (turn-mended k sol count ce st b s m e p a)
          (weaker-weighed st.done.accepted 1 st.done.support (weakest count m.on) h
          (some-weighed 1 v.0 (weakest count m.on) (omega arith) (ap (weakest count) r.are ∙ v.1)))

  turns-weighed : (f : ℕ) (st : State) → Weighed st.done.accepted st.done.support
      → Weighed (turns_of k sol count ce f st).done.accepted (turns_of k sol count ce f st).done.support
  unfolding turns_of
  turns-weighed zero st h = h
  turns-weighed (suc f) st h = go (turns-weighed f) st.rest refl
    where
      go : ((st' : State) → Weighed st'.done.accepted st'.done.support
          → Weighed (turns_of k sol count ce f st').done.accepted (turns_of k sol count ce f st').done.support)
          → (r : List ℕ) → st.rest ≡ r → Weighed (turns_of k sol count ce (suc f) st).done.accepted (turns_of k sol count ce (suc f) st).done.support
      go ih [] e = rw (turns_of-end k sol count ce (suc f) st e) h
      go ih (b ∷ s) e = rw (turns_of-step k sol count ce f st b s e) (ih (turn k sol count ce st b s) (turn-weighed st b s h))

  pub drive-weighed : (read : List ℕ) → Weighed (drive k sol count ce read).accepted (drive k sol count ce read).support
  unfolding drive begin
  drive-weighed read = go (ltb (length read) k) refl
    where
      nothing : Weighed 0 none
      nothing = record { of_none = λ z. refl; of_some = λ l. absurd (omega arith) }

      go : (p : Bool) → ltb (length read) k ≡ p → Weighed (drive k sol count ce read).accepted (drive k sol count ce read).support
      go true e = rw (e, drive) nothing
      go false e = rw (e, drive) (turns-weighed (2 * (length read - k)) (begin k sol count ce read) nothing)
