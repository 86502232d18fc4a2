-- The driver over any corrector: a turn's cases, its fuel, and the theorems `driver` and `fuel` of a pass.
use Prim.Native.Nat.{ℕ, zero, suc, ◌+◌, ◌*◌, ◌-◌, ◌≤◌, ◌<◌}
use native.Mathlib.Omega.{arith}
use native.Mathlib.Decide.{dec_le}
use borrow.Author.Tests.{le-ltb, lt-ltb}
use mathlib.Core.Path.{◌≡◌, refl, sym, ap, ◌∙◌}
use mathlib.Core.Bool.{Bool, true, false}
use mathlib.Core.Option.{Option, none, some}
use mathlib.Core.List.{List, [], ◌∷◌, ◌++◌, append-nil, append_assoc}
use lib.ListN.{length, take, drop, length-drop}
use Rattle.rules.specs.Letters.{Kmer, add, code, kmer, in_place}
use Rattle.rules.specs.Counted.{Try}
use Rattle.rules.specs.Scan.{ask, scan_from, error_len}
use Rattle.rules.specs.Exist.{Mend}
use Rattle.rules.specs.Driver.{State, keep_base, mend_base, turn, turns_of, begin, drive}
use Rattle.rules_laws.proofs.Scan.{scan-is}

module _ (k : ℕ) (sol : ℕ → Bool) (ce : List ℕ → Kmer → Try Mend) where
  -- After a mend that takes no base, the base is good in its place.
  unfoldable pub Steady : Type 0
  Steady = (b : ℕ) (s : List ℕ) (y : Kmer) (m : Mend) → (ce (b ∷ s) y).answer ≡ some m → m.resume ≡ 0
      → (ask sol (add k (in_place k y m.letters) (code b))).answer ≡ true

  -- Two for each base, and one where the next base gives a solid k-mer: it falls at each turn, so it bounds the turns and the fuel.
  unfoldable pub at_next : Bool → ℕ → ℕ
  at_next true n = 1 + 2 * n
  at_next false n = 2 + 2 * n

  unfoldable pub left : Kmer → List ℕ → ℕ
  unfolding at_next
  left y [] = 0
  left y (b ∷ s) = at_next (ask sol (add k y (code b))).answer (length s)

  pub left≤ : (y : Kmer) (s : List ℕ) → left y s ≤ 2 * length s
  unfolding left at_next
  left≤ y [] = omega arith
  left≤ y (b ∷ s) = go (ask sol (add k y (code b))).answer
    where
      go : (t : Bool) → at_next t (length s) ≤ 2 * suc (length s)
      go true = omega arith
      go false = omega arith

  drop-left : (b : ℕ) (s : List ℕ) (y : Kmer) (r : ℕ) → (r ≡ 0 → (ask sol (add k y (code b))).answer ≡ true)
      → suc (left y (drop r (b ∷ s))) ≤ 2 + 2 * length s
  unfolding left at_next
  drop-left b s y zero h = rw (h refl) (omega arith)
  drop-left b s y (suc r) h = omega (arith, left≤ y (drop r s), length-drop r s)

  left-zero : (y : Kmer) (s : List ℕ) → left y s ≤ 0 → s ≡ []
  unfolding left at_next
  left-zero y [] h = refl
  left-zero y (b ∷ s) h = go (ask sol (add k y (code b))).answer h
    where
      go : (t : Bool) → at_next t (length s) ≤ 0 → b ∷ s ≡ []
      go true h = absurd (omega arith)
      go false h = absurd (omega arith)

module _ (k : ℕ) (sol : ℕ → Bool) (count : Kmer → ℕ) (ce : List ℕ → Kmer → Try Mend) where
  -- ---- a turn's four cases

  module _ (st : State) (b : ℕ) (s : List ℕ) where
    abbrev y : Kmer
    y = add k st.kmer (code b)

    -- the lookups of the turn itself
    abbrev asked : ℕ
    asked = (ask sol y).lookups

    pub turn-solid : (ask sol y).answer ≡ true → turn k sol count ce st b s ≡ keep_base st b s y true 0 asked
    unfolding turn
    turn-solid e = rw (e, turn)

    pub turn-quiet : (ask sol y).answer ≡ false → st.previous ≡ false → turn k sol count ce st b s ≡ keep_base st b s y false 0 asked
    unfolding turn
    turn-quiet e p = rw (e, turn, p)

    pub turn-refused : (ask sol y).answer ≡ false → st.previous ≡ true → (ce (b ∷ s) y).answer ≡ none
        → turn k sol count ce st b s ≡ keep_base st b s y false 1 (asked + (ce (b ∷ s) y).lookups)
    unfolding turn
    turn-refused e p a = rw (e, turn, p, a)

    pub turn-mended : (m : Mend) → (ask sol y).answer ≡ false → st.previous ≡ true → (ce (b ∷ s) y).answer ≡ some m
        → turn k sol count ce st b s ≡ mend_base k count st (b ∷ s) y m (asked + (ce (b ∷ s) y).lookups)
    unfolding turn
    turn-mended m e p a = rw (e, turn, p, a)

    -- every turn is one of them
    pub data Case : Type 0 where
      solid_found : (ask sol y).answer ≡ true → Case
      is-quiet : (ask sol y).answer ≡ false → st.previous ≡ false → Case
      is-refused : (ask sol y).answer ≡ false → st.previous ≡ true → (ce (b ∷ s) y).answer ≡ none → Case
      is-mended : (m : Mend) → (ask sol y).answer ≡ false → st.previous ≡ true → (ce (b ∷ s) y).answer ≡ some m → Case

    pub case : Case
    case = go (ask sol y).answer refl st.previous refl (ce (b ∷ s) y).answer refl
      where
        go : (t : Bool) → (ask sol y).answer ≡ t → (p : Bool) → st.previous ≡ p → (o : Option Mend) → (ce (b ∷ s) y).answer ≡ o → Case
        go true e p f o g = solid_found e
        go false e false f o g = is-quiet e f
        go false e true f none g = is-refused e f g
        go false e true f (some m) g = is-mended m e f g

  -- one turn of many, and the end
  pub turns_of-step : (f : ℕ) (st : State) (b : ℕ) (s : List ℕ) → st.rest ≡ b ∷ s
      → turns_of k sol count ce (suc f) st ≡ turns_of k sol count ce f (turn k sol count ce st b s)
  unfolding turns_of
  turns_of-step f st b s e = rw (e, turns_of)

  pub turns_of-end : (f : ℕ) (st : State) → st.rest ≡ [] → turns_of k sol count ce f st ≡ st
  unfolding turns_of
  turns_of-end zero st e = refl
  turns_of-end (suc f) st e = cc

  -- ---- the turns that can still come

  pub left_step : Steady k sol ce → (st : State) (b : ℕ) (s : List ℕ)
      → suc (left k sol ce (turn k sol count ce st b s).kmer (turn k sol count ce st b s).rest) ≤ left k sol ce st.kmer (b ∷ s)
  unfolding Steady left at_next keep_base mend_base
  left_step h st b s = go (case st b s)
    where
      go : Case st b s → suc (left k sol ce (turn k sol count ce st b s).kmer (turn k sol count ce st b s).rest) ≤ left k sol ce st.kmer (b ∷ s)
      go (solid_found e) = rw (turn-solid st b s e, e) (omega (arith, left≤ k sol ce (y st b s) s))
      go (is-quiet e p) = rw (turn-quiet st b s e p, e) (omega (arith, left≤ k sol ce (y st b s) s))
      go (is-refused e p a) = rw (turn-refused st b s e p a, e) (omega (arith, left≤ k sol ce (y st b s) s))
      go (is-mended m e p a) =
          rw (turn-mended st b s m e p a, e)
          (drop-left k sol ce b s (in_place k (y st b s) m.letters) m.resume (h b s (y st b s) m a))

  -- enough fuel is enough: more changes nothing
  turns_of-enough : Steady k sol ce → (f g : ℕ) (st : State) → left k sol ce st.kmer st.rest ≤ f → left k sol ce st.kmer st.rest ≤ g
      → turns_of k sol count ce f st ≡ turns_of k sol count ce g st
  turns_of-enough h zero g st p q = turns_of-end zero st (left-zero k sol ce _ _ p) ∙ sym (turns_of-end g st (left-zero k sol ce _ _ p))
  turns_of-enough h (suc f) zero st p q = turns_of-end (suc f) st (left-zero k sol ce _ _ q) ∙ sym (turns_of-end zero st (left-zero k sol ce _ _ q))
  turns_of-enough h (suc f) (suc g) st p q = go (turns_of-enough h f g) st.rest refl
    where
      go : ((st' : State) → left k sol ce st'.kmer st'.rest ≤ f → left k sol ce st'.kmer st'.rest ≤ g → turns_of k sol count ce f st' ≡ turns_of k sol count ce g st')
          → (r : List ℕ) → st.rest ≡ r → turns_of k sol count ce (suc f) st ≡ turns_of k sol count ce (suc g) st
      go ih [] e = turns_of-end (suc f) st e ∙ sym (turns_of-end (suc g) st e)
      go ih (b ∷ s) e =
          let l = left_step h st b s in
          let e' : left k sol ce st.kmer st.rest ≡ left k sol ce st.kmer (b ∷ s) = ap (left k sol ce st.kmer) e in
          turns_of-step f st b s e ∙ ih (turn k sol count ce st b s) (omega arith) (omega arith) ∙ sym (turns_of-step g st b s e)

  -- The end of a pass from where it stands: a loop's invariant is that this stays.
  unfoldable pub finish : State → State
  finish st = turns_of k sol count ce (2 * length st.rest) st

  pub finish-step : Steady k sol ce → (st : State) (b : ℕ) (s : List ℕ) → st.rest ≡ b ∷ s → finish st ≡ finish (turn k sol count ce st b s)
  unfolding finish
  finish-step h st b s e =
      let l = left_step h st b s in
      let e' : left k sol ce st.kmer st.rest ≡ left k sol ce st.kmer (b ∷ s) = ap (left k sol ce st.kmer) e in
      let l' = left≤ k sol ce st.kmer st.rest in
      let t = turn k sol count ce st b s in
      let m = left≤ k sol ce t.kmer t.rest in
      turns_of-enough h (2 * length st.rest) (suc (2 * length t.rest + 2 * length st.rest)) st (omega arith) (omega arith)
      ∙ turns_of-step (2 * length t.rest + 2 * length st.rest) st b s e
      ∙ turns_of-enough h (2 * length t.rest + 2 * length st.rest) (2 * length t.rest) t (omega arith) (omega arith)

  pub finish-end : (st : State) → st.rest ≡ [] → finish st ≡ st
  unfolding finish
  finish-end st e = turns_of-end (2 * length st.rest) st e

  -- Any fuel from 2W on gives the same pass.
  pub turns-fuel : Steady k sol ce → (read : List ℕ) (f : ℕ) → 2 * (length read - k) ≤ f
      → turns_of k sol count ce f (begin k sol count ce read) ≡ turns_of k sol count ce (2 * (length read - k)) (begin k sol count ce read)
  unfolding begin
  turns-fuel h read f le =
      let l = left≤ k sol ce (kmer k (take k read)) (drop k read) in
      let d = length-drop k read in
      turns_of-enough h f (2 * (length read - k)) (begin k sol count ce read) (omega arith) (omega arith)

  -- ---- turns

  turn-turns : (st : State) (b : ℕ) (s : List ℕ) → (turn k sol count ce st b s).done.turns ≡ st.done.turns + 1
  unfolding keep_base mend_base
  turn-turns st b s = go (case st b s)
    where
      go : Case st b s → (turn k sol count ce st b s).done.turns ≡ st.done.turns + 1
      go (solid_found e) = rw (turn-solid st b s e)
      go (is-quiet e p) = rw (turn-quiet st b s e p)
      go (is-refused e p a) = rw (turn-refused st b s e p a)
      go (is-mended m e p a) = rw (turn-mended st b s m e p a)

  pub turns-le : Steady k sol ce → (f : ℕ) (st : State) → (turns_of k sol count ce f st).done.turns ≤ st.done.turns + left k sol ce st.kmer st.rest
  unfolding turns_of
  turns-le h zero st = omega arith
  turns-le h (suc f) st = go (turns-le h f) st.rest refl
    where
      go : ((st' : State) → (turns_of k sol count ce f st').done.turns ≤ st'.done.turns + left k sol ce st'.kmer st'.rest)
          → (r : List ℕ) → st.rest ≡ r → (turns_of k sol count ce (suc f) st).done.turns ≤ st.done.turns + left k sol ce st.kmer st.rest
      go ih [] e = rw (turns_of-end (suc f) st e) (omega arith)
      go ih (b ∷ s) e =
          let i = ih (turn k sol count ce st b s) in
          let l = left_step h st b s in
          let t = turn-turns st b s in
          let e' : left k sol ce st.kmer st.rest ≡ left k sol ce st.kmer (b ∷ s) = ap (left k sol ce st.kmer) e in
          rw (turns_of-step f st b s e) (omega arith)

  -- Turns ≤ 2W.
  pub drive-turns : Steady k sol ce → (read : List ℕ) → (drive k sol count ce read).turns ≤ 2 * (length read - k)
  unfolding drive begin
  drive-turns h read = elim (dec_le k (length read)) [ yes le ↦ inside le | no gt ↦ outside (omega arith) ]
    where
      inside : k ≤ length read → (drive k sol count ce read).turns ≤ 2 * (length read - k)
      inside le =
          rw (drive, le-ltb (length read) k le)
          (omega (arith, turns-le h (2 * (length read - k)) (begin k sol count ce read), left≤ k sol ce (kmer k (take k read)) (drop k read), length-drop k read))

      outside : length read < k → (drive k sol count ce read).turns ≤ 2 * (length read - k)
      outside lt = rw (drive, lt-ltb (length read) k lt) (omega arith)

  -- ---- the theorem `driver`

  -- A turn that takes no base is followed by one that does. Serves demand 1: every pass ends.
  pub takes-base : Steady k sol ce → (st : State) (b : ℕ) (s : List ℕ) → (turn k sol count ce st b s).rest ≡ b ∷ s
      → (turn k sol count ce (turn k sol count ce st b s) b s).rest ≡ s
  unfolding Steady keep_base mend_base
  takes-base h st b s e = go (case st b s)
    where
      t : State
      t = turn k sol count ce st b s

      kept-all : (r : List ℕ) → r ≡ b ∷ s → r ≡ s → ⊥
      kept-all r p q = let z : suc (length s) ≡ length s = ap length (sym p ∙ q) in omega arith

      zero-resume : (r : ℕ) → drop r (b ∷ s) ≡ b ∷ s → r ≡ 0
      zero-resume zero p = refl
      zero-resume (suc r) p = absurd (let z : length (drop r s) ≡ suc (length s) = ap length p in omega (arith, length-drop r s))

      go : Case st b s → (turn k sol count ce t b s).rest ≡ s
      go (solid_found f) = absurd (kept-all t.rest e (ap (λ (x : State). x.rest) (turn-solid st b s f)))
      go (is-quiet f p) = absurd (kept-all t.rest e (ap (λ (x : State). x.rest) (turn-quiet st b s f p)))
      go (is-refused f p a) = absurd (kept-all t.rest e (ap (λ (x : State). x.rest) (turn-refused st b s f p a)))
      go (is-mended m f p a) =
          let is : t ≡ mend_base k count st (b ∷ s) (y st b s) m (asked st b s + (ce (b ∷ s) (y st b s)).lookups) = turn-mended st b s m f p a in
          let r0 = zero-resume m.resume (sym (ap (λ (x : State). x.rest) is) ∙ e) in
          let good : (ask sol (add k t.kmer (code b))).answer ≡ true = rw is (h b s (y st b s) m a r0) in
          ap (λ (x : State). x.rest) (turn-solid t b s good)

  -- Bytes put out only grow: what has no room now has none at the end. Serves refusal 11.
  pub turn-grows : (st : State) (b : ℕ) (s : List ℕ) → (t : List ℕ) × ((turn k sol count ce st b s).done.bytes ≡ st.done.bytes ++ t)
  unfolding keep_base mend_base
  turn-grows st b s = go (case st b s)
    where
      go : Case st b s → (t : List ℕ) × ((turn k sol count ce st b s).done.bytes ≡ st.done.bytes ++ t)
      go (solid_found e) = (b ∷ [], rw (turn-solid st b s e))
      go (is-quiet e p) = (b ∷ [], rw (turn-quiet st b s e p))
      go (is-refused e p a) = (b ∷ [], rw (turn-refused st b s e p a))
      go (is-mended m e p a) = (m.letters, rw (turn-mended st b s m e p a))

  pub turns_of-grows : (f : ℕ) (st : State) → (t : List ℕ) × ((turns_of k sol count ce f st).done.bytes ≡ st.done.bytes ++ t)
  unfolding turns_of
  turns_of-grows zero st = ([], sym (append-nil st.done.bytes))
  turns_of-grows (suc f) st = go (turns_of-grows f) st.rest refl
    where
      go : ((st' : State) → (t : List ℕ) × ((turns_of k sol count ce f st').done.bytes ≡ st'.done.bytes ++ t))
          → (r : List ℕ) → st.rest ≡ r → (t : List ℕ) × ((turns_of k sol count ce (suc f) st).done.bytes ≡ st.done.bytes ++ t)
      go ih [] e = ([], ap (λ (s : State). s.done.bytes) (turns_of-end (suc f) st e) ∙ sym (append-nil st.done.bytes))
      go ih (b ∷ s) e =
          let i = ih (turn k sol count ce st b s) in
          let a = turn-grows st b s in (
            a.0 ++ i.0,
            ap (λ (s : State). s.done.bytes) (turns_of-step f st b s e) ∙ i.1 ∙ ap (λ (l : List ℕ). l ++ i.0) a.1
                ∙ append_assoc st.done.bytes a.0 i.0,
          )

  -- The bases behind a k-mer that the scan passes are kept: none of their k-mers is solid, and no attempt is made.
  quiet-run : (n l i : ℕ) (st : State) (s : List ℕ) → st.previous ≡ false → st.rest ≡ s
      → (scan_from k sol l i st.kmer s).index ≡ n + i
      → (turns_of k sol count ce n st).done.bytes ≡ st.done.bytes ++ take n s
  unfolding turns_of scan_from keep_base
  quiet-run zero l i st s p r e = sym (append-nil st.done.bytes)
  quiet-run (suc n) l i st [] p r e = absurd (omega arith)
  quiet-run (suc n) l i st (b ∷ s) p r e = go (quiet-run n (l + asked st b s) (suc i)) (ask sol (y st b s)).answer refl
    where
      go : ((st' : State) (s' : List ℕ) → st'.previous ≡ false → st'.rest ≡ s' → (scan_from k sol (l + asked st b s) (suc i) st'.kmer s').index ≡ n + suc i
          → (turns_of k sol count ce n st').done.bytes ≡ st'.done.bytes ++ take n s')
          → (t : Bool) → (ask sol (y st b s)).answer ≡ t → (turns_of k sol count ce (suc n) st).done.bytes ≡ st.done.bytes ++ (b ∷ take n s)
      go ih true f = absurd (let z : i ≡ suc n + i = rw (f, scan_from) at e in omega arith)
      go ih false f =
          let t = turn k sol count ce st b s in
          let is : t ≡ keep_base st b s (y st b s) false 0 (asked st b s) = turn-quiet st b s f p in
          let e' : (scan_from k sol (l + asked st b s) (suc i) (y st b s) s).index ≡ n + suc i = (rw (f, scan_from) at e) ∙ omega arith in
          ap (λ (x : State). x.done.bytes) (turns_of-step n st b s r)
          ∙ ap (λ (x : State). (turns_of k sol count ce n x).done.bytes) is
          ∙ ih (keep_base st b s (y st b s) false 0 (asked st b s)) s refl refl e'
          ∙ append_assoc st.done.bytes (b ∷ []) (take n s)

  -- A refused attempt with scan index i is followed by i kept bytes, the bad base the first of them. Serves refusal 11 under GapSize.
  pub refused-kept : (st : State) (b : ℕ) (s : List ℕ) → st.rest ≡ b ∷ s
      → (ask sol (add k st.kmer (code b))).answer ≡ false → st.previous ≡ true → (ce (b ∷ s) (add k st.kmer (code b))).answer ≡ none
      → (let i : ℕ = (error_len k sol (add k st.kmer (code b)) (b ∷ s)).index in (turns_of k sol count ce i st).done.bytes ≡ st.done.bytes ++ take i (b ∷ s))
  unfolding error_len keep_base
  refused-kept st b s r f p a = go (scan_from k sol 0 1 (y st b s) s).index refl
    where
      l : ℕ
      l = asked st b s + (ce (b ∷ s) (y st b s)).lookups

      go : (i : ℕ) → (scan_from k sol 0 1 (y st b s) s).index ≡ i → (turns_of k sol count ce i st).done.bytes ≡ st.done.bytes ++ take i (b ∷ s)
      go zero e = absurd (omega (arith, (scan-is k sol 0 1 (y st b s) s).from))
      go (suc i) e =
          ap (λ (x : State). x.done.bytes) (turns_of-step i st b s r)
          ∙ ap (λ (x : State). (turns_of k sol count ce i x).done.bytes) (turn-refused st b s f p a)
          ∙ quiet-run i 0 1 (keep_base st b s (y st b s) false 1 l) s refl refl (e ∙ omega arith)
          ∙ append_assoc st.done.bytes (b ∷ []) (take i s)
