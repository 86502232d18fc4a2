-- The walk is the second judgement, and what it leaves of the partner's read is the third.
use Prim.Native.Nat.{ℕ, zero, suc, ◌+◌, ◌≤◌, ◌<◌}
use native.Mathlib.Omega.{arith}
use borrow.Author.Tests.{eqb-true, eqb-false}
use mathlib.Core.Path.{◌≡◌, refl, sym, ap, ◌∙◌, subst}
use mathlib.Core.Bool.{Bool, true, false, true≢false}
use mathlib.Core.Option.{Option, none, some}
use mathlib.Core.List.{List, [], ◌∷◌, ◌++◌, append_assoc, append-nil}
use lib.ListN.{length, length-append}
use lib.Dec.{eqb}
use Rattle.std.specs.Prelude.{⊤, Option as Asking, Some, None}
use Rattle.std.specs.Option.{option_or}
use Rattle.rules.specs.Letters.{Kmer, add_base, kmer}
use Rattle.rules.specs.Refusal.{first_failing}
use Rattle.rules.specs.Set.{is_none}
use Rattle.rules_laws.proofs.Keys.{none-fails}
use Rattle.rules_laws.proofs.Keys.{none-failing}
use Rattle.rules_edits.specs.Edits.{Sheet, count, given, kept, letters_of, made_to, rest, made, start, kmer_to, supported}
use Rattle.rules_edits.proofs.Edits.{Formed, letters-length, made-le, ends-before, start-low, rest_some}
use Rattle.edit_walk.specs.Walk.{Stand, Walked, on, offends, next, stepped, and_then, yes, blamed, pass_over, at_edit, over_edit, walk_from, begins, walk}
use Rattle.edit_walk.proofs.Windows.{add-snoc, window}

-- ---- first failures

first-at : (ok : ℕ → Bool) (a m j : ℕ) → a ≤ j → j < a + m → ok j ≡ false → ((i : ℕ) → a ≤ i → i < j → ok i ≡ true) → first_failing ok a m ≡ some j
unfolding first_failing
first-at ok a zero j le lt e h = absurd (omega arith)
first-at ok a (suc m) j le lt e h = go (λ le'. first-at ok (suc a) m j le' (omega arith) e (λ i l g. h i (omega arith) g)) (eqb a j) refl
  where
    go : (suc a ≤ j → first_failing ok (suc a) m ≡ some j) → (t : Bool) → eqb a j ≡ t → first_failing ok a (suc m) ≡ some j
    go r true q =
        let p = eqb-true a j q in
        let f : ok a ≡ false = subst (λ (x : ℕ). ok x ≡ false) (sym p) e in
        rw (f, first_failing) (ap some p)
    go r false q =
        let p = eqb-false a j q in
        let l : suc a ≤ j = omega arith in
        rw (h a (omega arith) l, first_failing) (r l)

-- What is left of a read behind bases.
unfoldable pub after_all : List ℕ → Option (List ℕ) → Option (List ℕ)
unfolding next
after_all [] o = o
after_all (b ∷ bs) o = after_all bs (next b o)

after-snoc : (bs : List ℕ) (b : ℕ) (o : Option (List ℕ)) → after_all (bs ++ (b ∷ [])) o ≡ next b (after_all bs o)
unfolding after_all
after-snoc [] b o = refl
after-snoc (c ∷ bs) b o = after-snoc bs b (next c o)

module _ (k : ℕ) (sol : ℕ → Bool) (s : Sheet) where
  -- the second judgement of an edit, by its k-mers
  supported-yes : (i : ℕ) → ((x : ℕ) → start s i ≤ x → x ≤ start s i + given s i + 1 → yes sol (kmer_to k (made s) x) ≡ true) → supported k sol s i ≡ true
  unfolding supported is_none
  supported-yes i h = rw (none-failing (λ x. yes sol (kmer_to k (made s) x)) (start s i) (given s i + 2) (λ x le lt. h x le (omega arith)))

  supported-no : (i x : ℕ) → start s i ≤ x → x ≤ start s i + given s i + 1 → yes sol (kmer_to k (made s) x) ≡ false → supported k sol s i ≡ false
  unfolding supported is_none
  supported-no i x le lt e = go (first_failing (λ x. yes sol (kmer_to k (made s) x)) (start s i) (given s i + 2)) refl
    where
      go : (o : Option ℕ) → first_failing (λ x. yes sol (kmer_to k (made s) x)) (start s i) (given s i + 2) ≡ o → is_none o ≡ false
      go (some y) f = refl
      go none f =
          absurd (true≢false (sym (none-fails (λ x. yes sol (kmer_to k (made s) x)) (start s i) (given s i + 2) f x le (omega arith)) ∙ e))

-- ---- where a walk stands

-- Edit j comes before the one that asks, if one does.
abbrev pub Before : ℕ → Asking ℕ → Type 0
Before j (Some i) = j < i
Before j None = ⊤

some-same : {i j : ℕ} → Some i ≡ Some j → i ≡ j
some-same e = cc

none-asks : {A : Type 0} {j : ℕ} → ◌≡◌ {A = Asking ℕ} None (Some j) → A
none-asks e = absurd (let z : ◌≡◌ {A = ℕ} 0 1 = cc in omega arith)

-- Behind the bases `pre`, with i edits begun.
pub record Stands (k : ℕ) (sol : ℕ → Bool) (s : Sheet) (i : ℕ) (pre : List ℕ) (w : Stand) : Type 0 where
  pub kmer_is : w.kmer ≡ kmer k pre
  pub left_is : w.left ≡ after_all pre (some s.mended)
  -- what the edits ask of the bases so far holds
  pub seen : (j x : ℕ) → j < i → start s j ≤ x → x ≤ start s j + given s j + 1 → x ≤ length pre → yes sol (kmer_to k (made s) x) ≡ true
  -- an edit before the one that asks next asks no more
  pub earlier : (j : ℕ) → j < i → Before j w.asks → start s j + given s j + 1 ≤ length pre
  pub asked : (j : ℕ) → w.asks ≡ Some j → (j < i) × (start s j ≤ suc (length pre)) × (length pre ≤ start s j + given s j)

-- The walk goes on so, or the second judgement fails first at the edit that offends.
abbrev pub Goes : (k : ℕ) → (ℕ → Bool) → Sheet → ℕ → List ℕ → Walked → Type 0
Goes k sol s i pre (on w) = Stands k sol s i pre w
Goes k sol s i pre (offends j) = first_failing (supported k sol s) 0 (count s) ≡ some j

module _ (k : ℕ) (sol : ℕ → Bool) (s : Sheet) (all : (i : ℕ) → i < count s → Formed k s i) where
  snoc-length : (pre : List ℕ) (b : ℕ) → length (pre ++ (b ∷ [])) ≡ suc (length pre)
  snoc-length pre b = length-append pre (b ∷ []) ∙ omega arith

  -- a k-mer that an edit asks for
  here : (pre post : List ℕ) → made s ≡ pre ++ post → k ≤ length pre → kmer_to k (made s) (length pre) ≡ kmer k pre
  here pre post m le = ap (λ (l : List ℕ). kmer_to k l (length pre)) m ∙ window k pre post le

  -- ---- one base

  module _ (i : ℕ) (then : Asking ℕ) (b : ℕ) (pre post : List ℕ) (w : Stand) (m : made s ≡ pre ++ (b ∷ post)) (st : Stands k sol s i pre w) (le : i ≤ count s)
      (before : (j : ℕ) → j < i → Before j then → start s j + given s j ≤ length pre)
      (on-it : (j : ℕ) → then ≡ Some j → (j < i) × (start s j ≤ length pre) × (suc (length pre) ≤ start s j + given s j)) where
    made-is : made s ≡ (pre ++ (b ∷ [])) ++ post
    made-is = m ∙ sym (append_assoc pre (b ∷ []) post)

    next-kmer : add_base k w.kmer b ≡ kmer k (pre ++ (b ∷ []))
    next-kmer = ap (λ (y : Kmer). add_base k y b) st.kmer_is ∙ sym (add-snoc k pre b)

    -- the k-mer behind the base, where an edit asks for it
    asked-kmer : (j : ℕ) → j < count s → start s j ≤ suc (length pre) → kmer_to k (made s) (suc (length pre)) ≡ add_base k w.kmer b
    asked-kmer j lt g =
        let l = snoc-length pre b in
        let q : k ≤ length (pre ++ (b ∷ [])) = omega (arith, start-low k s all j lt) in
        subst (λ (x : ℕ). kmer_to k (made s) x ≡ kmer k (pre ++ (b ∷ []))) l (here (pre ++ (b ∷ [])) post made-is q) ∙ sym next-kmer

    -- it is solid, or no edit asks for it
    base_on : ((j : ℕ) → j < i → start s j ≤ suc (length pre) → suc (length pre) ≤ start s j + given s j + 1 → yes sol (add_base k w.kmer b) ≡ true)
        → Stands k sol s i (pre ++ (b ∷ [])) (stepped k then b w)
    unfolding stepped
    base_on sure =
        let l = snoc-length pre b in
        record {
          kmer_is = next-kmer;
          left_is = ap (next b) st.left_is ∙ sym (after-snoc pre b (some s.mended));
          seen = λ j x lt lo hi g. saw j x lt lo hi (omega arith) (eqb x (suc (length pre))) refl;
          earlier = λ j lt g. let h = before j lt g in omega arith;
          asked = λ j e. let h = on-it j e in (h.0, omega (arith, h.1), omega (arith, h.2));
        }
      where
        saw : (j x : ℕ) → j < i → start s j ≤ x → x ≤ start s j + given s j + 1 → x ≤ suc (length pre) → (t : Bool) → eqb x (suc (length pre)) ≡ t
            → yes sol (kmer_to k (made s) x) ≡ true
        saw j x lt lo hi g true q =
            let p = eqb-true x (suc (length pre)) q in
            let lo' : start s j ≤ suc (length pre) = omega arith in
            let hi' : suc (length pre) ≤ start s j + given s j + 1 = omega arith in
            let j-lt : j < count s = omega arith in
            ap (λ (y : ℕ). yes sol (kmer_to k (made s) y)) p ∙ ap (yes sol) (asked-kmer j j-lt lo') ∙ sure j lt lo' hi'
        saw j x lt lo hi g false q = let p = eqb-false x (suc (length pre)) q in st.seen j x lt lo hi (omega arith)

    base-off : (asks : ℕ) → w.asks ≡ Some asks → yes sol (add_base k w.kmer b) ≡ false → first_failing (supported k sol s) 0 (count s) ≡ some asks
    base-off asks is e =
        let h = st.asked asks is in
        let lt : asks < count s = omega (arith, h.0) in
        first-at (supported k sol s) 0 (count s) asks (omega arith) (omega arith)
        (supported-no k sol s asks (suc (length pre)) h.1 (omega (arith, h.2)) (ap (yes sol) (asked-kmer asks lt h.1) ∙ e))
        (λ j z g. supported-yes k sol s j
        (λ x lo hi.
        let j-lt : j < i = omega (arith, h.0) in
        let q = st.earlier j j-lt (subst (Before j) (sym is) g) in
        st.seen j x j-lt lo hi (omega arith)))

  -- ---- a part

  pass-goes : (i : ℕ) (then : Asking ℕ) (bs pre post : List ℕ) (w : Stand) → made s ≡ pre ++ (bs ++ post) → Stands k sol s i pre w → i ≤ count s
      → ((j : ℕ) → j < i → Before j then → start s j + given s j ≤ length pre)
      → ((j : ℕ) → then ≡ Some j → (j < i) × (start s j ≤ length pre) × (length pre + length bs ≤ start s j + given s j))
      → Goes k sol s i (pre ++ bs) (pass_over k sol then bs w)
  unfolding pass_over blamed
  pass-goes i then [] pre post w m st le before on-it = subst (λ (l : List ℕ). Stands k sol s i l w) (sym (append-nil pre)) st
  pass-goes i then (b ∷ bs) pre post w m st le before on-it =
      go
      (λ v.
      subst (λ (l : List ℕ). Goes k sol s i l (pass_over k sol then bs (stepped k then b w))) (append_assoc pre (b ∷ []) bs)
      (pass-goes i then bs (pre ++ (b ∷ [])) post (stepped k then b w) (m ∙ sym (append_assoc pre (b ∷ []) (bs ++ post))) v le
      (λ j lt g. let h = before j lt g in omega (arith, snoc-length pre b))
      (λ j e. let h = on-it j e in (h.0, omega (arith, h.1, snoc-length pre b), omega (arith, h.2, snoc-length pre b)))))
      w.asks refl (yes sol (add_base k w.kmer b)) refl
    where
      once : (j : ℕ) → then ≡ Some j → (j < i) × (start s j ≤ length pre) × (suc (length pre) ≤ start s j + given s j)
      once j e = let h = on-it j e in (h.0, h.1, omega (arith, h.2))

      go : (Stands k sol s i (pre ++ (b ∷ [])) (stepped k then b w) → Goes k sol s i (pre ++ (b ∷ bs)) (pass_over k sol then bs (stepped k then b w)))
          → (o : Asking ℕ) → w.asks ≡ o → (q : Bool) → yes sol (add_base k w.kmer b) ≡ q → Goes k sol s i (pre ++ (b ∷ bs)) (pass_over k sol then (b ∷ bs) w)
      go r (Some j) e true f = rw (e, pass_over, f, blamed) (r (base_on i then b pre (bs ++ post) w m st le before once (λ j lt lo hi. f)))
      go r (Some j) e false f = rw (e, pass_over, f, blamed) (base-off i then b pre (bs ++ post) w m st le before once j e f)
      go r None e q f =
          rw (e, pass_over, blamed)
          (r (base_on i then b pre (bs ++ post) w m st le before once
          (λ j lt lo hi. absurd (omega (arith, st.earlier j lt (subst (Before j) (sym e) tt))))))

  -- ---- an edit

  module _ (i : ℕ) (lt : i < count s) (post : List ℕ) (w : Stand) (m : made s ≡ (made_to s i ++ kept s i) ++ (letters_of s i ++ post))
      (st : Stands k sol s i (made_to s i ++ kept s i) w) where
    pre-length : length (made_to s i ++ kept s i) ≡ start s i
    unfolding start
    pre-length = length-append (made_to s i) (kept s i)

    kmer-here : kmer_to k (made s) (start s i) ≡ w.kmer
    kmer-here =
        let q : k ≤ length (made_to s i ++ kept s i) = omega (arith, pre-length, start-low k s all i lt) in
        subst (λ (x : ℕ). kmer_to k (made s) x ≡ kmer k (made_to s i ++ kept s i)) pre-length (here (made_to s i ++ kept s i) (letters_of s i ++ post) m q)
        ∙ sym st.kmer_is

    done : (j : ℕ) → j < i → start s j + given s j ≤ start s i
    done j l = omega (arith, ends-before k s all i j l (omega arith), made-le k s all i)

    -- where the base before is not solid no edit asks any more
    edit-off : yes sol w.kmer ≡ false → first_failing (supported k sol s) 0 (count s) ≡ some i
    edit-off e =
        first-at (supported k sol s) 0 (count s) i (omega arith) (omega arith)
        (supported-no k sol s i (start s i) (omega arith) (omega arith) (ap (yes sol) kmer-here ∙ e))
        (λ j z l. supported-yes k sol s j (λ x lo hi. fine j l x lo hi w.asks refl))
      where
        fine : (j : ℕ) → j < i → (x : ℕ) → start s j ≤ x → x ≤ start s j + given s j + 1 → (o : Asking ℕ) → w.asks ≡ o → yes sol (kmer_to k (made s) x) ≡ true
        fine j l x lo hi (Some a) q =
            let h = st.asked a q in
            let d = done a h.0 in
            let p = st.seen a (start s i) h.0 (omega arith) (omega (arith, h.2, pre-length)) (omega (arith, pre-length)) in
            absurd (true≢false (sym p ∙ ap (yes sol) kmer-here ∙ e))
        fine j l x lo hi None q = st.seen j x l lo hi (omega (arith, st.earlier j l (subst (Before j) (sym q) tt)))

    begun : yes sol w.kmer ≡ true
        → Stands k sol s (suc i) (made_to s i ++ kept s i) (record { kmer = w.kmer; asks = option_or w.asks (Some i); left = w.left })
    begun e =
        record {
          kmer_is = st.kmer_is;
          left_is = st.left_is;
          seen = λ j x l lo hi g. saw j x l lo hi g (eqb j i) refl;
          earlier = λ j l g. before w.asks refl j l g;
          asked = λ j q. asks w.asks refl j q;
        }
      where
        saw : (j x : ℕ) → j < suc i → start s j ≤ x → x ≤ start s j + given s j + 1 → x ≤ length (made_to s i ++ kept s i) → (t : Bool) → eqb j i ≡ t
            → yes sol (kmer_to k (made s) x) ≡ true
        saw j x l lo hi g true q =
            let p = eqb-true j i q in
            let lo' : start s i ≤ x = subst (λ (z : ℕ). start s z ≤ x) p lo in
            let r : x ≡ start s i = omega (arith, pre-length) in
            ap (λ (z : ℕ). yes sol (kmer_to k (made s) z)) r ∙ ap (yes sol) kmer-here ∙ e
        saw j x l lo hi g false q = let p = eqb-false j i q in st.seen j x (omega arith) lo hi g

        before : (o : Asking ℕ) → w.asks ≡ o → (j : ℕ) → j < suc i → Before j (option_or o (Some i)) → start s j + given s j + 1 ≤ length (made_to s i ++ kept s i)
        before (Some a) q j l g = let h = st.asked a q in st.earlier j (omega (arith, h.0)) (subst (Before j) (sym q) g)
        before None q j l g = st.earlier j g (subst (Before j) (sym q) tt)

        asks : (o : Asking ℕ) → w.asks ≡ o → (j : ℕ) → option_or o (Some i) ≡ Some j
            → (j < suc i) × (start s j ≤ suc (length (made_to s i ++ kept s i))) × (length (made_to s i ++ kept s i) ≤ start s j + given s j)
        asks (Some a) q j e = let h = st.asked j (q ∙ e) in (omega (arith, h.0), h.1, h.2)
        asks None q j e =
            let r : i ≡ j = some-same e in
            rw (← r) (omega arith, omega (arith, pre-length), omega (arith, pre-length))

    edit-goes : Goes k sol s (suc i) (made_to s (suc i)) (at_edit k sol i (letters_of s i) w)
    unfolding at_edit made_to
    edit-goes = go (yes sol w.kmer) refl
      where
        go : (t : Bool) → yes sol w.kmer ≡ t → Goes k sol s (suc i) (made_to s i ++ (kept s i ++ letters_of s i)) (at_edit k sol i (letters_of s i) w)
        go false e = rw (e, at_edit) (edit-off e)
        go true e =
            rw (e, at_edit)
            (subst
            (λ (l : List ℕ). Goes k sol s (suc i) l (pass_over k sol (Some i) (letters_of s i) (record { kmer = w.kmer; asks = option_or w.asks (Some i); left = w.left })))
            (append_assoc (made_to s i) (kept s i) (letters_of s i))
            (pass-goes (suc i) (Some i) (letters_of s i) (made_to s i ++ kept s i) post (record { kmer = w.kmer; asks = option_or w.asks (Some i); left = w.left }) m (begun e) lt
            (λ j l g. omega (arith, done j g, pre-length))
            (λ j q.
            let r : i ≡ j = some-same q in
            rw (← r) (omega arith, omega (arith, pre-length), omega (arith, pre-length, letters-length k s all i lt)))))

  -- ---- all edits

  -- What comes behind the first i edits, with m to come.
  ahead : ℕ → ℕ → List ℕ
  ahead zero i = rest s
  ahead (suc m) i = kept s i ++ (letters_of s i ++ ahead m (suc i))

  made-split : (m i : ℕ) → i + m ≡ count s → made s ≡ made_to s i ++ ahead m i
  unfolding made made_to ahead
  made-split zero i e = let q : count s ≡ i = omega arith in ap (λ (x : ℕ). made_to s x ++ rest s) q
  made-split (suc m) i e =
      made-split m (suc i) (omega arith)
      ∙ append_assoc (made_to s i) (kept s i ++ letters_of s i) (ahead m (suc i))
      ∙ ap (λ (l : List ℕ). made_to s i ++ l) (append_assoc (kept s i) (letters_of s i) (ahead m (suc i)))

  then-goes : (i : ℕ) (pre : List ℕ) (r : Walked) (f : Stand → Walked) (j : ℕ) (last : List ℕ) → Goes k sol s i pre r
      → ((w : Stand) → Stands k sol s i pre w → Goes k sol s j last (f w)) → Goes k sol s j last (and_then r f)
  unfolding and_then
  then-goes i pre (on w) f j last h g = g w h
  then-goes i pre (offends x) f j last h g = h

  walk-goes : (m i : ℕ) (w : Stand) → i + m ≡ count s → Stands k sol s i (made_to s i) w → Goes k sol s (count s) (made s) (walk_from k sol s m i w)
  unfolding walk_from over_edit ahead
  walk-goes zero i w e st =
      let q : i ≡ count s = omega arith in
      let p = pass-goes i None (rest s) (made_to s i) [] w (made-split zero i e ∙ ap (λ (l : List ℕ). made_to s i ++ l) (sym (append-nil (rest s)))) st (omega arith)
      (λ j l g. ends-before k s all i j l (omega arith)) (λ j. none-asks) in
      subst (λ (l : List ℕ). Goes k sol s (count s) l (pass_over k sol None (rest s) w)) (sym (made-split zero i e))
      (subst (λ (x : ℕ). Goes k sol s x (made_to s i ++ rest s) (pass_over k sol None (rest s) w)) q p)
  walk-goes (suc m) i w e st =
      let lt : i < count s = omega arith in
      let sp = made-split (suc m) i e in
      then-goes (suc i) (made_to s (suc i)) (over_edit k sol i (kept s i) (letters_of s i) w) (walk_from k sol s m (suc i)) (count s) (made s)
      (then-goes i (made_to s i ++ kept s i) (pass_over k sol None (kept s i) w) (at_edit k sol i (letters_of s i)) (suc i) (made_to s (suc i))
      (pass-goes i None (kept s i) (made_to s i) (letters_of s i ++ ahead m (suc i)) w sp st (omega arith)
      (λ j l g. ends-before k s all i j l (omega arith)) (λ j. none-asks))
      (λ v h. edit-goes i lt (ahead m (suc i)) v (sp ∙ sym (append_assoc (made_to s i) (kept s i) (letters_of s i ++ ahead m (suc i)))) h))
      (λ v h. walk-goes m (suc i) v (omega arith) h)

  starts : Stands k sol s 0 [] (begins k s.mended)
  unfolding begins after_all
  starts =
      record {
        kmer_is = refl;
        left_is = refl;
        seen = λ j x l. absurd (omega arith);
        earlier = λ j l. absurd (omega arith);
        asked = λ j. none-asks;
      }

  pub whole-goes : Goes k sol s (count s) (made s) (walk k sol s)
  unfolding walk made_to
  whole-goes = walk-goes (count s) 0 (begins k s.mended) (omega arith) starts

  -- a walk to the end has paid every edit
  pub all_paid : (w : Stand) → Stands k sol s (count s) (made s) w → first_failing (supported k sol s) 0 (count s) ≡ none
  unfolding made
  all_paid w st =
      none-failing (supported k sol s) 0 (count s)
      (λ j z l.
      supported-yes k sol s j
      (λ x lo hi.
      st.seen j x (omega arith) lo hi
      (let e = ends-before k s all (count s) j (omega arith) (omega arith) in
      let r = rest_some k s all (omega arith) in
      omega (arith, length-append (made_to s (count s)) (rest s)))))
