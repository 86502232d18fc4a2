-- The theorem `few`: a set of n keys has at most 2n solid k-mers, since each is a key or the reverse complement of one. Serves demand 3.
use Prim.Native.Nat.{ℕ, suc, ◌*◌, ◌^◌, ◌≤◌, ◌<◌}
use native.Mathlib.Omega.{arith}
use borrow.Author.Tests.{eqb-true, eqb-false, eq-eqb}
use mathlib.Core.Path.{◌≡◌, refl, sym, ap, ◌∙◌, subst}
use mathlib.Core.Bool.{Bool, true, false, ◌||◌, true≢false, false≢true}
use mathlib.Core.List.{List, [], ◌∷◌, ◌++◌, map}
use lib.ListN.{length, take, drop, length-append, length-map, take-append-drop}
use lib.Seq.{slice}
use lib.Dec.{eqb}
use Rattle.rules.specs.Letters.{Kmer, among, same, met, revcomp, even_ones, canonical}
use Rattle.rules.specs.Set.{KmerSet, range_start, range_end, keys_for, solid}
use Rattle.rules.specs.Scan.{ask}
use Rattle.rules.specs.Graph.{All, end, also, Distinct, also-distinct}
use Rattle.rules_laws.proofs.Kmer.{Known, same_code, revcomp-twice}
use Rattle.rules_laws.proofs.Lookup.{solid-is}
use Rattle.rules_laws.proofs.Scan.{ask-known, ask-is}

pub or_right : (t : Bool) {q : Bool} → q ≡ true → t || q ≡ true
or_right true h = refl
or_right false h = h

pub or-false : (t q : Bool) → t || q ≡ false → (t ≡ false) × (q ≡ false)
or-false true q h = absurd (true≢false h)
or-false false q h = (refl, h)

-- ---- the pigeonhole

-- ys without its first x
without : ℕ → List ℕ → List ℕ
without x [] = []
without x (y ∷ ys) = elim (eqb x y) [ true ↦ ys | false ↦ y ∷ without x ys ]

without-length : (x : ℕ) (ys : List ℕ) → among x ys ≡ true → suc (length (without x ys)) ≡ length ys
unfolding without among
without-length x [] h = absurd (false≢true h)
without-length x (y ∷ ys) h = go (without-length x ys) (eqb x y) refl h
  where
    go : (among x ys ≡ true → suc (length (without x ys)) ≡ length ys) → (t : Bool) → eqb x y ≡ t → t || among x ys ≡ true → suc (length (without x (y ∷ ys))) ≡ suc (length ys)
    go i true e h = rw (e, without)
    go i false e h = rw (e, without) (ap suc (i h))

without-among : (x z : ℕ) (ys : List ℕ) → (z ≡ x → ⊥) → among z ys ≡ true → among z (without x ys) ≡ true
unfolding without among
without-among x z [] n h = h
without-among x z (y ∷ ys) n h = go (without-among x z ys n) (eqb x y) refl (eqb z y) refl h
  where
    go : (among z ys ≡ true → among z (without x ys) ≡ true) → (t : Bool) → eqb x y ≡ t → (q : Bool) → eqb z y ≡ q → q || among z ys ≡ true → among z (without x (y ∷ ys)) ≡ true
    go i true e true f h = absurd (n (eqb-true z y f ∙ sym (eqb-true x y e)))
    go i true e false f h = rw (e, without) h
    go i false e true f h = rw (e, without, f)
    go i false e false f h = rw (e, without, f) (i h)

-- a k-mer without unknown letters whose code stands in ys
Stands : List ℕ → Kmer → Type 0
Stands ys z = Known z × (among z.code ys ≡ true)

fewer : (x : Kmer) (xs : List Kmer) (ys : List ℕ) → Known x → met x xs ≡ false → All (Stands ys) xs → All (Stands (without x.code ys)) xs
unfolding met Stands
fewer x [] ys kx n end = end
fewer x (z ∷ xs) ys kx n (also h hs) = go (fewer x xs ys kx) (same x z) refl n
  where
    go : (met x xs ≡ false → All (Stands ys) xs → All (Stands (without x.code ys)) xs) → (t : Bool) → same x z ≡ t → t || met x xs ≡ false
        → All (Stands (without x.code ys)) (z ∷ xs)
    go i true e n = absurd (true≢false n)
    go i false e n =
        let d : eqb x.code z.code ≡ false = sym (same_code x z kx h.0) ∙ e in
        also (h.0, without-among x.code z.code ys (λ q. eqb-false x.code z.code d (sym q)) h.1) (i n hs)

-- distinct k-mers whose codes all stand in ys are no more than ys has
pigeonhole : (xs : List Kmer) (ys : List ℕ) → Distinct xs → All (Stands ys) xs → length xs ≤ length ys
unfolding Stands
pigeonhole [] ys d h = omega arith
pigeonhole (x ∷ xs) ys (also-distinct n d) (also h hs) =
    omega (arith, pigeonhole xs (without x.code ys) d (fewer x xs ys h.0 n hs), without-length x.code ys h.1)

-- ---- the keys and their reverse complements

among-left : (y : ℕ) (us bs : List ℕ) → among y us ≡ true → among y (us ++ bs) ≡ true
unfolding among
among-left y [] bs h = absurd (false≢true h)
among-left y (a ∷ us) bs h = go (among-left y us bs) (eqb y a) refl h
  where
    go : (among y us ≡ true → among y (us ++ bs) ≡ true) → (t : Bool) → eqb y a ≡ t → t || among y us ≡ true → t || among y (us ++ bs) ≡ true
    go i true e h = refl
    go i false e h = i h

among-right : (y : ℕ) (us bs : List ℕ) → among y bs ≡ true → among y (us ++ bs) ≡ true
unfolding among
among-right y [] bs h = h
among-right y (a ∷ us) bs h = or_right (eqb y a) (among-right y us bs h)

-- what stands in a part of a list stands in it
among-part : (y lo hi : ℕ) (us : List ℕ) → among y (slice lo hi us) ≡ true → among y us ≡ true
among-part y lo hi us h = below (behind h)
  where
    behind : among y (slice lo hi us) ≡ true → among y (take hi us) ≡ true
    behind g =
        subst (λ (ws : List ℕ). among y ws ≡ true) (take-append-drop lo (take hi us)) (among-right y (take lo (take hi us)) (slice lo hi us) g)

    below : among y (take hi us) ≡ true → among y us ≡ true
    below g = subst (λ (ws : List ℕ). among y ws ≡ true) (take-append-drop hi us) (among-left y (take hi us) (drop hi us) g)

among-map : (f : ℕ → ℕ) (y : ℕ) (us : List ℕ) → among y us ≡ true → among (f y) (map f us) ≡ true
unfolding among
among-map f y [] h = absurd (false≢true h)
among-map f y (a ∷ us) h = go (among-map f y us) (eqb y a) refl h
  where
    go : (among y us ≡ true → among (f y) (map f us) ≡ true) → (t : Bool) → eqb y a ≡ t → t || among y us ≡ true → eqb (f y) (f a) || among (f y) (map f us) ≡ true
    go i true e h = rw (eq-eqb (f y) (f a) (ap f (eqb-true y a e)))
    go i false e h = or_right (eqb (f y) (f a)) (i h)

-- a solid k-mer of k letters
unfoldable pub SolidKmer : ℕ → (ℕ → Bool) → Kmer → Type 0
SolidKmer k sol y = (y.code < 4 ^ k) × ((ask sol y).answer ≡ true)

-- n holds for what is solid: distinct solid k-mers are at most 2n
unfoldable pub Few : ℕ → ℕ → (ℕ → Bool) → Type 0
Few k n sol = (ys : List Kmer) → Distinct ys → All (SolidKmer k sol) ys → length ys ≤ 2 * n

-- only keys are looked at
looked-at : (k : ℕ) (keys index counts : List ℕ) (y key : ℕ)
    → among y (keys_for (record { k = k; keys = keys; index = index; counts = counts }) key) ≡ true → among y keys ≡ true
unfolding keys_for
looked-at k keys [] counts y key h = h
looked-at k keys (b ∷ bs) counts y key h =
    let s : KmerSet = record { k = k; keys = keys; index = b ∷ bs; counts = counts } in
    among-part y (range_start s key) (range_end s key) keys h

module _ (set : KmerSet) where
  -- the keys, and their reverse complements
  both : List ℕ
  both = set.keys ++ map (revcomp set.k) set.keys

  -- a solid code's canonical code is a key, whatever is offered
  pub solid-among : (y : ℕ) → solid set y ≡ true → among (canonical set.k y) set.keys ≡ true
  solid-among y h =
      looked-at set.k set.keys set.index set.counts (canonical set.k y) (canonical set.k y) (sym (solid-is set y) ∙ h)

  covers : (y : ℕ) → y < 4 ^ set.k → solid set y ≡ true → among y both ≡ true
  unfolding canonical both
  covers y lt h = go (even_ones set.k y) refl
    where
      key : among (canonical set.k y) set.keys ≡ true
      key = solid-among y h

      go : (t : Bool) → even_ones set.k y ≡ t → among y both ≡ true
      go true e = among-left y set.keys (map (revcomp set.k) set.keys) (rw (e, canonical) at key)
      go false e =
          among-right y set.keys (map (revcomp set.k) set.keys)
          (subst (λ (z : ℕ). among z (map (revcomp set.k) set.keys) ≡ true) (revcomp-twice set.k y lt)
          (among-map (revcomp set.k) (revcomp set.k y) set.keys (rw (e, canonical) at key)))

  cover_all : (ys : List Kmer) → All (SolidKmer set.k (solid set)) ys → All (Stands both) ys
  unfolding SolidKmer Stands
  cover_all [] end = end
  cover_all (y ∷ ys) (also h hs) =
      let kn : Known y = ask-known (solid set) y h.1 in
      also (kn, covers y.code h.0 (sym (ask-is (solid set) y kn) ∙ h.1)) (cover_all ys hs)

  -- A list of distinct solid k-mers is no longer than 2n.
  pub few : Few set.k (length set.keys) (solid set)
  unfolding Few both
  few ys d h =
      omega (arith, pigeonhole ys both d (cover_all ys h), length-append set.keys (map (revcomp set.k) set.keys), length-map set.keys (revcomp set.k))
