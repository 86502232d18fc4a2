-- Laws of the sole successor in the code's terms.
use Prim.Native.Nat.{ℕ, zero, suc, ◌+◌, ◌*◌, ◌≤◌, ◌<◌}
use native.Mathlib.Omega.{arith}
use native.Mathlib.Decide.{ℕ_discrete}
use native.Mathlib.Nat.{zero-mod}
use mathlib.Core.Path.{◌≡◌, refl, sym, ap, ap₂, ◌∙◌}
use mathlib.Core.Bool.{Bool, true, false, not, false≢true}
use mathlib.Core.Option.{Option, none, some}
use mathlib.Core.List.{List, [], ◌∷◌}
use lib.ListN.{length, get_or, set as put}
use lib.Dec.{lit<, ltb}
use lib.Seq.{get_or-set_same, get_or-set_other}
use mir.Val.{bool_byte as bit}
use Rattle.rules.specs.Letters.{Kmer, add, add_base, add_all, drop_last, last, last_letter, in_place}
use Rattle.rules.specs.Set.{KmerSet, lookup, is_none, solid}
use Rattle.rules.specs.Counted.{Counted, Try, give, ◌>>=◌, next, after, refuse}
use Rattle.rules.specs.Scan.{ask, only, yes_from, successor, successors, four_cost, u, sole, alternative}
use Rattle.rules_laws.proofs.Kmer.{Known, add-unknown, ne-known, last_one}
use Rattle.rules_laws.proofs.Scan.{ask-known, ask-is, ask-none, only_yes, sole-lookups, sole-cost, four-cost, four-free, sole-four}
use Rattle.rules_laws.proofs.Scan.{sole-is as only-is}
use Rattle.kmer.specs.declared.Kmer.{Kmer as KmerOf}
use Rattle.kmer.specs.Kmer.{kmer_of, IsKmer, HasLetters}
use Rattle.kmer.proofs.Laws.{code_is}
use Rattle.std.specs.Prelude.{Option as Maybe, Some, None}
use Rattle.set.specs.Found.{place_in}
use Rattle.set.proofs.Among.{place-solid}
use Rattle.successors.specs.Successors.{nuc_of, place_at, places_of}

-- ---- the sole successor

-- the sum, if the count is 1
abbrev choice : ℕ → ℕ → Option ℕ
choice zero n = none
choice (suc zero) n = some n
choice (suc (suc m)) n = none

choose-four : (a c t g : Bool)
    → choice (bit a + bit c + bit t + bit g) (bit c + 2 * bit t + 3 * bit g) ≡ only (yes_from 0 (a ∷ c ∷ t ∷ g ∷ []))
unfolding only yes_from
choose-four true true true true = refl
choose-four true true true false = refl
choose-four true true false true = refl
choose-four true true false false = refl
choose-four true false true true = refl
choose-four true false true false = refl
choose-four true false false true = refl
choose-four true false false false = refl
choose-four false true true true = refl
choose-four false true true false = refl
choose-four false true false true = refl
choose-four false true false false = refl
choose-four false false true true = refl
choose-four false false true false = refl
choose-four false false false true = refl
choose-four false false false false = refl

-- a list of four by its elements
pub four-listed : {A : Type 0} (d : A) (p : List A) → length p ≡ 4 → p ≡ get_or p 0 d ∷ get_or p 1 d ∷ get_or p 2 d ∷ get_or p 3 d ∷ []
four-listed d [] e = absurd (omega arith)
four-listed d (a ∷ []) e = absurd (omega arith)
four-listed d (a ∷ b ∷ []) e = absurd (omega arith)
four-listed d (a ∷ b ∷ c ∷ []) e = absurd (omega arith)
four-listed d (a ∷ b ∷ c ∷ g ∷ []) e = refl
four-listed d (a ∷ b ∷ c ∷ g ∷ f ∷ p) e = absurd (omega arith)

module _ (l : List Bool) where
  -- how many of four answers are yes, and the sum of their places
  abbrev count : ℕ
  count = bit (get_or l 0 false) + bit (get_or l 1 false) + bit (get_or l 2 false) + bit (get_or l 3 false)

  abbrev sum : ℕ
  sum = bit (get_or l 1 false) + 2 * bit (get_or l 2 false) + 3 * bit (get_or l 3 false)

  pub bit_le : (i : ℕ) → bit (get_or l i false) ≤ 1
  bit_le i = go (get_or l i false)
    where
      go : (b : Bool) → bit b ≤ 1
      go true = omega arith
      go false = omega arith

  chosen : length l ≡ 4 → choice count sum ≡ only (yes_from 0 l)
  chosen e = choose-four _ _ _ _ ∙ ap (λ (m : List Bool). only (yes_from 0 m)) (sym (four-listed false l e))

  pub chosen-one : length l ≡ 4 → count ≡ 1 → some sum ≡ only (yes_from 0 l)
  chosen-one e h = sym (ap (λ (n : ℕ). choice n sum) h) ∙ chosen e

  pub chosen_none : length l ≡ 4 → (count ≡ 1 → ⊥) → none ≡ only (yes_from 0 l)
  chosen_none e h = refused count h ∙ chosen e
    where
      refused : (n : ℕ) → (n ≡ 1 → ⊥) → none ≡ choice n sum
      refused zero g = refl
      refused (suc zero) g = absurd (g refl)
      refused (suc (suc n)) g = refl

module _ (k : ℕ) (sol : ℕ → Bool) (y : Kmer) where
  abbrev sole_by : Option ℕ → Try Kmer
  unfolding after next give refuse add
  sole_by o = after (four_cost k sol y) (next o (λ a. give (add k y a)))

  sole-is : sole k sol y ≡ sole_by (only (yes_from 0 (successors k sol y)))
  unfolding sole u give ◌>>=◌ next after refuse
  sole-is = refl

  pub alternative-is : alternative k sol y ≡ sole k sol (drop_last y)
  unfolding alternative
  alternative-is = refl

  pub sole-refused : {l : ℕ} → (sole k sol y).answer ≡ none → l ≡ four_cost k sol y → sole k sol y ≡ record { answer = none; lookups = l }
  sole-refused e f = λ i. record { answer = e i; lookups = (sole-lookups k sol y ∙ sym f) i }

  pub alternative-few : {o : Option Kmer} {l : ℕ} → alternative k sol y ≡ record { answer = o; lookups = l } → l ≤ 4
  unfolding alternative
  alternative-few e = omega (arith, sole-cost k sol (drop_last y), ap (λ (t : Try Kmer). t.lookups) e)

  -- a k-mer found solid has no unknown letter
  pub sole-known : (z : Kmer) → (sole k sol y).answer ≡ some z → Known z
  sole-known z e = ask-known sol z (only-is k sol y z e).solid_found

  pub alternative-known : {z : Kmer} {l : ℕ} → alternative k sol y ≡ record { answer = some z; lookups = l } → Known z
  unfolding alternative
  alternative-known {z} e = ask-known sol z (only-is k sol (drop_last y) z (ap (λ (t : Try Kmer). t.answer) e)).solid_found

  -- the code's choice r among the answers f
  module _ {f : List Bool} (r : Maybe ℕ) (found : f ≡ successors k sol y) (choice-is : nuc_of r ≡ only (yes_from 0 f)) where
    by : only (yes_from 0 (successors k sol y)) ≡ nuc_of r
    by = ap (λ (l : List Bool). only (yes_from 0 l)) (sym found) ∙ sym choice-is

    pub no-next : r ≡ None → (sole k sol y).answer ≡ none
    unfolding sole_by next after refuse
    no-next e = ap (λ (t : Try Kmer). t.answer) (sole-is ∙ ap sole_by (by ∙ ap nuc_of e))

    pub next-is : (a : ℕ) → r ≡ Some a → (sole k sol y).answer ≡ some (add k y a)
    unfolding sole_by next after give
    next-is a e = ap (λ (t : Try Kmer). t.answer) (sole-is ∙ ap sole_by (by ∙ ap nuc_of e))

    -- y' is y and that letter
    pub next-kmer : (a : ℕ) {y' : KmerOf} → r ≡ Some a → HasLetters k (add k y a) y' → ((sole k sol y).answer ≡ some (kmer_of y')) × IsKmer k y'
    next-kmer a e h = (next-is a e ∙ ap {B = Option Kmer} some (sym h.is), h.kmer)

    pub nuc-lt : (a : ℕ) → r ≡ Some a → a < 4
    unfolding successors
    nuc-lt a e = let w = only_yes 0 (successors k sol y) a (by ∙ ap nuc_of e) in omega (arith, w.1, w.2.inside)

-- ---- unknown letters among the four

-- The four have all letters but the last in common: what holds of y+A's unknown letters holds of the others'.
module _ (k : ℕ) (y : Kmer) (low : 1 ≤ k) where
  -- those of a k-mer without unknown letters hold none
  pub known-asked : Known y → Known (add k y 0)
  known-asked h = go k low
    where
      go : (n : ℕ) → 1 ≤ n → Known (add n y 0)
      go zero n = absurd (omega arith)
      go (suc j) n = add-unknown j y 0 (lit< tt) ∙ rw (h, zero-mod) (omega arith)

  pub four-known : Known (add k y 0) → (a : ℕ) → a < 4 → Known (add k y a)
  four-known h a l = go k low h
    where
      go : (n : ℕ) → 1 ≤ n → Known (add n y 0) → Known (add n y a)
      go zero n h = absurd (omega arith)
      go (suc j) n h = add-unknown j y a l ∙ sym (add-unknown j y 0 (lit< tt)) ∙ h

  module _ (sol : ℕ → Bool) where
    -- the successors of a k-mer without unknown letters cost 4
    pub known-four : Known y → (sole k sol y).lookups ≡ 4
    known-four h = go k low
      where
        go : (n : ℕ) → 1 ≤ n → (sole n sol y).lookups ≡ 4
        go zero n = absurd (omega arith)
        go (suc j) n = sole-lookups (suc j) sol y ∙ four-cost j sol y (rw h (zero-mod _))

    -- and so do those of any with a sole one
    pub sole-found : (z : Kmer) → (sole k sol y).answer ≡ some z → sole k sol y ≡ record { answer = some z; lookups = 4 }
    sole-found z e = λ i. record { answer = e i; lookups = go k low e i }
      where
        go : (n : ℕ) → 1 ≤ n → (sole n sol y).answer ≡ some z → (sole n sol y).lookups ≡ 4
        go zero n e = absurd (omega arith)
        go (suc j) n e = sole-four j sol y z e

    pub four-made : Known (add k y 0) → four_cost k sol y ≡ 4
    four-made h = go k low h
      where
        go : (n : ℕ) → 1 ≤ n → Known (add n y 0) → four_cost n sol y ≡ 4
        go zero n h = absurd (omega arith)
        go (suc j) n h = four-cost j sol y (omega (arith, add-unknown j y 0 (lit< tt)))

    pub none_made : (Known (add k y 0) → ⊥) → four_cost k sol y ≡ 0
    none_made h = go k low h
      where
        go : (n : ℕ) → 1 ≤ n → (Known (add n y 0) → ⊥) → four_cost n sol y ≡ 0
        go zero n h = absurd (omega arith)
        go (suc j) n h = four-free j sol y (λ e. h (omega (arith, add-unknown j y 0 (lit< tt))))

    pub four-no : (Known (add k y 0) → ⊥) → successors k sol y ≡ false ∷ false ∷ false ∷ false ∷ []
    unfolding successors successor
    four-no h = rw (no 0 (lit< tt), no 1 (lit< tt), no 2 (lit< tt), no 3 (lit< tt))
      where
        back : (n : ℕ) → 1 ≤ n → (a : ℕ) → a < 4 → Known (add n y a) → Known (add n y 0)
        back zero n a l e = absurd (omega arith)
        back (suc j) n a l e = add-unknown j y 0 (lit< tt) ∙ sym (add-unknown j y a l) ∙ e

        no : (a : ℕ) → a < 4 → (ask sol (add k y a)).answer ≡ false
        no a l = ap (λ (t : Counted Bool). t.answer) (ask-none sol (add k y a) (ne-known (add k y a) (λ e. h (back k low a l e))))

    -- what they cost tells whether they are asked
    pub four-asked : (four_cost k sol y ≡ 0 → ⊥) → Known (add k y 0)
    four-asked n = elim (ℕ_discrete (add k y 0).unknown 0) [ yes e ↦ e | no u ↦ absurd (n (none_made u)) ]

    pub sole_none : four_cost k sol y ≡ 0 → (sole k sol y).answer ≡ none
    unfolding sole_by next after refuse only yes_from
    sole_none z =
        let u : Known (add k y 0) → ⊥ = λ h. (let q = four-made h in omega arith) in
        ap (λ (t : Try Kmer). t.answer) (sole-is k sol y ∙ ap (λ (l : List Bool). sole_by k sol y (only (yes_from 0 l))) (four-no u))

-- ---- a k-mer given back by its last letter

pub letter-back : (k : ℕ) (sol : ℕ → Bool) (y z : Kmer) → 1 ≤ k → (sole k sol y).answer ≡ some z → add_base k y (last_letter z) ≡ z
unfolding add_all last
letter-back zero sol y z l e = absurd (omega arith)
letter-back (suc j) sol y z l e = let o = only-is (suc j) sol y z e in rw o.is (last_one j y o.by o.by_lt)

-- the sole alternative stands in the place of the bad k-mer y
pub alternative-back : (k : ℕ) (sol : ℕ → Bool) (y : Kmer) {x : Kmer} {l : ℕ} → 1 ≤ k → alternative k sol y ≡ record { answer = some x; lookups = l }
    → in_place k y (last_letter x ∷ []) ≡ x
unfolding alternative in_place add_all
alternative-back k sol y {x} low e = letter-back k sol (drop_last y) x low (ap (λ (t : Try Kmer). t.answer) e)

-- and letters that follow its own lead on from it
pub leads-on : (k : ℕ) (y x : Kmer) (ls : List ℕ) → in_place k y (last_letter x ∷ []) ≡ x → in_place k y (last_letter x ∷ ls) ≡ add_all k x ls
unfolding in_place add_all
leads-on k y x ls h = ap (λ (z : Kmer). add_all k z ls) h

-- ---- the places of the four

-- what a lookup of the successor by a, which is the code's z, is told as: the place p among n keys
module _ (set : KmerSet) (k : ℕ) (y : Kmer) (a : ℕ) {z : KmerOf} (h : HasLetters k (add k y a) z) (n p : ℕ) (n_is : n ≡ length set.keys)
    (told : p ≡ place_in n (lookup set z.code)) where
  pub place_at_lem : p ≡ place_at set k y a
  place_at_lem = told ∙ ap₂ (λ (m c : ℕ). place_in m (lookup set c)) n_is (code_is h)

-- the places of the letters before i stand, and v is that of i
pub placed : (set : KmerSet) (k : ℕ) (y : Kmer) (ps : List ℕ) (i v : ℕ) → i < length ps
    → ((a : ℕ) → a < i → get_or ps a 0 ≡ place_at set k y a) → v ≡ place_at set k y i → (a : ℕ) → a < i + 1 → get_or (put ps i v) a 0 ≡ place_at set k y a
placed set k y ps i v l before here a h = elim (ℕ_discrete a i) [
  | yes e ↦ rw e (get_or-set_same ps i v 0 l ∙ here)
  | no n ↦ get_or-set_other ps i a v 0 n ∙ before a (omega arith)
]

-- a place below the number of keys answers the successor by a
pub place-solid-at : (set : KmerSet) (k : ℕ) (y : Kmer) (a n p : ℕ) → n ≡ length set.keys → p ≡ place_at set k y a → Known (add k y a)
    → ltb p n ≡ (ask (solid set) (add k y a)).answer
place-solid-at set k y a n p n_is told known =
    place-solid set (add k y a).code n p n_is (told ∙ ap (λ (m : ℕ). place_in m (lookup set (add k y a).code)) (sym n_is))
    ∙ sym (ask-is (solid set) (add k y a) known)

-- where the sole successor is the one by a, the place of that letter is its key's
module _ (set : KmerSet) (k : ℕ) (y z : Kmer) (a : ℕ) (e : (sole k (solid set) y).answer ≡ some z) (z-is : z ≡ add k y a) (l : a < 4) where
  pub sole-place : lookup set z.code ≡ some (get_or (places_of set k y) a 0)
  unfolding solid is_none
  sole-place = there (lookup set z.code) refl
    where
      found : solid set z.code ≡ true
      found = (let w = (only-is k (solid set) y z e).solid_found in sym (ask-is (solid set) z (ask-known (solid set) z w)) ∙ w)

      at : (b : ℕ) → b < 4 → get_or (places_of set k y) b 0 ≡ place_at set k y b
      at zero l = refl
      at (suc zero) l = refl
      at (suc (suc zero)) l = refl
      at (suc (suc (suc zero))) l = refl
      at (suc (suc (suc (suc b)))) l = absurd (omega arith)

      there : (o : Option ℕ) → lookup set z.code ≡ o → lookup set z.code ≡ some (get_or (places_of set k y) a 0)
      there none f = absurd (false≢true (ap (λ (o : Option ℕ). not (is_none o)) (sym f) ∙ found))
      there (some i) f =
          f ∙ ap {B = Option ℕ} some (sym (at a l ∙ ap (λ (v : Kmer). place_in (length set.keys) (lookup set v.code)) (sym z-is) ∙ ap (place_in (length set.keys)) f))

-- the code's choice r among the answers f, and its key's index
module _ (set : KmerSet) (k : ℕ) (y : Kmer) {f : List Bool} (r : Maybe ℕ) (found : f ≡ successors k (solid set) y) (choice-is : nuc_of r ≡ only (yes_from 0 f)) where
  pub alt-kmer : (a : ℕ) {x : KmerOf} {ps : List ℕ} → 1 ≤ k → r ≡ Some a → HasLetters k (add k y a) x → ps ≡ places_of set k y
      → (sole k (solid set) y ≡ record { answer = some (kmer_of x); lookups = 4 }) × IsKmer k x × (lookup set x.code ≡ some (get_or ps a 0))
  unfolding kmer_of
  alt-kmer a {x} {ps} low e h ps-is =
      let s : (sole k (solid set) y).answer ≡ some (kmer_of x) = next-is k (solid set) y r found choice-is a e ∙ ap {B = Option Kmer} some (sym h.is) in (
        sole-found k y low (solid set) (kmer_of x) s,
        h.kmer,
        sole-place set k y (kmer_of x) a s h.is (nuc-lt k (solid set) y r found choice-is a e) ∙ ap (λ (l : List ℕ). some (get_or l a 0)) (sym ps-is),
      )
