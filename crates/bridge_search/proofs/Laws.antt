-- The search in the code's terms.
use Prim.Native.Nat.{ℕ, zero, suc, ◌+◌, ◌-◌, ◌≤◌, ◌<◌}
use native.Mathlib.Omega.{arith}
use native.Mathlib.Numerals.{add-one}
use borrow.Author.Tests.{lt-ltb, le-ltb, eq-eqb, ne_eqb}
use mathlib.Core.Path.{◌≡◌, refl, sym, ap, ap₂, ◌∙◌, subst}
use mathlib.Core.Bool.{Bool, true, false}
use mathlib.Core.List.{List, [], ◌∷◌, ◌++◌, append_assoc}
use lib.Dec.{lit<}
use lib.ListN.{length, get_or, set, replicate, length-replicate, replicate-append-replicate}
use lib.Seq.{set_at}
use Rattle.rules.specs.Letters as letters
use Rattle.rules.specs.Letters.{push, add, letter}
use Rattle.rules.specs.Counted.{Counted}
use Rattle.rules.specs.Scan.{ask, successor, successors}
use Rattle.rules_laws.proofs.Scan.{ask-is}
use Rattle.rules_bridge.proofs.Codes.{add-known}
use Rattle.rules_bridge.specs.Bridge.{known, End, found, tried, stopped, before, ends, go_on, in_order, from_letter, from_kmer}
use Rattle.kmer.specs.declared.Kmer.{Kmer}
use Rattle.kmer.specs.Kmer.{kmer_of}
use Rattle.bridge_search.specs.declared.End.TheVariants as Ends
use Rattle.bridge_search.specs.declared.Search.{Search}
use Rattle.bridge_search.specs.Search.{laid, ChainIs, EndIs, SearchIs}

-- ---- letters laid into the array

-- one letter before those of a chain
laid-before : (made : ℕ) (bs : List ℕ) (x : ℕ) → made + suc (length bs) ≤ 16 → set (laid (made + 1) bs) made x ≡ laid made (x ∷ bs)
laid-before made bs x h =
    let e : replicate {A = ℕ} (made + 1) 0 ≡ replicate made 0 ++ (0 ∷ []) = sym (replicate-append-replicate made 1 0) in
    let m : made + 1 + length bs ≡ made + suc (length bs) = omega arith in
    rw (e, m, append_assoc)
    (set_at (replicate made 0) 0 (bs ++ replicate (16 - (made + suc (length bs))) 0) x made (length-replicate made 0))

laid_none : (made : ℕ) → made ≤ 16 → replicate 16 0 ≡ laid made []
laid_none made h =
    let e : made + (16 - (made + 0)) ≡ 16 = omega arith in
    sym (replicate-append-replicate made (16 - (made + 0)) 0 ∙ ap (λ (n : ℕ). replicate n 0) e)

laid_one : (made x : ℕ) → made < 16 → set (replicate 16 0) made x ≡ laid made (x ∷ [])
laid_one made x h = ap (λ (l : List ℕ). set l made x) (laid_none (made + 1) (omega arith)) ∙ laid-before made [] x (omega arith)

-- a chain of one letter, the last
pub one-is : (made x : ℕ) (r q : Search) → made < 16 → r.end ≡ Ends.Found (made + 1) → r.letters ≡ replicate 16 0 → q.end ≡ r.end
    → q.letters ≡ set r.letters made x → ChainIs made (x ∷ []) q
one-is made x r q h e f g k = record { end = g ∙ e; letters = k ∙ ap (λ (l : List ℕ). set l made x) f ∙ laid_one made x h }

-- ---- a search's end

not-tried : (made left : ℕ) (e : End) (r : Search) → EndIs made left e r → (r.end ≡ Ends.Tried → ⊥) → e ≡ tried → ⊥
not-tried made left (found bs) r h n e = let z : ◌≡◌ {A = ℕ} 0 1 = cc in omega arith
not-tried made left tried r h n e = n h
not-tried made left stopped r h n e = let z : ◌≡◌ {A = ℕ} 0 1 = cc in omega arith

ended_by : {s : Counted End} {e : End} {l : ℕ} → s.answer ≡ e → s.lookups ≡ l → s ≡ ends e l
ended_by p q = ap₂ (λ (x : End) (n : ℕ). ends x n) p q

pub was-tried : (made left : ℕ) (e : End) (r : Search) → EndIs made left e r → r.end ≡ Ends.Tried → e ≡ tried
was-tried made left (found bs) r h n = absurd (let f = h.0.end in let z : ◌≡◌ {A = ℕ} 0 1 = cc in omega arith)
was-tried made left tried r h n = refl
was-tried made left stopped r h n = absurd (let z : ◌≡◌ {A = ℕ} 0 1 = cc in omega arith)

-- a letter before a chain that was found
before-is : (a made left : ℕ) (e : End) (r q : Search) → made + left ≤ 16 → 1 ≤ left → EndIs (made + 1) (left - 1) e r → q.end ≡ r.end
    → q.letters ≡ set r.letters made (letter a) → EndIs made left (before a e) q
unfolding before
before-is a made left (found bs) r q b p h f g =
    let m : made + 1 + length bs ≡ made + length (letter a ∷ bs) = omega arith in (
      record {
        end = f ∙ h.0.end ∙ ap Ends.Found m;
        letters = g ∙ ap (λ (x : List ℕ). set x made (letter a)) h.0.letters ∙ laid-before made bs (letter a) (omega (arith, h.1));
      },
      omega (arith, h.1),
    )
before-is a made left tried r q b p h f g = f ∙ h
before-is a made left stopped r q b p h f g = f ∙ h

-- ---- a k-mer and its letters

-- the first of the four
pub first-known : (k : ℕ) (y : Kmer) → y.unknown ≡ 0 → (add k (kmer_of y) 0).unknown ≡ 0
unfolding kmer_of
first-known k y e = ap (λ (z : letters.Kmer). z.unknown) (add-known k (kmer_of y) 0 e (lit< tt))

pub next-is : (k : ℕ) (y z : Kmer) (a : ℕ) → y.unknown ≡ 0 → a < 4 → kmer_of z ≡ add k (kmer_of y) a
    → (z.code ≡ push 4 k y.code a) × (z.unknown ≡ 0)
unfolding kmer_of
next-is k y z a e h s =
    let f : kmer_of z ≡ known (push 4 k y.code a) = s ∙ add-known k (kmer_of y) a e h in
    (ap (λ (x : letters.Kmer). x.code) f, ap (λ (x : letters.Kmer). x.unknown) f)

-- one of the four answers
pub answer-is : (k : ℕ) (sol : ℕ → Bool) (y : Kmer) (a : ℕ) → y.unknown ≡ 0 → a < 4
    → get_or (successors k sol (kmer_of y)) a false ≡ sol (push 4 k y.code a)
unfolding successors successor kmer_of
answer-is k sol y a e h =
    let is = add-known k (kmer_of y) a e h in
    at a h ∙ ask-is sol (add k (kmer_of y) a) (ap (λ (z : letters.Kmer). z.unknown) is) ∙ ap (λ (z : letters.Kmer). sol z.code) is
  where
    at : (b : ℕ) → b < 4 → get_or (successors k sol (kmer_of y)) b false ≡ (ask sol (add k (kmer_of y) b)).answer
    at zero h = refl
    at (suc zero) h = refl
    at (suc (suc zero)) h = refl
    at (suc (suc (suc zero))) h = refl
    at (suc (suc (suc (suc b)))) h = absurd (omega arith)

module _ (k : ℕ) (sol : ℕ → Bool) (to budget : ℕ) where
  pub kmer-none : (m y l : ℕ) → m ≡ 0 → from_kmer k sol to budget m y l ≡ ends tried l
  unfolding from_kmer
  kmer-none m y l e = rw e

  prev : (m : ℕ) → 1 ≤ m → m ≡ suc (m - 1)
  prev m h = omega arith

  pub kmer-stop : (m y l : ℕ) → 1 ≤ m → budget - l < 4 → from_kmer k sol to budget m y l ≡ ends stopped l
  unfolding from_kmer
  kmer-stop m y l h lt = ap (λ (n : ℕ). from_kmer k sol to budget n y l) (prev m h) ∙ rw (lt-ltb (budget - l) 4 lt, from_kmer)

  pub kmer-on : (m y l : ℕ) → 1 ≤ m → 4 ≤ budget - l
      → from_kmer k sol to budget m y l ≡ in_order (from_letter k sol to budget (from_kmer k sol to budget (m - 1)) y) 4 0 (l + 4)
  unfolding from_kmer
  kmer-on m y l h le = ap (λ (n : ℕ). from_kmer k sol to budget n y l) (prev m h) ∙ rw (le-ltb (budget - l) 4 le, from_kmer)

  module _ (behind : ℕ → ℕ → Counted End) (y a l : ℕ) where
    pub letter-skip : sol (push 4 k y a) ≡ false → from_letter k sol to budget behind y a l ≡ ends tried l
    unfolding from_letter
    letter-skip e = rw (e, from_letter)

    pub letter-hit : sol (push 4 k y a) ≡ true → push 4 k y a ≡ to → from_letter k sol to budget behind y a l ≡ ends (found (letter a ∷ [])) l
    unfolding from_letter
    letter-hit e f = rw (e, from_letter, eq-eqb (push 4 k y a) to f)

    pub letter-on : sol (push 4 k y a) ≡ true → (push 4 k y a ≡ to → ⊥)
        → from_letter k sol to budget behind y a l ≡ ends (before a (behind (push 4 k y a) l).answer) (behind (push 4 k y a) l).lookups
    unfolding from_letter
    letter-on e f = rw (e, from_letter, ne_eqb (push 4 k y a) to f)

-- ---- letters in order

go_on-back : (e : End) (l : ℕ) (more : ℕ → Counted End) → (e ≡ tried → ⊥) → go_on (ends e l) more ≡ ends e l
unfolding go_on
go_on-back (found bs) l more n = refl
go_on-back tried l more n = absurd (n refl)
go_on-back stopped l more n = refl

module _ (look : ℕ → ℕ → Counted End) (a l : ℕ) where
  at-letter : a < 4 → in_order look (4 - a) a l ≡ in_order look (suc (4 - (a + 1))) a l
  at-letter h =
      let e : 4 - a ≡ suc (4 - (a + 1)) = omega arith in
      ap (λ (n : ℕ). in_order look n a l) e

  order-end : 4 ≤ a → in_order look (4 - a) a l ≡ ends tried l
  unfolding in_order
  order-end h = let e : 4 - a ≡ 0 = omega arith in rw e

  order-on : (u : ℕ) → a < 4 → look a l ≡ ends tried u → in_order look (4 - a) a l ≡ in_order look (4 - (a + 1)) (a + 1) u
  unfolding in_order go_on
  order-on u h e = at-letter h ∙ ap (λ (r : Counted End). go_on r (in_order look (4 - (a + 1)) (suc a))) e ∙ rw add-one

  order-back : a < 4 → ((look a l).answer ≡ tried → ⊥) → in_order look (4 - a) a l ≡ look a l
  unfolding in_order go_on
  order-back h n = at-letter h ∙ go_on-back (look a l).answer (look a l).lookups (in_order look (4 - (a + 1)) (suc a)) n

-- ---- answers

module _ (budget made left : ℕ) (s : Counted End) (r : Search) where
  pub tried-is : (l : ℕ) → s ≡ ends tried l → r.end ≡ Ends.Tried → r.lookups ≡ l → l ≤ budget → SearchIs budget made left s r
  tried-is l e f g h =
      subst (λ (x : Counted End). SearchIs budget made left x r) (sym e) (record { end = f; lookups = g; within = omega arith })

  pub stopped-is : (l : ℕ) → s ≡ ends stopped l → r.end ≡ Ends.Stopped → r.lookups ≡ l → l ≤ budget → SearchIs budget made left s r
  stopped-is l e f g h =
      subst (λ (x : Counted End). SearchIs budget made left x r) (sym e) (record { end = f; lookups = g; within = omega arith })

  pub found-is : (bs : List ℕ) (l : ℕ) → s ≡ ends (found bs) l → ChainIs made bs r → length bs ≤ left → r.lookups ≡ l → l ≤ budget
      → SearchIs budget made left s r
  found-is bs l e f m g h =
      subst (λ (x : Counted End). SearchIs budget made left x r) (sym e) (record { end = (f, m); lookups = g; within = omega arith })

  pub same-is : (s' : Counted End) → s ≡ s' → SearchIs budget made left s' r → SearchIs budget made left s r
  same-is s' e h = subst (λ (x : Counted End). SearchIs budget made left x r) (sym e) h

-- what is left of a k-mer's letters, from code a on
module _ (look : ℕ → ℕ → Counted End) (a l : ℕ) (s : Counted End) (is : s ≡ in_order look (4 - a) a l) where
  pub end_is : (budget made left : ℕ) (r : Search) → 4 ≤ a → r.end ≡ Ends.Tried → r.lookups ≡ l → l ≤ budget → SearchIs budget made left s r
  end_is budget made left r h f g b = tried-is budget made left s r l (is ∙ order-end look a l h) f g b

  module _ (h : a < 4) (budget made left : ℕ) (r : Search) (q : SearchIs budget made left (look a l) r) where
    pub back_is : (r.end ≡ Ends.Tried → ⊥) → SearchIs budget made left s r
    back_is n =
        same-is budget made left s r (look a l) (is ∙ order-back look a l h (not-tried made left (look a l).answer r q.end n)) q

    pub tried-on : (u : ℕ) → r.end ≡ Ends.Tried → u ≡ r.lookups → s ≡ in_order look (4 - (a + 1)) (a + 1) u
    tried-on u e v =
        is ∙ order-on look a l u h (ended_by (was-tried made left (look a l).answer r q.end e) (sym q.lookups ∙ sym v))

  pub skip-on : (u : ℕ) → a < 4 → look a l ≡ ends tried l → u ≡ l → s ≡ in_order look (4 - (a + 1)) (a + 1) u
  skip-on u h e v = is ∙ order-on look a l u h (e ∙ ap (ends tried) (sym v))

-- the search behind a letter, and the letter before it
module _ (k : ℕ) (sol : ℕ → Bool) (to budget : ℕ) (behind : ℕ → ℕ → Counted End) (y a l made left : ℕ) (fits : made + left ≤ 16) (some_left : 1 ≤ left) where
  pub behind-is : (z : ℕ) (r q : Search) → sol (push 4 k y a) ≡ true → z ≡ push 4 k y a → (z ≡ to → ⊥) → SearchIs budget (made + 1) (left - 1) (behind z l) r
      → q.end ≡ r.end → q.letters ≡ set r.letters made (letter a) → q.lookups ≡ r.lookups
      → SearchIs budget made left (from_letter k sol to budget behind y a l) q
  behind-is z r q s e n h f g u =
      let e' : from_letter k sol to budget behind y a l ≡ ends (before a (behind z l).answer) (behind z l).lookups =
      letter-on k sol to budget behind y a l s (λ t. n (e ∙ t))
      ∙ ap (λ (x : ℕ). ends (before a (behind x l).answer) (behind x l).lookups) (sym e) in
      same-is budget made left (from_letter k sol to budget behind y a l) q (ends (before a (behind z l).answer) (behind z l).lookups) e'
      (record {
        end = before-is a made left (behind z l).answer r q fits some_left h.end f g;
        lookups = u ∙ h.lookups;
        within = omega (arith, h.within);
      })
