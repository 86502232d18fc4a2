-- Laws of keys.
use Prim.Native.Nat.{ℕ, zero, suc, ◌+◌, ◌-◌, ◌%◌, ◌^◌, ◌≤◌, ◌<◌}
use native.Mathlib.Omega.{arith}
use native.Mathlib.Numerals.{add-one}
use mathlib.Core.Path.{◌≡◌, refl, sym, ap, ◌∙◌}
use mathlib.Core.Bool.{Bool, true, false, not, ◌&&◌, ◌||◌, true≢false, and-true, and-false, and_comm}
use mathlib.Core.List.{List}
use lib.Dec.{eqb, ltb, leb, leb-zero, eqb-suc-zero}
use borrow.Author.Tests.{eq-eqb, ne_eqb, lt-ltb, le-ltb, le-leb, lt-leb, ltb-true, ltb-false}
use Rattle.rules.specs.Letters.{canonical, even_ones, mask}
use Rattle.rules.specs.Set.{key_right, key_word, header_k, header_n}
use Rattle.rules_laws.proofs.Kmer.{four-pos, canonical-one}
use Rattle.kmer.proofs.Laws.{canonical-even, canonical-odd, even-wide}
use Rattle.set_checks.specs.Keys.{least_key}

-- for odd k the canonical k-mers are those with an even count of one bits
pub canonical-test : (k y : ℕ) → k % 2 ≡ 1 → y < 4 ^ k → eqb (canonical k y) y ≡ even_ones k y
canonical-test k y odd h = at (even_ones k y) refl
  where
    at : (t : Bool) → even_ones k y ≡ t → eqb (canonical k y) y ≡ t
    at true e = eq-eqb _ _ (canonical-even k y e)
    at false e =
        ne_eqb _ _ (λ same. true≢false (ap not (sym e) ∙ sym (canonical-one k y odd h).0 ∙ ap (even_ones k) (sym (canonical-odd k y e) ∙ same) ∙ e))

right-test : (k mask₀ least y : ℕ) → k % 2 ≡ 1 → mask₀ ≡ mask k → y < 2 ^ 64
    → (eqb (canonical k y) y && ltb y (4 ^ k) && leb least y) ≡ (leb y mask₀ && leb least y && even_ones 32 y)
unfolding mask
right-test k mask₀ least y odd e fits = at (ltb y (4 ^ k)) refl
  where
    at : (t : Bool) → ltb y (4 ^ k) ≡ t → (eqb (canonical k y) y && ltb y (4 ^ k) && leb least y) ≡ (leb y mask₀ && leb least y && even_ones 32 y)
    at true t =
        let h = ltb-true y (4 ^ k) t in
        rw (le-leb y mask₀ (omega arith), canonical-test k y odd h, t, even-wide k y fits h, and-true) (and_comm (even_ones k y) (leb least y))
    at false t = rw (lt-leb y mask₀ (omega (arith, four-pos k, ltb-false y (4 ^ k) t)), t, and-false)

rising : (bytes : List ℕ) (i : ℕ) → (eqb i 0 || ltb (key_word bytes (i - 1)) (key_word bytes i)) ≡ leb (least_key bytes i) (key_word bytes i)
unfolding least_key
rising bytes zero = sym (leb-zero (key_word bytes 0))
rising bytes (suc i) = let e : suc i - 1 ≡ i = omega arith in rw (eqb-suc-zero i, e)

-- what the code tests of a key
pub key-test : (bytes : List ℕ) (i mask₀ : ℕ) → i < header_n bytes → header_k bytes % 2 ≡ 1 → mask₀ ≡ mask (header_k bytes) → key_word bytes i < 2 ^ 64
    → key_right bytes i ≡ (leb (key_word bytes i) mask₀ && leb (least_key bytes i) (key_word bytes i) && even_ones 32 (key_word bytes i))
unfolding key_right
key-test bytes i mask₀ h odd e fits =
    let y : ℕ = key_word bytes i in
    let k : ℕ = header_k bytes in
    rw (lt-ltb i (header_n bytes) h, key_right)
    (ap (λ (t : Bool). eqb (canonical k y) y && ltb y (4 ^ k) && t) (rising bytes i) ∙ right-test k mask₀ (least_key bytes i) y odd e fits)

pub spare-test : (bytes : List ℕ) (i : ℕ) → header_n bytes ≤ i → key_right bytes i ≡ eqb (key_word bytes i) 0
unfolding key_right
spare-test bytes i h = rw (le-ltb i (header_n bytes) h, key_right)

pub least-next : (bytes : List ℕ) (i y : ℕ) → y ≡ key_word bytes i → y + 1 ≡ least_key bytes (i + 1)
unfolding least_key
least-next bytes i y e = rw (e, add-one i, add-one (key_word bytes i))
