-- Laws of words and check words.
use Rattle.std.proofs.Common.{◌≡◌, ℕ, zero, suc, ◌+◌, ◌-◌, ◌*◌, ◌/◌, ◌%◌, ◌^◌, ◌<◌, ◌≤◌, List, [], ◌∷◌, get_or, drop, refl, ap, ◌∙◌, add-zero, add_assoc, add-one, arith, get_or-drop, drop-drop}
use native.Mathlib.Nat.{mod-add-mod}
use native.Mathlib.Numerals.{towards_suc}
use Rattle.rules.specs.Set.{little, block_word, key_word, sum_words, check}
use Rattle.std.specs.Int.{from_le_bytes, w64}

-- a little-endian number of m bytes from i on
little_at : ℕ → List ℕ → ℕ → ℕ
little_at zero s i = 0
little_at (suc m) s i = get_or s i 0 + 256 * little_at m s (suc i)

little-at : (m : ℕ) (s : List ℕ) (i : ℕ) → little m (drop i s) ≡ little_at m s i
unfolding little little_at
little-at zero s i = refl
little-at (suc m) s i = rw (get_or-drop, add-zero, drop-drop, add-one, little-at m s (suc i))

-- eight bytes, as a little-endian word
pub word-little : (s : List ℕ) (i : ℕ)
    → from_le_bytes w64 (get_or s i 0 ∷ get_or s (i + 1) 0 ∷ get_or s (i + 2) 0 ∷ get_or s (i + 3) 0 ∷ get_or s (i + 4) 0 ∷ get_or s (i + 5) 0 ∷ get_or s (i + 6) 0 ∷ get_or s (i + 7) 0 ∷ []) ≡ little 8 (drop i s)
unfolding little_at
word-little s i = rw (little-at 8 s i) (simp towards_suc (omega arith))

pub block-place : (s : List ℕ) (b i : ℕ) → little 8 (drop (512 * b + 8 * i) s) ≡ block_word s b i
unfolding block_word
block-place s b i = let e : 512 * b + 8 * i ≡ 8 * (64 * b + i) = omega arith in ap (λ (at : ℕ). little 8 (drop at s)) e

pub key-place : (s : List ℕ) (i : ℕ) → little 8 (drop (512 + 8 * (i + i / 63)) s) ≡ key_word s i
unfolding key_word
key-place s i =
    let e : 512 + 8 * (i + i / 63) ≡ 512 * (1 + i / 63) + 8 * (i % 63) = omega arith in
    ap (λ (at : ℕ). little 8 (drop at s)) e ∙ block-place s (1 + i / 63) (i % 63)

pub key-in-block : (s : List ℕ) (b i : ℕ) → 1 ≤ b → 63 * (b - 1) ≤ i → i < 63 * b → block_word s b (i - 63 * (b - 1)) ≡ key_word s i
unfolding key_word
key-in-block s b i l from to =
    let block : b ≡ 1 + i / 63 = omega arith in
    let word : i - 63 * (b - 1) ≡ i % 63 = omega arith in
    rw word (ap (λ (b' : ℕ). block_word s b' (i % 63)) block)

-- a word more, the sum wrapping
pub sum_more : (s : List ℕ) (b i sum : ℕ) → sum ≡ sum_words s b i % 2 ^ 64 → (sum + block_word s b i) % 2 ^ 64 ≡ sum_words s b (i + 1) % 2 ^ 64
unfolding sum_words
sum_more s b i sum e = rw (e, add-one) (mod-add-mod (sum_words s b i) (2 ^ 64) (block_word s b i))

wrapped : (a b : ℕ) → ((a % 2 ^ 64 + b) % 2 ^ 64 + 1) % 2 ^ 64 ≡ (a + b + 1) % 2 ^ 64
wrapped a b = rw (mod-add-mod (a % 2 ^ 64 + b), add_assoc (a % 2 ^ 64) b 1, mod-add-mod a, ← (add_assoc a b 1))

pub sum-end : (s : List ℕ) (b sum : ℕ) → sum ≡ sum_words s b 63 % 2 ^ 64 → ((sum + b) % 2 ^ 64 + 1) % 2 ^ 64 ≡ check s b
unfolding check
sum-end s b sum e = rw e (wrapped (sum_words s b 63) b)
