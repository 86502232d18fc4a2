-- Laws of the shifts, the reverse complement and the parity that the code computes.
use Prim.Native.Nat.{ℕ, zero, suc, ◌+◌, ◌*◌, ◌-◌, ◌/◌, ◌%◌, ◌^◌, ◌≤◌, ◌<◌}
use native.Mathlib.Omega.{arith}
use native.Mathlib.Nat.{mod-eq_of_lt, mod-lt, one-le-pow, suc-mul, pow-suc, pow-le-pow_right, mul_comm, add_comm, div-lt_iff_lt-mul, div-add-mod', eq-or-lt_of_le}
use mathlib.Core.Path.{◌≡◌, refl, sym, ap, ◌∙◌}
use mathlib.Core.Bool.{Bool, true, false, ◌&&◌}
use mathlib.Core.Logic.{◌⊎◌, inl, inr}
use lib.Dec.{eqb, lit<, lit≤}
use borrow.Author.Tests.{eqb-true, eq-eqb, ne_eqb}
use lib.Pow.{pow-add}
use lib.Arith.{digits_div, digits_mod, mod-mul}
use lib.Bits.{bit_and, bit_xor, and_mask, xor_shifted}
use Rattle.rules.specs.Letters as rules
use Rattle.rules.specs.Letters.{mask, same, push, add, add_all, has_code, code, complement, revcomp, even_ones, canonical}
use Rattle.rules_laws.proofs.Opened.{both}
use Rattle.rules_laws.proofs.Kmer.{four-pos, push-is, complement-lt, revcomp-lt, revcomp-first, ones-in, two-four}
use Rattle.kmer.specs.declared.shifts.Header.{Header}
use Rattle.kmer.specs.declared.Kmer.{Kmer}
use Rattle.kmer.specs.Masked.{Masked}
use Rattle.kmer.specs.Kmer.{Shifts, kmer_of, IsKmer, HasLetters}

-- k is at most 31, so a k-mer is below 2 ^ 62
pub bound : (k : ℕ) → k ≤ 31 → 4 ^ k ≤ 2 ^ 62
bound k h = pow-le-pow_right {n = 4} (lit≤ tt) {i = k} {j = 31} h

pub mask_fits : (k : ℕ) → k ≤ 31 → mask k < 2 ^ 62
unfolding mask
mask_fits k h = omega (arith, bound k h)

and-mask-of : (y k : ℕ) → bit_and y (mask k) ≡ y % 4 ^ k
unfolding mask
and-mask-of y k = rw (← (two-four k)) (and_mask y (2 * k))

-- so a bit for each letter is below 2 ^ 31
pub bits_fit : (k : ℕ) → k ≤ 31 → 2 ^ k ≤ 2 ^ 31
bits_fit k h = pow-le-pow_right {n = 2} (lit≤ tt) {i = k} {j = 31} h

-- half of a mask's bits
less_one : (a : ℕ) → 1 ≤ a → (a * a - 1) / a ≡ a - 1
less_one zero h = absurd (omega arith)
less_one (suc j) h =
    let e : suc j * suc j ≡ j * suc j + suc j = suc-mul j (suc j) in
    let d : suc j * suc j - 1 ≡ j * suc j + j = omega arith in
    let o : suc j - 1 ≡ j = omega arith in
    rw (d, o) (digits_div j (omega arith))

pub half-mask : (k : ℕ) → mask k / 2 ^ k ≡ 2 ^ k - 1
unfolding mask
half-mask k =
    let twice : 2 * k ≡ k + k = omega arith in
    let square : 4 ^ k ≡ 2 ^ k * 2 ^ k = sym (two-four k) ∙ ap (λ (n : ℕ). 2 ^ n) twice ∙ pow-add 2 k k in
    rw square (less_one (2 ^ k) (one-le-pow k 2 (lit< tt)))

-- a code's two bits
pub low_bits : (a : ℕ) → bit_and a 3 ≡ a % 4
low_bits a = and_mask a 2

-- ---- codes of bytes

-- letters with a code are bytes 64 to 127
pub code-none : (b : ℕ) → (b / 64 ≡ 1 → ⊥) → code b ≡ 4
unfolding code has_code
code-none b n =
    let e : has_code b ≡ false =
    rw (
      ne_eqb b 65 (λ e. n (omega arith)),
      ne_eqb b 67 (λ e. n (omega arith)),
      ne_eqb b 71 (λ e. n (omega arith)),
      ne_eqb b 84 (λ e. n (omega arith)),
      ne_eqb b 85 (λ e. n (omega arith)),
      ne_eqb b 97 (λ e. n (omega arith)),
      ne_eqb b 99 (λ e. n (omega arith)),
      ne_eqb b 103 (λ e. n (omega arith)),
      ne_eqb b 116 (λ e. n (omega arith)),
      ne_eqb b 117 (λ e. n (omega arith)),
    ) in
    rw (e, code)

-- a byte's code where the letters that have one are the bits of a number
abbrev by_bits : ℕ → ℕ → ℕ
by_bits letters b = elim (eqb (letters / 2 ^ (b % 32) % 2) 0) [ true ↦ 4 | false ↦ b / 2 % 4 ]

-- so it is for the m lowest bytes from 64 on
unfoldable pub coded : ℕ → ℕ → Bool
unfolding code
coded letters zero = true
coded letters (suc m) = eqb (code (64 + m)) (by_bits letters (64 + m)) && coded letters m

coded-at : (letters m i : ℕ) → coded letters m ≡ true → i < m → code (64 + i) ≡ by_bits letters (64 + i)
unfolding coded
coded-at letters zero i r h = absurd (omega arith)
coded-at letters (suc m) i r h = go (coded-at letters m i (both (eqb (code (64 + m)) (by_bits letters (64 + m))) (coded letters m) r).1) (eq-or-lt_of_le h)
  where
    go : (i < m → code (64 + i) ≡ by_bits letters (64 + i)) → (suc i ≡ suc m) ⊎ (suc i < suc m) → code (64 + i) ≡ by_bits letters (64 + i)
    go f (inl e) =
        let d : i ≡ m = omega arith in
        rw d (eqb-true _ _ (both (eqb (code (64 + m)) (by_bits letters (64 + m))) (coded letters m) r).0)
    go f (inr l) = f (omega arith)

code_by : (letters b : ℕ) → coded letters 64 ≡ true → b / 64 ≡ 1 → code b ≡ by_bits letters b
code_by letters b r e =
    let is : 64 + (b - 64) ≡ b = omega arith in
    rw is at (coded-at letters 64 (b - 64) r (omega arith))

pub code-unset : (letters b : ℕ) → coded letters 64 ≡ true → b / 64 ≡ 1 → letters / 2 ^ (b % 32) % 2 ≡ 0 → code b ≡ 4
code-unset letters b r e h = code_by letters b r e ∙ rw (eq-eqb (letters / 2 ^ (b % 32) % 2) 0 h, by_bits)

pub code-set : (letters b : ℕ) → coded letters 64 ≡ true → b / 64 ≡ 1 → (letters / 2 ^ (b % 32) % 2 ≡ 0 → ⊥) → code b ≡ b / 2 % 4
code-set letters b r e h = code_by letters b r e ∙ rw (ne_eqb (letters / 2 ^ (b % 32) % 2) 0 h, by_bits)

-- the shift under the mask
pub shifted : (head : Header) (y a : ℕ) → Shifts head → y < 4 ^ head.k → a < 4 → bit_xor (bit_and (y * 4 % 2 ^ 64) head.mask) a ≡ push 4 head.k y a
shifted head y a s l h = rw s.mask_is (go head.k s.k_low s.k_high l)
  where
    go : (k : ℕ) → 1 ≤ k → k ≤ 31 → y < 4 ^ k → bit_xor (bit_and (y * 4 % 2 ^ 64) (mask k)) a ≡ push 4 k y a
    go zero low high l = absurd (omega arith)
    go (suc j) low high l =
        let fits : y * 4 < 2 ^ 64 = omega (arith, bound (suc j) high) in
        let d : y * 4 / 4 ≡ y = omega arith in
        let m : y * 4 % 4 ≡ 0 = omega arith in
        let kept : y * 4 % 4 ^ suc j ≡ y % 4 ^ j * 4 = rw (pow-suc, mod-mul (y * 4) (four-pos j) (lit< tt), d, m) (omega arith) in
        rw (mod-eq_of_lt fits, and-mask-of, kept) (xor_shifted (y % 4 ^ j) 2 a h ∙ sym (push-is 4 j y a h))

-- ---- the reverse complement, carried along

pub pair_is : (a : ℕ) → a < 4 → (a + complement 0) % 4 ≡ complement a
unfolding complement
pair_is zero h = refl
pair_is (suc zero) h = refl
pair_is (suc (suc zero)) h = refl
pair_is (suc (suc (suc zero))) h = refl
pair_is (suc (suc (suc (suc a)))) h = absurd (omega arith)

-- y+a turned round: y's first letter is the last and goes, and a's complement comes first
revcomp-add : (k y a : ℕ) → 1 ≤ k → y < 4 ^ k → a < 4 → revcomp k y / 4 + complement a * 4 ^ (k - 1) ≡ revcomp k (push 4 k y a)
unfolding revcomp
revcomp-add zero y a l s h = absurd (omega arith)
revcomp-add (suc j) y a l s h =
    let P = 4 ^ j in
    let t : y / P < 4 = (div-lt_iff_lt-mul (four-pos j)).1 (rw (mul_comm 4 P, ← (pow-suc 4 j)) s) in
    let turned : revcomp (suc j) y ≡ 4 * revcomp j (y % P) + complement (y / P) =
    ap (revcomp (suc j)) (sym (div-add-mod' y P)) ∙ revcomp-first j (y / P) (y % P) t (mod-lt y (four-pos j)) in
    let quarter : revcomp (suc j) y / 4 ≡ revcomp j (y % P) = omega (arith, complement-lt (y / P)) in
    let e : suc j - 1 ≡ j = omega arith in
    rw (quarter, e, push-is 4 j y a h, revcomp, digits_mod (y % P) h, digits_div (y % P) h) (add_comm (revcomp j (y % P)) (complement a * P))

-- the mask without its last letter
pub quarter-is : {k m : ℕ} → Masked k m → m / 4 ≡ 4 ^ (k - 1) - 1
unfolding mask
quarter-is {k} {m} s =
    let e : suc (k - 1) ≡ k = omega (arith, s.k_low) in
    let p : 4 ^ k ≡ 4 ^ (k - 1) * 4 = rw e at (pow-suc 4 (k - 1)) in
    omega (arith, s.mask_is, p, four-pos (k - 1))

module _ (head : Header) (y : Kmer) (s : Shifts head) (is : IsKmer head.k y) where
  pub rev-add : (a : ℕ) → a < 4 → y.rev / 4 + complement a * 4 ^ (head.k - 1) ≡ revcomp head.k (push 4 head.k y.code a)
  rev-add a h = rw is.turned (revcomp-add head.k y.code a s.k_low is.small h)

  pub rev-fits : (a : ℕ) → a < 4 → y.rev / 4 + complement a * 4 ^ (head.k - 1) < 2 ^ 62
  rev-fits a h = rw (rev-add a h) (omega (arith, revcomp-lt head.k (push 4 head.k y.code a), bound head.k s.k_high))

-- an A in front of y without its last letter: turned round, its complement comes last
pub revcomp-drop : (k y : ℕ) → 1 ≤ k → y < 4 ^ k → push 4 k (revcomp k y) (complement 0) ≡ revcomp k (y / 4)
unfolding revcomp complement
revcomp-drop zero y l s = absurd (omega arith)
revcomp-drop (suc j) y l s =
    let p = pow-suc 4 j in
    let front : 0 * 4 ^ j + y / 4 ≡ y / 4 = omega arith in
    let last : revcomp (suc j) (y / 4) ≡ 4 * revcomp j (y / 4) + 2 = ap (revcomp (suc j)) (sym front) ∙ revcomp-first j 0 (y / 4) (lit< tt) (omega arith) in
    rw (last, push-is 4 j (revcomp (suc j) y) 2 (lit< tt), digits_mod (complement (y % 4)) (revcomp-lt j (y / 4))) (omega arith)

letters-T : (k : ℕ) → (q : ℕ) × (4 ^ k ≡ 3 * q + 1) × (revcomp k 0 ≡ 2 * q)
unfolding revcomp complement
letters-T zero = (0, refl, refl)
letters-T (suc k) = let t = letters-T k in (4 * t.0 + 1, omega (arith, pow-suc 4 k), omega arith)

-- k letters A, turned round k complements of A
pub revcomp-zero : (k : ℕ) → mask k / 3 * complement 0 ≡ revcomp k 0
unfolding mask complement
revcomp-zero k =
    let t = letters-T k in
    let e : 4 ^ k - 1 ≡ 3 * t.0 = omega arith in
    rw (e, t.2) (omega arith)

-- ---- the parity

-- the count over all 64 bits says the same as that over k letters
pub even-wide : (k y : ℕ) → y < 2 ^ 64 → y < 4 ^ k → even_ones 32 y ≡ even_ones k y
unfolding even_ones
even-wide k y h g = ap (λ (n : ℕ). eqb (n % 2) 0) (ones-in 64 y h ∙ sym (ones-in (2 * k) y (rw (two-four k) g)))

pub canonical-even : (k y : ℕ) → even_ones k y ≡ true → canonical k y ≡ y
unfolding canonical
canonical-even k y e = rw (e, canonical)

pub canonical-odd : (k y : ℕ) → even_ones k y ≡ false → canonical k y ≡ revcomp k y
unfolding canonical
canonical-odd k y e = rw (e, canonical)

-- ---- a k-mer by the rules

module _ {k : ℕ} {y : rules.Kmer} {r : Kmer} (is : HasLetters k y r) where
  pub code_is : r.code ≡ y.code
  unfolding kmer_of
  code_is = ap (λ (z : rules.Kmer). z.code) is.is

  pub unknown-is : r.unknown ≡ y.unknown
  unfolding kmer_of
  unknown-is = ap (λ (z : rules.Kmer). z.unknown) is.is
