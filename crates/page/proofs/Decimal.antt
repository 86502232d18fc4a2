-- The fewest digits that hold a number are its decimal digits.
use Prim.Native.Nat.{ℕ, zero, suc, ◌-◌, ◌/◌, ◌%◌, ◌^◌, ◌≤◌, ◌<◌}
use native.Mathlib.Omega.{arith}
use native.Mathlib.Nat.{pow-suc, mod-eq_of_lt, pow-le-pow_right}
use borrow.Author.Tests.{lt-ltb, le-ltb, leb-true, leb-false}
use mathlib.Core.Path.{◌≡◌, refl, sym, ◌∙◌}
use mathlib.Core.List.{[], ◌∷◌, ◌++◌}
use mathlib.Core.Bool.{Bool, true, false}
use lib.Dec.{leb}
use Rattle.io.specs.Digits.{hex_digit_ascii, last_digits, IsDigitCount}
use Rattle.rules_program.specs.Program.{digit, decimal_in, decimal}

glyph-digit : (d : ℕ) → d < 10 → hex_digit_ascii d ≡ digit d
glyph-digit d l = rw (lt-ltb d 10 l)

one-digit : (steps n : ℕ) → n < 10 → last_digits 10 1 n ≡ decimal_in steps n
unfolding decimal_in
one-digit zero n l = rw (mod-eq_of_lt l, glyph-digit n l)
one-digit (suc steps) n l = rw (mod-eq_of_lt l, glyph-digit n l, decimal_in, lt-ltb n 10 l)

more-digits : (steps n : ℕ) → 10 ≤ n → decimal_in (suc steps) n ≡ decimal_in steps (n / 10) ++ (digit (n % 10) ∷ [])
unfolding decimal_in
more-digits steps n l = rw (decimal_in, le-ltb n 10 l)

positive : (j : ℕ) → 0 < 10 ^ j
positive zero = omega arith
positive (suc j) = let p = pow-suc 10 j in omega (arith, positive j)

-- n has the digits of its tenth, and one more.
tenth : (n j : ℕ) → IsDigitCount 10 1 n (suc (suc j)) → (10 ≤ n) × IsDigitCount 10 1 (n / 10) (suc j)
tenth n j f =
    let p = pow-suc 10 j in
    let q = pow-suc 10 (suc j) in
    let pos : 0 < 10 ^ j = positive j in
    let high : 10 ^ suc j ≤ n = (let e : suc (suc j) - 1 ≡ suc j = omega arith in rw e at (f.2 (omega arith))) in
    let low : n < 10 ^ suc (suc j) = f.1 in
    let e : suc j - 1 ≡ j = omega arith in
    (omega arith, (omega arith, omega arith, λ _. rw e (omega arith)))

fewest : (k steps n : ℕ) → n ≤ steps → IsDigitCount 10 1 n k → last_digits 10 k n ≡ decimal_in steps n
fewest zero steps n l f = absurd (omega (arith, f.0))
fewest (suc zero) steps n l f = one-digit steps n f.1
fewest (suc (suc j)) zero n l f = absurd (omega (arith, (tenth n j f).0))
fewest (suc (suc j)) (suc steps) n l f =
    let t = tenth n j f in
    let above : last_digits 10 (suc j) (n / 10) ≡ decimal_in steps (n / 10) = fewest (suc j) steps (n / 10) (omega (arith, t.0)) t.1 in
    let last : hex_digit_ascii (n % 10) ≡ digit (n % 10) = glyph-digit (n % 10) (omega arith) in
    (λ i. above i ++ (last i ∷ [])) ∙ sym (more-digits steps n t.0)

-- A number of 64 bits has at most 20 digits.
pub few-digits : (n k : ℕ) → n < 2 ^ 64 → IsDigitCount 10 1 n k → k ≤ 20
few-digits n k l f = go (leb k 20) refl
  where
    go : (t : Bool) → leb k 20 ≡ t → k ≤ 20
    go true e = leb-true k 20 e
    go false e =
        let more = leb-false k 20 e in
        let power : 10 ^ 20 ≤ 10 ^ (k - 1) = pow-le-pow_right {n = 10} (omega arith) {i = 20} {j = k - 1} (omega arith) in
        absurd (omega (arith, f.2 (omega arith)))

pub digits_decimal : (n k : ℕ) → IsDigitCount 10 1 n k → last_digits 10 k n ≡ decimal n
unfolding decimal
digits_decimal n k f = fewest k n n (omega arith) f
