-- Document 01, "Records", Report; document 02, W4: the yield to the nearest whole, W8: support, W10: lookups for each base.
use Rattle.std.specs.Prelude.{ℕ, ◌+◌, ◌*◌, ◌/◌, ◌%◌, ◌≤◌, ◌<◌, ◌≡◌, true, false, eqb, ltb}
use Rattle.std.proofs.Math.Option.{Option}

-- Bytes written, turns, lookups, attempts, accepted, yield, and support: the smallest count behind the corrections, or none. Then lookups for
-- each base, quotient and remainder, and the bases by which they are divided: the sum of w_of over all passes.
pub record Report : Type 0 where
  pub written : ℕ
  pub turns : ℕ
  pub lookups : ℕ
  pub attempts : ℕ
  pub accepted : ℕ
  pub yield : ℕ
  pub support : Option ℕ
  pub quotient : ℕ
  pub remainder : ℕ
  pub bases : ℕ

-- q is the whole number nearest to a / d, an exact half going to the even neighbour: q is at most one half below a / d and at most one half
-- above it, and where it is just one half, q is even. (All is multiplied by 2d.)
pub record Nearest (a d q : ℕ) : Type 0 where
  pub not_below : 2 * a ≤ 2 * (q * d) + d
  pub not_above : 2 * (q * d) ≤ 2 * a + d
  pub half_below : 2 * a ≡ 2 * (q * d) + d → q % 2 ≡ 0
  pub half_above : 2 * (q * d) ≡ 2 * a + d → q % 2 ≡ 0

-- That number: a / d down or up, by what is left.
unfoldable pub nearest : ℕ → ℕ → ℕ
nearest a d =
    elim (ltb (2 * (a % d)) d) [
      | true ↦ a / d
      | false ↦ elim (eqb (2 * (a % d)) d) [ true ↦ a / d + a / d % 2 | false ↦ a / d + 1 ]
    ]

-- accepted × 1000 / attempts to the nearest whole, 0 if no attempts.
unfoldable pub yield_of : ℕ → ℕ → ℕ
unfolding nearest
yield_of accepted attempts = elim (eqb attempts 0) [ true ↦ 0 | false ↦ nearest (accepted * 1000) attempts ]

-- q is the whole quotient of lookups by bases, and r is what is left: q times bases plus r is the lookups, and r is smaller than bases. Where
-- bases are 0 both are 0, and neither of these rules applies.
pub record PerBase (lookups bases q r : ℕ) : Type 0 where
  pub adds_up : 0 < bases → q * bases + r ≡ lookups
  pub left : 0 < bases → r < bases
  pub no_quotient : bases ≡ 0 → q ≡ 0
  pub no_remainder : bases ≡ 0 → r ≡ 0

-- Those numbers.
unfoldable pub quotient_of : ℕ → ℕ → ℕ
quotient_of lookups bases = elim (eqb bases 0) [ true ↦ 0 | false ↦ lookups / bases ]

unfoldable pub remainder_of : ℕ → ℕ → ℕ
remainder_of lookups bases = elim (eqb bases 0) [ true ↦ 0 | false ↦ lookups % bases ]
