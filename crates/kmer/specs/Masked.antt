-- The mask of k letters, and how large k is.
use Rattle.std.specs.Prelude.{ℕ, ◌≤◌, ◌≡◌}
use Rattle.rules.specs.Letters as letters

pub record Masked (k mask : ℕ) : Type 0 where
  pub k_low : 1 ≤ k
  pub k_high : k ≤ 31
  pub mask_is : mask ≡ letters.mask k
