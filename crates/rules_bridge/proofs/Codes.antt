-- Codes as k-mers: a letter behind a code gives a code.
use Prim.Native.Nat.{ℕ, ◌/◌, ◌%◌, ◌<◌}
use native.Mathlib.Omega.{arith}
use native.Mathlib.Nat.{zero-mod}
use mathlib.Core.Path.{◌≡◌}
use Rattle.rules.specs.Letters.{Kmer, push, add}
use Rattle.rules_bridge.specs.Bridge.{known}

-- The theorem `add-known`: y+b for a k-mer whose letters are known.
pub add-known : (k : ℕ) (y : Kmer) (a : ℕ) → y.unknown ≡ 0 → a < 4 → add k y a ≡ known (push 4 k y.code a)
unfolding add push
add-known k y a e h =
    let low : a % 4 ≡ a = omega arith in
    let high : a / 4 ≡ 0 = omega arith in
    rw (add, e, low, high, zero-mod)
