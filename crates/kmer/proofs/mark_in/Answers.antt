use Prim.Native.Nat.{ℕ, ◌+◌, ◌*◌}
use native.Mathlib.Omega.{arith}
use mathlib.Core.Path.{ap, ◌∙◌}
use lib.Bits.{bit_and, and_mask}
use Rattle.rules.specs.Letters.{push}
use Rattle.kmer.proofs.Laws.{bits_fit, half-mask}
use Rattle.kmer.proofs.mark_in.Goals as goal

pub overflow_mul-result : goal.overflow_mul-result
overflow_mul-result c = omega (arith, c.requires.0, bits_fit c.args.head.k c.args.head.shifts.k_high)

pub overflow_add-result : goal.overflow_add-result
overflow_add-result c = omega (arith, c.requires.0, c.requires.1, bits_fit c.args.head.k c.args.head.shifts.k_high)

pub returns : goal.returns
unfolding push
returns c =
    let z : ℕ = 2 * c.args.unknown + c.args.bit in
    ap (bit_and z) (rw c.args.head.shifts.mask_is (half-mask c.args.head.k)) ∙ and_mask z c.args.head.k
