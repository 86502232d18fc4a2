use Prim.Native.Nat.{◌/◌}
use native.Mathlib.Omega.{arith}
use mathlib.Core.Path.{◌≡◌, refl, sym}
use Rattle.kmer.proofs.Laws.{coded, code-none, code-unset, code-set}
use Rattle.kmer.proofs.nuc2bit.Goals as goal

pub returns-then-byte-ne1 : goal.returns-then-byte-ne1
returns-then-byte-ne1 c = sym (code-none _ c.if-byte-ne1.true)

-- the letters are computed to be right for bytes 64 to 127
pub returns-then-byte-eq0 : goal.returns-then-byte-eq0
unfolding coded
returns-then-byte-eq0 c =
    let byte = c.args.nuc in
    let e : byte / 64 ≡ 1 = omega arith in
    sym (code-unset 3145866 byte refl e c.if-byte-eq0.true)

pub returns : goal.returns
unfolding coded
returns c =
    let byte = c.args.nuc in
    let e : byte / 64 ≡ 1 = omega arith in
    sym (code-set 3145866 byte refl e c.if-byte-eq0.false)
