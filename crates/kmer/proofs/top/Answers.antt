use native.Mathlib.Omega.{arith}
use Prim.Native.Nat.{◌-◌}
use Rattle.rules_laws.proofs.Kmer.{four-pos}
use Rattle.kmer.proofs.Laws.{quarter-is}
use Rattle.kmer.proofs.top.Goals as goal

pub returns : goal.returns
returns c = omega (arith, quarter-is {m = c.args.head.mask} c.args.head.shifts, four-pos (c.args.head.k - 1))
