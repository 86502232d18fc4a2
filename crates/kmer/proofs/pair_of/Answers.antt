use native.Mathlib.Omega.{arith}
use Rattle.rules_laws.proofs.Kmer.{complement-lt}
use Rattle.kmer.proofs.Laws.{pair_is}
use Rattle.kmer.proofs.pair_of.Goals as goal

pub overflow_add-result : goal.overflow_add-result
overflow_add-result c = omega (arith, c.complement.ensures.0, complement-lt 0)

pub returns : goal.returns
returns c = rw c.complement.ensures.0 (pair_is c.args.nuc c.requires)
