use native.Mathlib.Omega.{arith}
use native.Mathlib.Nat.{one-le-pow}
use lib.Dec.{lit<}
use mathlib.Core.Path.{refl}
use Rattle.rules.specs.Letters.{add_all, kmer, complement}
use Rattle.rules_laws.proofs.Kmer.{four-pos}
use Rattle.kmer.specs.Kmer.{kmer_of}
use Rattle.kmer.proofs.Laws.{mask_fits, revcomp-zero}
use Rattle.kmer.proofs.all_a.Goals as goal

pub overflow_mul-result : goal.overflow_mul-result
unfolding complement
overflow_mul-result c =
    rw (c.complement.ensures.0, c.args.head.shifts.mask_is) (omega (arith, mask_fits c.args.head.k c.args.head.shifts.k_high))

pub returns : goal.returns
unfolding kmer_of kmer add_all
returns c =
    record {
      is = refl;
      kmer = record { small = four-pos _; turned = rw (c.complement.ensures.0, c.args.head.shifts.mask_is) (revcomp-zero _); unknown_lt = one-le-pow _ 2 (lit< tt) };
    }
