use mathlib.Core.Path.{refl}
use Rattle.rules.specs.Letters.{drop_last}
use Rattle.kmer.specs.Kmer.{kmer_of}
use borrow.Author.Rules.{rules}
use Rattle.rules_laws.proofs.Kmer.{revcomp-lt, complement-lt}
use Rattle.kmer.proofs.Laws.{revcomp-drop}
use Rattle.kmer.proofs.drop_last.Goals as goal

pub shift_in-requires : goal.shift_in-requires
shift_in-requires c =
    (rw c.requires.turned (revcomp-lt _ _), rw c.complement.ensures.0 (complement-lt 0))

pub returns : goal.returns
unfolding drop_last kmer_of
returns c =
    record {
      is = refl;
      kmer = record {
        small = search rules;
        turned = rw (c.shift_in.ensures, c.complement.ensures.0, c.requires.turned)
            (revcomp-drop _ _ c.args.head.shifts.k_low c.requires.small);
        unknown_lt = search rules;
      };
    }
