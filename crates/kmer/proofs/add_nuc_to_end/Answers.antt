use native.Mathlib.Omega.{arith}
use mathlib.Core.Path.{◌≡◌, ap, ◌∙◌}
use Prim.Native.Nat.{◌%◌}
use Rattle.rules.specs.Letters.{add, complement}
use Rattle.rules_laws.proofs.Kmer.{push-lt}
use lib.Dec.{lit<}
use Rattle.kmer.specs.Kmer.{kmer_of}
use Rattle.kmer.proofs.Laws.{low_bits, rev-add, rev-fits}
use Rattle.kmer.proofs.add_nuc_to_end.Goals.{After-pair_of}
use Rattle.kmer.proofs.add_nuc_to_end.Goals as goal

pub shift_in-requires : goal.shift_in-requires
shift_in-requires c = (c.requires.0.small, omega (arith, low_bits c.args.nuc))

pub pair_of-requires : goal.pair_of-requires
pair_of-requires c = (omega (arith, low_bits c.args.nuc))

-- the complement of the letter's two bits
paired : (c : After-pair_of) → c.pair_of.result ≡ complement (c.args.nuc % 4)
paired c = c.pair_of.ensures ∙ ap complement (low_bits c.args.nuc)

pub overflow_mul-result : goal.overflow_mul-result
overflow_mul-result c =
    rw (paired (goal.at.overflow_mul-result c).After-pair_of, c.top.ensures)
    (omega (arith, rev-fits c.args.head c.args.kmer c.args.head.shifts c.requires.0 (c.args.nuc % 4) (omega arith)))

pub overflow_add-result : goal.overflow_add-result
overflow_add-result c =
    rw (paired (goal.at.overflow_add-result c).After-pair_of, c.top.ensures)
    (omega (arith, rev-fits c.args.head c.args.kmer c.args.head.shifts c.requires.0 (c.args.nuc % 4) (omega arith)))

pub returns : goal.returns
unfolding kmer_of add
returns c =
    let e = c.shift_in.ensures in
    let u = c.mark_in.ensures in
    let m = low_bits c.args.nuc in
    record {
      is = λ i. record { code = (rw m at e) i; unknown = u i };
      kmer = record {
        small = rw e (push-lt 4 _ _ _ (lit< tt));
        turned = rw (e, m, paired (goal.at.returns c).After-pair_of, c.top.ensures)
            (rev-add c.args.head c.args.kmer c.args.head.shifts c.requires.0 (c.args.nuc % 4) (omega arith));
        unknown_lt = rw u (push-lt 2 _ _ _ (lit< tt));
      };
    }
