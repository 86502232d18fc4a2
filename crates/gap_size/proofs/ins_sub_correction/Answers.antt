use Prim.Native.Nat.{◌-◌, ◌≤◌, ◌<◌}
use native.Mathlib.Omega.{arith}
use mathlib.Core.Path.{refl, sym, ap, ◌∙◌}
use lib.ListN.{length}
use Rattle.rules.specs.Letters.{Kmer}
use Rattle.rules.specs.Counted.{Try}
use Rattle.rules_laws.proofs.Few.{SolidKmer}
use Rattle.rules_laws.proofs.Exactly.{x-good}
use Rattle.kmer.specs.Kmer.{kmer_of}
use Rattle.set.proofs.Counted.{with-count}
use Rattle.successors.proofs.Laws.{alternative-few, alternative-back}
use Rattle.gap_size.proofs.Laws.{gap-full, no-alternative, from-alternative}
use Rattle.gap_size.proofs.ins_sub_correction.Goals as goal

pub returns-then-out-scan : goal.returns-then-out-scan
returns-then-out-scan c =
    let shorter : c.args.scan.index - c.args.set.now.head.k < c.args.scan.index = omega (arith, c.requires.1, c.args.set.now.head.shifts.k_low) in
    let full : length c.args.out.now ≤ c.args.scan.index - c.args.set.now.head.k = omega (arith, c.if-out-scan.true) in
    record { is = gap-full _ _ _ _ _ _ _ full shorter; room = refl }

pub overflow_add-result : goal.overflow_add-result
overflow_add-result c = omega (arith, c.requires.2, alternative-few _ _ _ c.in-Err.ensures)

pub returns-in-Err : goal.returns-in-Err
returns-in-Err c = record { is = no-alternative _ _ _ _ _ c.in-Err.ensures; room = refl }

pub fill_by_length-requires : goal.fill_by_length-requires
unfolding SolidKmer kmer_of
fill_by_length-requires c =
    record {
      kmer = c.in-Ok.ensures.1;
      lit = (x-good _ _ _ _ (ap (λ (t : Try Kmer). t.answer) c.in-Ok.ensures.0)).1;
      weighs = c.count_at-count.ensures ∙ sym (with-count _ _ (kmer_of c.in-Ok.alt.kmer) _ c.in-Ok.ensures.2);
      above = c.requires.1;
      room = c.if-out-scan.false;
      few = c.requires.2;
    }

pub returns : goal.returns
returns c =
    rw (from-alternative _ _ _ _ _ c.in-Ok.ensures.0)
    (c.fill_by_length.ensures (kmer_of c.args.kmer) (alternative-back _ _ _ c.args.set.now.head.shifts.k_low c.in-Ok.ensures.0))
