use native.Mathlib.Omega.{arith}
use mathlib.Core.Path.{refl, sym, ◌∙◌}
use Rattle.kmer.specs.Kmer.{kmer_of}
use Rattle.set.proofs.Counted.{with-count}
use Rattle.scan.specs.Scan.{scan_of}
use Rattle.successors.proofs.Laws.{alternative-known, alternative-few, alternative-back}
use Rattle.graph.proofs.Laws.{no-alternative, from-alternative}
use Rattle.graph.proofs.from_scan.Goals as goal

pub overflow_add-result : goal.overflow_add-result
overflow_add-result c = omega (arith, c.requires.2, alternative-few _ _ _ c.in-Err.ensures)

pub returns-in-Err : goal.returns-in-Err
returns-in-Err c = record { is = no-alternative _ _ _ (scan_of c.args.scan) _ c.in-Err.ensures; room = refl }

pub walk-requires : goal.walk-requires
unfolding kmer_of
walk-requires c =
    let weighs = c.count_at-count.ensures ∙ sym (with-count _ _ (kmer_of c.in-Ok.alt.kmer) _ c.in-Ok.ensures.2) in
    (c.in-Ok.ensures.1, alternative-known _ _ _ c.in-Ok.ensures.0, c.requires.1, c.requires.2, weighs)

pub returns : goal.returns
returns c =
    rw (from-alternative _ _ _ (scan_of c.args.scan) _ c.in-Ok.ensures.0)
    (c.walk.ensures (kmer_of c.args.kmer) (alternative-back _ _ _ c.args.set.now.head.shifts.k_low c.in-Ok.ensures.0))
