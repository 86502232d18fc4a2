use mathlib.Core.Path.{sym, ◌∙◌}
use borrow.Author.Rules.{rules}
use Rattle.kmer.specs.Kmer.{kmer_of}
use Rattle.scan.proofs.Laws.{add-next, add-end}
use Rattle.scan.proofs.add_all.Goals as goal

pub loop-base-preserved : goal.loop-base-preserved
loop-base-preserved c =
    let n = c.add_base-last in
    let l = c.loop-base in
    (n.ensures.kmer, l.invariant.1 ∙ add-next _ (kmer_of l.last) _ l.base-index (search rules) n.ensures.is)

pub returns : goal.returns
returns c =
    let l = c.loop-base in
    record { is = sym (l.invariant.1 ∙ add-end _ _ _ l.base-index (search rules)); kmer = l.invariant.0 }
