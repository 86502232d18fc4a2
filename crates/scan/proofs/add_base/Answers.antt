use mathlib.Core.Path.{ap, ◌∙◌}
use borrow.Author.Rules.{rules}
use Rattle.rules.specs.Letters.{add}
use Rattle.rules_laws.proofs.Kmer.{code-le}
use Rattle.scan.proofs.add_base.Goals as goal

pub add_nuc_to_end-requires : goal.add_nuc_to_end-requires
add_nuc_to_end-requires c = (search rules, rw c.nuc2bit.ensures (code-le _))

pub returns : goal.returns
returns c =
    let e = c.add_nuc_to_end.ensures in
    record { is = e.is ∙ ap (add _ _) c.nuc2bit.ensures; kmer = e.kmer }
