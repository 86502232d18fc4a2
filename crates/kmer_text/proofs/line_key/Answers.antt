use native.Mathlib.Omega.{arith}
use mathlib.Core.Path.{ap, ◌∙◌}
use Rattle.rules.specs.Letters.{canonical}
use Rattle.rules_make.specs.MakeSet.{line_key}
use Rattle.kmer.proofs.Laws.{code_is}
use Rattle.kmer_text.proofs.Laws.{formed}
use Rattle.kmer_text.proofs.line_key.Goals as goal

pub seq2bit-requires : goal.seq2bit-requires
seq2bit-requires c = omega (arith, (formed _ _ c.requires).long)

pub returns : goal.returns
unfolding line_key
returns c =
    c.canonical.ensures _ c.seq2bit.ensures.kmer ∙ ap (canonical c.args.head.k) (code_is c.seq2bit.ensures)
