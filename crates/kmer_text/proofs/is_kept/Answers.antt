use mathlib.Core.Path.{ap}
use lib.Dec.{leb}
use Rattle.rules_make.specs.MakeSet.{kept}
use Rattle.kmer_text.proofs.is_kept.Goals as goal

pub returns : goal.returns
unfolding kept
returns c = ap (leb c.args.least) c.line_count.ensures
