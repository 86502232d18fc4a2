use mathlib.Core.Path.{refl}
use Rattle.kmer.specs.Kmer.{kmer_of}
use Rattle.scenario.proofs.Mends.{gives-one, gives-many}
use Rattle.scenario.proofs.Scenario.correct.Goals.{then-row-eq1, else-row-eq1}
use Rattle.scenario.proofs.Scenario.correct.Goals as goal

pub returns : goal.returns
unfolding kmer_of
returns g c k sol s =
    let x = kmer_of c.args.x in
    let t = kmer_of c.args.tried in
    let q = c.row-row.ensures k sol x s in
    elim c.if-row-eq1.branch [
      | then-row-eq1 w ↦ gives-one x t c.requires q _ refl refl refl w.if-row-eq1.true w.code-is
      | else-row-eq1 w ↦ gives-many x t c.requires q _ refl refl refl w.if-row-eq1.false w.code-is
    ]
