use Rattle.rules.specs.Set.{solid, set_of}
use Rattle.kmer.specs.Kmer.{kmer_of}
use Rattle.successors.proofs.Laws.{alternative-is}
use Rattle.successors.proofs.sole_alt.Goals as goal

pub returns : goal.returns
returns c =
    rw (alternative-is c.args.set.now.head.k (solid (set_of c.args.set.now.bytes.now)) (kmer_of c.args.kmer), ← c.drop_last-shifted.ensures.is) c.sole.ensures
