use Rattle.kmer.proofs.Laws.{shifted}
use Rattle.kmer.proofs.shift_in.Goals as goal

pub returns : goal.returns
returns c =
    shifted c.args.head _ _ c.args.head.shifts c.requires.0 c.requires.1
