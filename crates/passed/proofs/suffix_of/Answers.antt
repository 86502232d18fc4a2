use Rattle.kmer.specs.Kmer.{kmer_of}
use Rattle.passed.proofs.Bits.{suffix-is}
use Rattle.passed.proofs.suffix_of.Goals as goal

pub returns : goal.returns
unfolding kmer_of
returns c = suffix-is c.args.head c.args.head.shifts (kmer_of c.args.kmer)
