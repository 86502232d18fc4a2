use Rattle.kmer.specs.Kmer.{kmer_of}
use Rattle.passed.proofs.Bits.{begun}
use Rattle.passed.proofs.begin.Goals as goal

pub returns : goal.returns
unfolding kmer_of
returns c =
    begun _ _ c.note.ensures (rw c.suffix_of.ensures at c.note-2.ensures)
