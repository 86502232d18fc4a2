use Rattle.rules.specs.Letters.{same, all_known}
use Rattle.kmer.specs.Kmer.{kmer_of}
use mathlib.Core.Path.{refl}
use Rattle.kmer.proofs.same.Goals as goal

pub returns : goal.returns
unfolding same all_known kmer_of
returns c = refl
