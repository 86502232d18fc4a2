use mathlib.Core.Path.{sym}
use lib.Seq.{set_out}
use Rattle.rules.specs.Letters.{last_letter}
use Rattle.kmer.specs.Kmer.{kmer_of}
use Rattle.walk.proofs.write_last.Goals as goal

pub returns-then-at-out : goal.returns-then-at-out
unfolding last_letter kmer_of
returns-then-at-out c = rw c.bit2nuc.ensures

pub returns-else-at-out : goal.returns-else-at-out
returns-else-at-out c = sym (set_out _ _ _ c.if-at-out.false)
