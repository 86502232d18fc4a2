use mathlib.Core.Path.{ap, ◌∙◌}
use mathlib.Core.Logic.{inl, inr}
use Rattle.rules.specs.Letters.{met}
use Rattle.kmer.specs.Kmer.{kmer_of}
use Rattle.passed.specs.Filter.{suffix, Noted}
use Rattle.passed.proofs.Among.{passed-is}
use Rattle.passed.proofs.Bits.{asked, not-passed}
use Rattle.passed.proofs.meet.Goals.{After-note-maybe, then-before, else-before}
use Rattle.passed.proofs.meet.Goals as goal

-- the next k-mer's last letters are noted
told : (c : After-note-maybe) → Noted c.args.filter.now c.note-maybe.new.filter (suffix c.args.head.k (kmer_of c.args.next)) c.note-maybe.result
told c = rw c.suffix_of.ensures at c.note-maybe.ensures

pub returns-then-maybe : goal.returns-then-maybe
returns-then-maybe c =
    asked _ (kmer_of c.args.next) c.requires.covers (told (goal.at.returns-then-maybe c).After-note-maybe)
    (c.seen-repeats.ensures ∙ ap (met (kmer_of c.args.next)) (passed-is _ _ _ _))

pub returns-else-maybe : goal.returns-else-maybe
returns-else-maybe c =
    let h = c.requires.covers in
    asked _ _ h (told (goal.at.returns-else-maybe c).After-note-maybe)
    (c.if-maybe.false-raw ∙ not-passed _ _ h (told (goal.at.returns-else-maybe c).After-note-maybe) (elim c.if-before.branch [
      | then-before w ↦ inr (cc)
      | else-before w ↦ inl w.if-before.false
    ]))
