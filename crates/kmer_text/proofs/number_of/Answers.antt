use native.Mathlib.Omega.{arith}
use mathlib.Core.Path.{◌∙◌, sym}
use Rattle.rules_make.specs.MakeSet.{is_digit}
use Rattle.kmer_text.proofs.Laws.{all-at, digit-range, number_more, number-end, ten-more}
use Rattle.kmer_text.proofs.number_of.Goals as goal

pub overflow_sub-digit : goal.overflow_sub-digit
overflow_sub-digit c = (digit-range _ (all-at is_digit _ c.requires.0 c.loop-digit.digit-index c.loop-digit-test.true)).0

pub loop-digit-preserved : goal.loop-digit-preserved
loop-digit-preserved c =
    let l = c.loop-digit in
    let d = digit-range _ (all-at is_digit _ c.requires.0 l.digit-index c.loop-digit-test.true) in
    record {
      small = rw c.from.ensures (ten-more l.digit-index l.sum _ l.invariant.small d.0 d.1);
      left = l.invariant.left ∙ rw c.from.ensures (number_more _ l.digit-index l.sum c.loop-digit-test.true);
    }

pub returns : goal.returns
returns c =
    let l = c.loop-digit in
    sym (l.invariant.left ∙ number-end _ l.digit-index l.sum (omega arith))
