use Prim.Native.Nat.{◌+◌, ◌-◌}
use native.Mathlib.Omega.{arith}
use mathlib.Core.Path.{◌≡◌, ap, ◌∙◌}
use lib.ListN.{length, take, drop, length-take, length-drop}
use Rattle.rules_make.specs.MakeSet.{digits, line_count}
use Rattle.rules_make.specs.MakeSet as Rules
use Rattle.kmer_text.proofs.Laws.{Formed, formed, part_slice}
use Rattle.kmer_text.proofs.line_count.Goals.{Start}
use Rattle.kmer_text.proofs.line_count.Goals as goal

right : (c : Start) → Formed c.args.k c.args.line.now
right c = formed _ _ c.requires.1

pub overflow_sub-last : goal.overflow_sub-last
overflow_sub-last c = omega (arith, (right (goal.at.overflow_sub-last c).Start).long)

pub slice_bounds-number_of-count : goal.slice_bounds-number_of-count
slice_bounds-number_of-count c = omega (arith, (right (goal.at.slice_bounds-number_of-count c).Start).long)

pub slice_bounds-number_of-start : goal.slice_bounds-number_of-start
slice_bounds-number_of-start c = omega (arith, (right (goal.at.slice_bounds-number_of-start c).Start).long)

-- The part is the line's digits.
part-is : (c : Start) → let line = c.args.line.now in
    take (length line - 1 - (c.args.k + 1)) (drop (c.args.k + 1) line) ≡ digits c.args.k line
unfolding digits
part-is c = part_slice (c.args.k + 1) (length c.args.line.now - 1) c.args.line.now

pub number_of-requires : goal.number_of-requires
number_of-requires c =
    let f = right (goal.at.number_of-requires c).Start in
    let line = c.args.line.now in
    (rw (part-is (goal.at.number_of-requires c).Start) f.digits_right, omega (arith, f.long, f.short, length-take (length line - 1 - (c.args.k + 1)) (drop (c.args.k + 1) line), length-drop (c.args.k + 1) line))

pub returns : goal.returns
unfolding line_count
returns c = c.number_of.ensures ∙ ap (Rules.number 0) (part-is (goal.at.returns c).Start)
