use Rattle.std.proofs.Common.{◌≡◌, ◌%◌, ◌^◌, ◌≤◌}
use Rattle.rules.specs.Set.{sum_words}
use Rattle.blocks.proofs.check_word.Given as goal

abbrev pub invariant-loop-i : goal.invariant-loop-i
invariant-loop-i l =
    (l.i ≤ 63) × (l.sum ≡ sum_words l.set l.block l.i % 2 ^ 64)
