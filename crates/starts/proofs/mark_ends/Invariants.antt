use mathlib.Core.Path.{◌≡◌}
use Prim.Native.Nat.{◌-◌, ◌≤◌}
use lib.ListN.{length}
use Rattle.starts.specs.Ends.{Marked}
use Rattle.starts.proofs.mark_ends.Given as goal

abbrev pub invariant-loop-i : goal.invariant-loop-i
invariant-loop-i l = (l.i ≤ l.set.n) × (length l.starts ≡ length l.initial.starts) × Marked l.set.bytes.now l.shift l.i l.prefixes l.starts

abbrev pub decreases-loop-i : goal.decreases-loop-i
decreases-loop-i l = l.set.n - l.i
