use mathlib.Core.Path.{◌≡◌}
use Prim.Native.Nat.{ℕ, ◌<◌, ◌≤◌, max}
use lib.ListN.{get_or}
use Rattle.starts.specs.Ends.{highest}
use Rattle.starts.proofs.carry_ends.Given as goal

abbrev pub invariant-loop-start : goal.invariant-loop-start
invariant-loop-start l = record {
  carried : (u : ℕ) → u < l.start-index → get_or l.start-items u 0 ≡ highest l.fn.starts u;
  others : (u : ℕ) → l.start-index ≤ u → get_or l.start-items u 0 ≡ get_or l.fn.starts u 0;
  next : max l.most (get_or l.fn.starts l.start-index 0) ≡ highest l.fn.starts l.start-index;
}
