use Prim.Native.Nat.{ℕ, ◌≤◌}
use mathlib.Core.Path.{◌≡◌}
use mathlib.Core.List.{List}
use lib.ListN.{length, take, drop}
use Rattle.rules.specs.Set.{solid}
use Rattle.rules_laws.proofs.Driver.{left}
use Rattle.kmer.specs.Kmer.{kmer_of}
use Rattle.turn.specs.Turn.{offered, state_of, Stands, attempt_of, end_of}
use Rattle.correct.proofs.Reached.{Reached}
use Rattle.correct.proofs.turns_of.Given as goal

-- The invariant: whatever bytes were put out before the first place, the end of the pass from here is the end from there, and bytes that are no
-- more than the limit stand in the buffer. The measure: the turns that can still come.
abbrev pub invariant-loop-p : goal.invariant-loop-p
invariant-loop-p l =
    let first = l.initial.p in
    Stands l.set.head.k l.p l.read
    × (length l.out ≡ length l.initial.out)
    × ((put : List ℕ) → length put ≡ first.done.written → (first.done.written ≤ l.limit → take first.done.written l.initial.out ≡ put)
    → Reached l.set l.entry l.p l.read l.limit l.out (end_of l.set l.entry (state_of first l.read put)))

abbrev pub decreases-loop-p : goal.decreases-loop-p
decreases-loop-p l = left l.set.head.k (solid (offered l.set)) (attempt_of l.set l.entry) (kmer_of l.p.kmer) (drop l.p.at l.read)
