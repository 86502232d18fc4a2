use Prim.Native.Nat.{◌≤◌}
use Rattle.lay.specs.Lay.{Sealed}
use Rattle.lay.proofs.seal.Given as goal

abbrev pub invariant-loop-block : goal.invariant-loop-block
invariant-loop-block l = (l.block ≤ l.count) × Sealed l.initial.bytes l.block l.bytes
