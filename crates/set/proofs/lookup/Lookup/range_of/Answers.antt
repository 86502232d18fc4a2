use native.Mathlib.Omega.{arith}
use Prim.Native.Nat.{◌+◌}
use Rattle.set.proofs.Table.{Entries, prefix-entries, shift-lt}
use Rattle.set.proofs.lookup.Lookup.range_of.Goals.{After-prefix_of-prefix}
use Rattle.set.proofs.lookup.Lookup.range_of.Goals as goal

pub prefix_of-prefix-requires : goal.prefix_of-prefix-requires
prefix_of-prefix-requires c = omega (arith, shift-lt c.args.self.now.table)

-- The table's entries for the key.
entries : (c : After-prefix_of-prefix) → let a = c.args in
    Entries a.self.now.bytes.now a.self.now.starts.now a.self.now.shift c.prefix_of-prefix.result (c.prefix_of-prefix.result + 1) a.key
entries c =
    rw c.prefix_of-prefix.ensures (prefix-entries c.args.self.now.table c.args.key c.requires)

pub start-requires : goal.start-requires
start-requires c = omega (arith, (entries (goal.at.start-requires c).After-prefix_of-prefix).room)

pub overflow_add-prefix : goal.overflow_add-prefix
overflow_add-prefix c = omega (arith, (entries (goal.at.overflow_add-prefix c).After-prefix_of-prefix).room)

pub start-requires-2 : goal.start-requires-2
start-requires-2 c = omega (arith, (entries (goal.at.start-requires-2 c).After-prefix_of-prefix).room)

pub returns : goal.returns
returns c = rw (c.start.ensures, c.start-2.ensures) (entries (goal.at.returns c).After-prefix_of-prefix).keys
