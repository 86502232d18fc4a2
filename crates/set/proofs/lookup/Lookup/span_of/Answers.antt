use Prim.Native.Nat.{ℕ, ◌+◌, ◌*◌, ◌-◌, ◌%◌, ◌^◌}
use native.Mathlib.Omega.{arith}
use native.Mathlib.Nat.{div-add-mod'}
use mathlib.Core.Path.{◌≡◌}
use lib.Pow.{pow_pos}
use Rattle.set.proofs.Table.{Entries, range-entries, shift-lt}
use Rattle.set.proofs.lookup.Lookup.span_of.Goals.{After-prefix_of-finest}
use Rattle.set.proofs.lookup.Lookup.span_of.Goals as goal

pub prefix_of-finest-requires : goal.prefix_of-finest-requires
prefix_of-finest-requires c = omega (arith, shift-lt c.args.self.now.table)

pub overflow_shl-width : goal.overflow_shl-width
overflow_shl-width c = omega (arith, shift-lt c.args.self.now.table)

-- The table's entries at the ends of the range.
entries : (c : After-prefix_of-finest) → let a = c.args in
    let v : ℕ = c.prefix_of-finest.result - c.prefix_of-finest.result % 2 ^ a.self.now.finer in
    Entries a.self.now.bytes.now a.self.now.starts.now (a.self.now.shift + a.self.now.finer) v (v + 2 ^ a.self.now.finer) a.key
entries c =
    rw c.prefix_of-finest.ensures (range-entries c.args.self.now.table c.args.key c.requires)

-- What the shift gives.
width : (c : After-prefix_of-finest) → let a = c.args in 1 * 2 ^ a.self.now.finer % 2 ^ 64 ≡ 2 ^ a.self.now.finer
width c = omega (arith, (entries c).room)

pub nonzero_rem-entry : goal.nonzero_rem-entry
nonzero_rem-entry c = omega (arith, width (goal.at.nonzero_rem-entry c).After-prefix_of-finest, pow_pos c.args.self.now.finer)

pub overflow_sub-entry : goal.overflow_sub-entry
overflow_sub-entry c = rw (width (goal.at.overflow_sub-entry c).After-prefix_of-finest) (omega (arith, div-add-mod' c.prefix_of-finest.result (2 ^ c.args.self.now.finer)))

pub start-requires : goal.start-requires
start-requires c = rw (width (goal.at.start-requires c).After-prefix_of-finest) (omega (arith, (entries (goal.at.start-requires c).After-prefix_of-finest).room))

pub overflow_add-entry : goal.overflow_add-entry
overflow_add-entry c = rw (width (goal.at.overflow_add-entry c).After-prefix_of-finest) (omega (arith, (entries (goal.at.overflow_add-entry c).After-prefix_of-finest).room))

pub start-requires-2 : goal.start-requires-2
start-requires-2 c = rw (width (goal.at.start-requires-2 c).After-prefix_of-finest) (omega (arith, (entries (goal.at.start-requires-2 c).After-prefix_of-finest).room))

pub returns : goal.returns
returns c =
    rw (c.start.ensures, c.start-2.ensures, width (goal.at.returns c).After-prefix_of-finest) (entries (goal.at.returns c).After-prefix_of-finest).keys
