use Prim.Native.Nat.{◌≤◌}
use mathlib.Core.Path.{◌≡◌}
use Rattle.rules.specs.Set.{set_of}
use Rattle.rules.specs.Index.{index_entries}
use Rattle.make_index.proofs.Makes.{Writing}
use Rattle.make_index.proofs.write_entries.Given as goal

abbrev pub invariant-loop-v : goal.invariant-loop-v
invariant-loop-v l = record {
  within : l.v ≤ l.v-end;
  end_is : l.v-end ≡ index_entries l.set.k;
  writing : Writing (set_of l.set.bytes.now) l.initial.blocks l.blocks l.entry l.v;
}
