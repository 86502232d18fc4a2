use native.Mathlib.Omega.{arith}
use Rattle.make_index.proofs.Makes.{writing-starts, writing_more, writing-ends}
use Rattle.make_index.proofs.write_entries.Goals as goal

pub loop-v-init : goal.loop-v-init
loop-v-init c = record { within = omega arith; end_is = c.entry_count-v-end.ensures; writing = writing-starts _ _ }

pub loop-v-preserved : goal.loop-v-preserved
loop-v-preserved c = record {
  within = omega arith;
  end_is = c.loop-v.invariant.end_is;
  writing = writing_more _ c.args.set.now.opens.right _ _ _ c.loop-v.v _ _ c.loop-v.invariant.writing c.next_entry-entry.ensures c.put.ensures;
}

pub returns : goal.returns
returns c =
    writing-ends _ _ c.args.set.now.opens.k_is _ _ _ c.loop-v.v (omega (arith, c.loop-v.invariant.end_is)) c.loop-v.invariant.writing
