use Rattle.std.proofs.Common.{sym, ◌∙◌, rules}
use borrow.Author.Tests.{not-true, not-false}
use Rattle.rules.specs.Set.{solid, set_of}
use Rattle.edit_walk.specs.Walk.{stand_of}
use Rattle.edit_walk.proofs.Steps.{step-free, step-solid, step-offends, part_end}
use Rattle.edit_walk.proofs.pass_over.Goals.{in-Some+else-not-ask, in_default}
use Rattle.edit_walk.proofs.pass_over.Goals as goal

pub returns-then-not-ask : goal.returns-then-not-ask
returns-then-not-ask c =
    let l = c.loop-base in
    let a = c.args in
    l.invariant.1
    ∙ step-offends a.set.now.head.k (solid (set_of a.set.now.bytes.now)) a.«then» a.part.now l.base-index (stand_of l.walk) (search rules)
    (stand_of c.take_base-walk.result) c.take_base-walk.ensures.stand c.in-Some.is
    (sym c.ask.ensures.solid ∙ not-true _ c.if-not-ask.true)

pub loop-base-preserved : goal.loop-base-preserved
loop-base-preserved c =
    let l = c.loop-base in
    let a = c.args in
    let sol = solid (set_of a.set.now.bytes.now) in
    let w = stand_of l.walk in
    let v = stand_of c.take_base-walk.result in (
      c.take_base-walk.ensures.kmer,
      l.invariant.1
          ∙ elim c.match-asks.branch [
            | in-Some+else-not-ask x ↦
                step-solid a.set.now.head.k sol a.«then» a.part.now l.base-index w (search rules) v c.take_base-walk.ensures.stand
                (sym x.ask.ensures.solid ∙ not-false _ x.if-not-ask.false)
            | in_default x ↦
                step-free a.set.now.head.k sol a.«then» a.part.now l.base-index w (search rules) v c.take_base-walk.ensures.stand x.in_default.is
          ],
    )

pub returns : goal.returns
returns c =
    let l = c.loop-base in
    let a = c.args in
    (l.invariant.1 ∙ part_end a.set.now.head.k (solid (set_of a.set.now.bytes.now)) a.«then» a.part.now l.base-index (stand_of l.walk) (search rules), l.invariant.0)
