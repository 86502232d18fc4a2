use native.Mathlib.Omega.{arith}
use Rattle.std.proofs.lemmas.Result.{err_from_is_err_and}
use Rattle.index.specs.Index.{Opens}
use Rattle.index.proofs.Laws.{count-few}
use Rattle.make_index.proofs.Makes.{index-refused, index_short, index-fits}
use Rattle.make_index.proofs.make_index.Goals.{In_ok-opened}
use Rattle.make_index.proofs.make_index.Goals as goal

pub returns-in_err-opened : goal.returns-in_err-opened
returns-in_err-opened c =
    let p = err_from_is_err_and c.from_residual.result c.from_residual.ensures.1 in
    rw (p.1, p.2) (index-refused _ _ _ c.in_err-opened.ensures)

-- The call's bytes open, with this k and this n.
opens : (c : In_ok-opened) → Opens c.args.set.now c.in_ok-opened.opened.k c.in_ok-opened.opened.n
opens c = let o = c.in_ok-opened in rw o.ensures.1 at o.opened.opens

pub overflow_mul-count : goal.overflow_mul-count
overflow_mul-count c = omega (arith, c.block_count-count.ensures, count-few c.in_ok-opened.opened.k)

pub returns-then-blocks-count : goal.returns-then-blocks-count
returns-then-blocks-count c =
    index_short _ _ _ _ c.in_ok-opened.ensures.0 (opens (goal.at.returns-then-blocks-count c).In_ok-opened) _ c.block_count-count.ensures c.if-blocks-count.true

pub returns : goal.returns
returns c =
    let written = rw c.in_ok-opened.ensures.1 at c.write.ensures in
    index-fits _ c.args.blocks.now _ _ c.in_ok-opened.ensures.0 (opens (goal.at.returns c).In_ok-opened) _ c.block_count-count.ensures _ c.if-blocks-count.false written
