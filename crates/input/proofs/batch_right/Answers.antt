use Rattle.std.proofs.Common.{◌≡◌, length, arith}
use borrow.Author.Tests.{eq-eqb, ne_eqb}
use Rattle.rules.specs.Calls.{batch_right}
use Rattle.input.proofs.Batch.{no-batch}
use Rattle.input.proofs.batch_right.Goals as goal

pub returns-in-empty : goal.returns-in-empty
returns-in-empty c = rw (no-batch c.args.batch.now (omega (arith, c.in-empty.len_below)))

pub returns-then-last-eq10 : goal.returns-then-last-eq10
unfolding batch_right
returns-then-last-eq10 c =
    let some : length c.args.batch.now ≡ 0 → ⊥ = λ e. omega (arith, c.in-len1-up.len_at_least) in
    rw (c.count_lines.ensures, ne_eqb _ 0 some, eq-eqb _ 10 c.if-last-eq10.true)

pub returns-else-last-eq10 : goal.returns-else-last-eq10
unfolding batch_right
returns-else-last-eq10 c =
    let some : length c.args.batch.now ≡ 0 → ⊥ = λ e. omega (arith, c.in-len1-up.len_at_least) in
    rw (ne_eqb _ 0 some, ne_eqb _ 10 c.if-last-eq10.false)
