use Prim.Native.Nat.{◌*◌}
use native.Mathlib.Omega.{arith}
use mathlib.Core.Path.{sym, ap, ◌∙◌}
use borrow.Author.Tests.{eqb-true}
use Rattle.index.proofs.Laws.{count-few}
use Rattle.check_index.proofs.Laws.{wrong-length, wrong-check, words-decide}
use Rattle.check_index.proofs.index_right.Goals.{then-index-count, else-index-count}
use Rattle.check_index.proofs.index_right.Goals as goal

pub overflow_mul-count : goal.overflow_mul-count
overflow_mul-count c = omega (arith, c.block_count-count.ensures, count-few c.args.set.now.k)

pub returns-then-checks_right : goal.returns-then-checks_right
returns-then-checks_right c =
    let s = c.args.set.now in
    let count = c.block_count-count.ensures in
    elim c.if-index-count.branch [
      | then-index-count w ↦
          rw count at c.words_right.ensures
          ∙ words-decide _ _ s.opens.right s.opens.k_is c.args.index.now (λ i. (c.type_inv.index i).fits) (w.if-index-count.true ∙ ap (λ n. 512 * n) count)
          (sym (rw count at (sym c.if-checks_right.true ∙ w.value-is ∙ w.checks_right.ensures)))
      | else-index-count w ↦ absurd (w.if-index-count.false (eqb-true _ _ (sym w.value-is ∙ c.if-checks_right.true)))
    ]

pub returns-else-checks_right : goal.returns-else-checks_right
returns-else-checks_right c =
    let s = c.args.set.now in
    let count = c.block_count-count.ensures in
    elim c.if-index-count.branch [
      | then-index-count w ↦
          c.if-checks_right.false
          ∙ wrong-check _ _ s.opens.right s.opens.k_is c.args.index.now (λ i. (c.type_inv.index i).fits)
          (sym (rw count at (sym c.if-checks_right.false ∙ w.value-is ∙ w.checks_right.ensures)))
      | else-index-count w ↦
          c.if-checks_right.false
          ∙ wrong-length _ _ s.opens.right s.opens.k_is c.args.index.now (λ i. (c.type_inv.index i).fits)
          (λ e. w.if-index-count.false (e ∙ ap (λ n. 512 * n) (sym count)))
    ]
