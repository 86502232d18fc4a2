use native.Mathlib.Omega.{arith}
use mathlib.Core.Path.{sym, ◌∙◌}
use borrow.Author.Tests.{eqb-true}
use Rattle.set.proofs.Opened.{opened-n-le}
use Rattle.starts.proofs.Ends.{run_more}
use Rattle.starts.proofs.run.Goals as goal

pub overflow_add-i : goal.overflow_add-i
overflow_add-i c = let o = c.args.set.now.opens in omega (arith, o.n_is, c.requires.1, opened-n-le _ o.right)

pub returns-then-has_prefix : goal.returns-then-has_prefix
returns-then-has_prefix c =
    let a = c.args in (
      omega arith,
      omega (arith, c.if-i-set.true),
      run_more a.set.now.bytes.now a.shift a.prefix a.i 47 48 a.set.now.opens.right (omega arith) (omega (arith, c.if-i-set.true, a.set.now.opens.n_is)) c.requires.2
          (eqb-true _ _ (sym c.has_prefix.ensures ∙ c.if-has_prefix.true)),
    )

pub overflow_add-i-2 : goal.overflow_add-i-2
overflow_add-i-2 c = let o = c.args.set.now.opens in omega (arith, o.n_is, c.requires.1, opened-n-le _ o.right)

pub returns-then-has_prefix-2 : goal.returns-then-has_prefix-2
returns-then-has_prefix-2 c =
    let a = c.args in (
      omega arith,
      omega (arith, c.if-i-set-2.true),
      run_more a.set.now.bytes.now a.shift a.prefix a.i 5 6 a.set.now.opens.right (omega arith) (omega (arith, c.if-i-set-2.true, a.set.now.opens.n_is)) c.requires.2
          (eqb-true _ _ (sym c.has_prefix-then-i-set-2.ensures ∙ c.if-has_prefix-2.true)),
    )
