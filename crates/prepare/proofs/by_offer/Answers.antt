use mathlib.Core.Path.{sym, ◌∙◌}
use mathlib.Core.Bool.{false≢true}
use borrow.Author.Tests.{eq-eqb}
use native.Mathlib.Omega.{arith}
use Rattle.set.proofs.Opened.{opened-k-high, opened-n-le}
use Rattle.prepare.proofs.Indexed.{offered-is}
use Rattle.prepare.proofs.by_offer.Goals as goal

pub prefix_bits-bits-requires : goal.prefix_bits-bits-requires
prefix_bits-bits-requires c =
    let o = c.args.set.now.opens in
    omega (arith, o.k_is, o.n_is, opened-k-high _ o.right, opened-n-le _ o.right)

pub by_index-requires : goal.by_index-requires
by_index-requires c =
    offered-is _ _ c.requires (λ e. false≢true (sym c.if-is_empty.false ∙ c.is_empty.ensures ∙ eq-eqb _ _ e))
