use native.Mathlib.Omega.{arith}
use Rattle.rules_laws.proofs.Keys.{the-header, keys-room}
use Rattle.index.proofs.Laws.{below-entry}
use Rattle.index.proofs.open_set.OpenSet.is_below.Goals as goal

pub key_at-requires : goal.key_at-requires
key_at-requires c = let o = c.args.self.now.opens in omega (arith, o.n_is, keys-room _ o.right)

pub overflow_mul-first : goal.overflow_mul-first
overflow_mul-first c = let o = c.args.self.now.opens in omega (arith, o.k_is, (the-header _ o.right).k_high)

pub overflow_shr-first : goal.overflow_shr-first
overflow_shr-first c = let o = c.args.self.now.opens in omega (arith, o.k_is, (the-header _ o.right).k_high)

pub returns : goal.returns
returns c =
    let s = c.args.self.now in
    rw (c.key_at.ensures, c.letters.ensures)
    (below-entry s.bytes.now s.opens.right s.k c.args.v c.args.i s.opens.k_is (omega (arith, s.opens.n_is)))
