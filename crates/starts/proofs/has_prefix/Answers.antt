use native.Mathlib.Omega.{arith}
use mathlib.Core.Path.{ap, ◌∙◌}
use Prim.Native.Nat.{ℕ}
use lib.Dec.{eqb}
use Rattle.few_keys.proofs.Part.{key-whole}
use Rattle.set.specs.Ready.{prefix}
use Rattle.set.proofs.Table.{opened-key-room}
use Rattle.starts.proofs.has_prefix.Goals as goal

pub key_at-requires : goal.key_at-requires
key_at-requires c = let o = c.args.set.now.opens in opened-key-room _ o.right _ (omega (arith, o.n_is))

pub returns : goal.returns
returns c =
    let a = c.args in
    ap (λ (p : ℕ). eqb p a.prefix) (c.prefix_of.ensures ∙ ap (prefix a.shift) (c.key_at.ensures ∙ key-whole a.set.now.bytes.now a.i))
