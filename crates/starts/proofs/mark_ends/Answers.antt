use mathlib.Core.Path.{◌≡◌, ap, ◌∙◌}
use Prim.Native.Nat.{◌<◌}
use native.Mathlib.Omega.{arith}
use borrow.Author.Rules.{rules}
use Rattle.rules.specs.Set.{key_word}
use Rattle.few_keys.proofs.Part.{key-whole}
use Rattle.set.specs.Ready.{prefix}
use Rattle.set.proofs.Opened.{opened-n-le}
use Rattle.set.proofs.Table.{opened-key-room}
use Rattle.starts.proofs.mark_ends.Goals.{After-prefix_of-prefix}
use Rattle.starts.proofs.mark_ends.Goals as goal

pub key_at-requires : goal.key_at-requires
key_at-requires c = let o = c.args.set.now.opens in opened-key-room _ o.right _ (omega (arith, o.n_is))

-- The key's prefix is one of the table's.
known : (c : After-prefix_of-prefix) → let a = c.args in
    (c.prefix_of-prefix.result ≡ prefix a.shift (key_word a.set.now.bytes.now c.loop-i.i)) × (c.prefix_of-prefix.result < a.prefixes)
known c =
    let is = c.prefix_of-prefix.ensures ∙ ap (prefix c.args.shift) (c.key_at.ensures ∙ key-whole c.args.set.now.bytes.now c.loop-i.i) in
    (is, rw is (c.requires.2 _ (search rules)))

pub run-step-requires : goal.run-step-requires
run-step-requires c = (c.requires.0, search rules, (known c).0)

pub overflow_cast-starts : goal.overflow_cast-starts
overflow_cast-starts c = let o = c.args.set.now.opens in omega (arith, c.run-step.ensures.1, o.n_is, opened-n-le _ o.right)

pub overflow_add-starts-in-loop-i : goal.overflow_add-starts-in-loop-i
overflow_add-starts-in-loop-i c = omega (arith, (known (goal.at.overflow_add-starts-in-loop-i c).After-prefix_of-prefix).1)

pub offset_bounds-starts-prefix : goal.offset_bounds-starts-prefix
offset_bounds-starts-prefix c = omega (arith, (known (goal.at.offset_bounds-starts-prefix c).After-prefix_of-prefix).1)
