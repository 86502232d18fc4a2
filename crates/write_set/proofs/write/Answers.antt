use native.Mathlib.Omega.{arith}
use mathlib.Core.Path.{◌≡◌, ◌∙◌}
use Rattle.rules.specs.Blocks.{blocks_for}
use Rattle.write_set.proofs.Writes.{all-written, counts-written, still-room}
use Rattle.write_set.proofs.Judged.{text-passed}
use borrow.Author.Rules.{rules}
use Rattle.write_set.proofs.write.Goals as goal

pub write_lines-requires : goal.write_lines-requires
write_lines-requires c =
    let t = text-passed _ _ _ c.requires.0 in
    let size = c.put-2.ensures.same_length ∙ c.put.ensures.same_length ∙ c.fill.ensures.len in
    (t.1, t.2, still-room c.args.n _ _ _ c.requires.1 c.requires.2 size, omega (arith, c.requires.1, c.requires.3))

pub returns : goal.returns
returns c =
    let blocks_is : c.div_ceil.result ≡ blocks_for c.args.n = omega (arith, c.div_ceil.ensures) in (
      all-written _ _ _ _ c.requires.0 c.requires.1 c.args.blocks.now _ _ _ _ _ c.requires.2 (c.fill.ensures.after (λ y e. e)) c.put.ensures c.put-2.ensures c.write_lines.ensures.0
          (rw blocks_is at c.seal.ensures) (λ i. (c.type_inv.blocks i).fits),
      counts-written _ _ _ _ c.args.counts.now _ _ c.requires.1 c.requires.3 (search rules) c.write_lines.ensures.1 (c.fill-2.ensures.after (λ y e. e)),
    )
