use native.Mathlib.Omega.{arith}
use mathlib.Core.Path.{refl, sym, ◌∙◌}
use borrow.Author.Rules.{rules}
use Rattle.exist.proofs.Letters.{spelled-length, write-next, write-end}
use Rattle.exist.proofs.write.Goals as goal

pub loop-i-init : goal.loop-i-init
loop-i-init c = (search rules, refl, refl)

pub loop-i-preserved : goal.loop-i-preserved
loop-i-preserved c =
    let m = c.args.mend in
    let e = spelled-length m in (
      search rules,
      search rules,
      write-next _ _ c.loop-i.i (search rules) (omega arith) c.loop-i.invariant.2 (c.bit2nuc.ensures ∙ sym c.letter_at.ensures.is),
    )

pub returns : goal.returns
returns c =
    let m = c.args.mend in
    (write-end _ _ c.loop-i.i m.letters (search rules) (omega (arith, spelled-length m)) c.loop-i.invariant.2, search rules)
