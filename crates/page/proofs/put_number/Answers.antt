use native.Mathlib.Omega.{arith}
use mathlib.Core.Path.{◌∙◌}
use Rattle.page.proofs.Decimal.{few-digits, digits_decimal}
use Rattle.page.proofs.Text.{puts-both}
use Rattle.page.proofs.put_number.Goals as goal

pub put-requires : goal.put-requires
put-requires c =
    let d = c.decimal-count in
    let few = few-digits c.args.number d.result c.ranges.number.fits d.ensures.len in
    omega (arith, d.ensures.in_bounds.1, c.put-after.ensures.0)

pub returns : goal.returns
returns c =
    let q = c.put in
    let d = c.decimal-count in
    let few = few-digits c.args.number d.result c.ranges.number.fits d.ensures.len in
    let text = d.ensures.digits ∙ digits_decimal c.args.number d.result d.ensures.len in (
      omega (arith, d.ensures.in_bounds.1, c.put-after.ensures.0, q.ensures.0),
      puts-both _ _ _ _ _ _ _ _ c.put-after.ensures.1 (rw text at q.ensures.1),
    )
