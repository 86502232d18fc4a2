use mathlib.Core.Path.{◌≡◌, sym, ◌∙◌}
use Prim.Native.Nat.{ℕ, ◌<◌}
use native.Mathlib.Omega.{arith}
use mathlib.Core.Bool.{Bool, true, false}
use mathlib.Core.List.{[], ◌∷◌}
use lib.ListN.{get_or}
use mir.Val.{bool_byte}
use Rattle.rules.specs.Letters.{even_ones, revcomp, canonical}
use Rattle.kmer.proofs.Laws.{even-wide, canonical-even, canonical-odd}
use borrow.Author.Rules.{rules}
use Rattle.kmer.proofs.canonical.Goals as goal

at-most-1 : (b : Bool) → bool_byte b < 2
at-most-1 true = omega arith
at-most-1 false = omega arith

pub offset_bounds-both-even : goal.offset_bounds-both-even
offset_bounds-both-even c = omega (arith, at-most-1 c.parity_even-even.result)

pub bounds-both-even : goal.bounds-both-even
bounds-both-even c = omega (arith, at-most-1 c.parity_even-even.result)

-- The entry that parity picks.
picked : (k y rev : ℕ) (even : Bool) → even ≡ even_ones k y → rev ≡ revcomp k y → get_or (rev ∷ y ∷ []) (bool_byte even) 0 ≡ canonical k y
picked k y rev true e turned = sym (canonical-even k y (sym e))
picked k y rev false e turned = turned ∙ sym (canonical-odd k y (sym e))

pub returns : goal.returns
returns c k is =
    let a = c.args in
    picked k a.kmer.code a.kmer.rev c.parity_even-even.result
    (c.parity_even-even.ensures ∙ even-wide k a.kmer.code (search rules) is.small)
    is.turned
