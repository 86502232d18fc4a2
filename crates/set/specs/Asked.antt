-- A k-mer asked, by the rules.
use Rattle.std.specs.Prelude.{◌≡◌, Bool}
use Rattle.rules.specs.Counted.{Counted}
use Rattle.set.specs.declared.Asked.{Asked}

-- The answer, after the lookups made.
pub record AskedIs (t : Counted Bool) (r : Asked) : Type 0 where
  pub solid : r.solid ≡ t.answer
  pub lookups : r.lookups ≡ t.lookups
