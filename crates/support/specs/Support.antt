-- A support as the rules have it.
use Rattle.std.specs.Prelude.{ℕ, Option as Told, Some, None}
use Rattle.std.proofs.Math.Option.{Option, none, some}

-- The smallest count behind the accepted corrections, none if there are none.
abbrev pub support_of : Told ℕ → Option ℕ
support_of (Some support) = some support
support_of None = none
