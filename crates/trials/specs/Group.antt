-- What a group holds behind the mends kept.
use Rattle.std.specs.Prelude.{◌-◌, ℕ, List, replicate}
use Rattle.std.proofs.Common.{arith}
use Rattle.scenario.specs.declared.mend.Mend.{Mend}

-- a place that holds no mend
abbrev pub blank : Mend
blank = record { code = 0; letters = 0; resume = 0; tried = 0; place = 0; small = (omega arith, omega arith) }

-- the places that hold none, n being kept
abbrev pub blanks : ℕ → List Mend
blanks n = replicate (13 - n) blank
