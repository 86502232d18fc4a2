-- The rules' outcome for each answer.
use Rattle.std.specs.Prelude.{Result, Ok, Err}
use Rattle.rules.specs.Refusal.{Outcome, accepted, refused}
use Rattle.rules.specs.Solid.{Solids}
use Rattle.refusal.specs.declared.Refusal.{Refusal}
use Rattle.refusal.specs.Refusal.{refusal_of}
use Rattle.solid.specs.declared.Count.{Count}

abbrev pub count_of : Result Count Refusal → Outcome Solids
count_of (Ok c) = accepted (record { kmers = c.kmers; solid = c.solid })
count_of (Err r) = refused (refusal_of r)
