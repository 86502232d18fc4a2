use Prim.Native.Nat.{◌^◌, ◌<◌}
use mathlib.Core.Path.{◌≡◌}
use lib.ListN.{drop}
use Rattle.rules_make.specs.MakeSet as Rules
use Rattle.kmer_text.proofs.number_of.Given as goal

abbrev pub invariant-loop-digit : goal.invariant-loop-digit
invariant-loop-digit l = record { small : l.sum < 10 ^ l.digit-index; left : Rules.number 0 l.digits ≡ Rules.number l.sum (drop l.digit-index l.digits) }
