use Rattle.std.proofs.Common.{◌/◌, ◌^◌, ◌≤◌}
use Rattle.kmer.specs.Kmer.{HasLetters}
use Rattle.rules_bridge.specs.Bridge.{known}
use Rattle.bridge_ends.proofs.kmer_of.Given as goal

abbrev pub invariant-loop-behind : goal.invariant-loop-behind
invariant-loop-behind l = (l.behind ≤ l.head.k) × HasLetters l.head.k (known (l.code / 4 ^ l.behind)) l.kmer
