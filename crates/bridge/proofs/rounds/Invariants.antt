use Rattle.std.proofs.Common.{◌≡◌, ◌≤◌, ◌-◌, take}
use Rattle.rules.specs.Set.{solid, set_of}
use Rattle.rules_bridge.specs.Bridge as rules
use Rattle.bridge.proofs.rounds.Given as goal

abbrev pub invariant-loop-round : goal.invariant-loop-round
invariant-loop-round l =
    (l.round ≤ l.deep.moves)
    × (l.lookups ≤ l.budget)
    × (rules.rounds l.set.head.k (solid (set_of l.set.bytes.now)) l.to l.budget l.from.code (take l.deep.moves l.deep.letters) (l.deep.moves - 1) 1 l.initial.lookups
    ≡ rules.rounds l.set.head.k (solid (set_of l.set.bytes.now)) l.to l.budget l.from.code (take l.deep.moves l.deep.letters) (l.deep.moves - l.round) l.round l.lookups)
