-- What a host is told of a bridge.
use Rattle.std.specs.Prelude.{ℕ, List, ◌∷◌, replicate}
use Rattle.rules.specs.Refusal.{Outcome, accepted, refused}
use Rattle.rules_bridge.specs.Bridge.{Told}

-- The refusal's number (0: none), its place, moves (0: no chain), lookups, floor, then 16 numbers: the letters' bytes, 0 behind the last. What does
-- not apply is 0.
unfoldable pub bridge_numbers : Outcome Told → List ℕ
bridge_numbers (accepted t) = 0 ∷ 0 ∷ t.moves ∷ t.lookups ∷ t.floor ∷ t.letters
bridge_numbers (refused r) = r.number ∷ r.place ∷ replicate 19 0
