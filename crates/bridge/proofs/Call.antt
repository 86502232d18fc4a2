-- The call up to its search.
use Prim.Native.Nat.{ℕ}
use mathlib.Core.Path.{◌≡◌}
use mathlib.Core.Bool.{Bool, true, false}
use mathlib.Core.Option.{none, some}
use mathlib.Core.List.{List, [], ◌∷◌}
use lib.ListN.{get_or}
use Rattle.rules.specs.Refusal as Rules
use Rattle.rules.specs.Refusal.{Outcome, accepted, refused, at_place, first_failing}
use Rattle.rules.specs.Set.{KmerSet, header_k, set_of, solid, opened}
use Rattle.rules_bridge.specs.Bridge.{bridge, solid_code, ends_check, find_bridge}
use Rattle.refusal.specs.declared.Refusal.TheVariants.{NotSolid}
use Rattle.refusal.specs.Refusal.{refusal_of}

-- ---- the ends

module _ (ok : ℕ → Bool) where
  first-fails : ok 0 ≡ false → at_place 20 (first_failing ok 0 2) ≡ some (refusal_of (NotSolid 0))
  unfolding first_failing at_place
  first-fails e = rw (e, first_failing)

  second-fails : ok 0 ≡ true → ok 1 ≡ false → at_place 20 (first_failing ok 0 2) ≡ some (refusal_of (NotSolid 1))
  unfolding first_failing at_place
  second-fails e f = rw (e, first_failing, f)

  neither-fails : ok 0 ≡ true → ok 1 ≡ true → at_place 20 (first_failing ok 0 2) ≡ none
  unfolding first_failing at_place
  neither-fails e f = rw (e, first_failing, f)

module _ (set : KmerSet) (from to : ℕ) where
  -- The test of the ends.
  ok : ℕ → Bool
  ok i = solid_code set (get_or (from ∷ to ∷ []) i 0)

  ends-first : solid_code set from ≡ false → ends_check set from to ≡ some (refusal_of (NotSolid 0))
  unfolding ends_check ok
  ends-first e = first-fails ok e

  ends-second : solid_code set from ≡ true → solid_code set to ≡ false → ends_check set from to ≡ some (refusal_of (NotSolid 1))
  unfolding ends_check ok
  ends-second e f = second-fails ok e f

  ends-both : solid_code set from ≡ true → solid_code set to ≡ true → ends_check set from to ≡ none
  unfolding ends_check ok
  ends-both e f = neither-fails ok e f

-- ---- the call

module _ (bytes : List ℕ) (from to budget : ℕ) where
  pub not_opened : (r : Rules.Refusal) → opened bytes ≡ refused r → find_bridge bytes from to budget ≡ refused r
  unfolding find_bridge
  not_opened r e = rw (e, find_bridge)

  module _ (o : opened bytes ≡ accepted (set_of bytes)) where
    pub not_first : solid_code (set_of bytes) from ≡ false → find_bridge bytes from to budget ≡ refused (refusal_of (NotSolid 0))
    unfolding find_bridge
    not_first e = rw (o, find_bridge, ends-first (set_of bytes) from to e)

    pub not-second : solid_code (set_of bytes) from ≡ true → solid_code (set_of bytes) to ≡ false
        → find_bridge bytes from to budget ≡ refused (refusal_of (NotSolid 1))
    unfolding find_bridge
    not-second e f = rw (o, find_bridge, ends-second (set_of bytes) from to e f)

    pub both-solid : (k y : ℕ) → k ≡ header_k bytes → y ≡ from → solid_code (set_of bytes) from ≡ true → solid_code (set_of bytes) to ≡ true
        → find_bridge bytes from to budget ≡ accepted (bridge k (solid (set_of bytes)) to budget y)
    unfolding find_bridge set_of
    both-solid k y k_is y-is e f = rw (y-is, k_is, o, find_bridge, ends-both (set_of bytes) from to e f)
