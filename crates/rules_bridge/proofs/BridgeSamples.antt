-- W13's samples, by computation.
use Prim.Native.Nat.{ℕ}
use mathlib.Core.Path.{◌≡◌, refl}
use mathlib.Core.Option.{Option, none, some}
use mathlib.Core.List.{[], ◌∷◌, ◌++◌, map}
use lib.ListN.{replicate}
use Rattle.rules.specs.Letters.{kmer}
use Rattle.rules.specs.Refusal.{Outcome, accepted, refused}
use Rattle.rules.specs.Set.{solid}
use Rattle.rules_bridge.specs.Bridge.{Bridge, bridge, find_bridge, told, told_of}
use Rattle.rules.specs.Samples.{A, T, C, G, word_bytes, sample_set, sample_bytes}
use Rattle.rules_bridge.specs.BridgeSamples.{just_a, all_bases, two_ways, cees_first, tees_first, BridgeSample, line, table}

-- A line as the rules have it: chain, lookups, floor, and whether it stopped.
pub by_rules : BridgeSample → BridgeSample
unfolding bridge kmer solid line just_a all_bases two_ways cees_first tees_first
by_rules s =
    let from : ℕ = (kmer s.set.k s.from).code in
    let to : ℕ = (kmer s.set.k s.to).code in
    let b : Bridge = bridge s.set.k (solid s.set) to s.budget from in
    line s.set s.from s.to s.budget b.chain b.lookups b.floor b.stop

-- Every line of the table is as the rules have it.
pub bridge_samples : map by_rules table ≡ table
unfolding by_rules table sample_set
bridge_samples = refl

-- ---- calls

-- What a call refuses: number and place.
pub refusal_of : Outcome Bridge → Option (ℕ × ℕ)
refusal_of (accepted b) = none
refusal_of (refused r) = some (r.number, r.place)

-- 20: AAC (1) and CCG (23) are solid, AAA (0) is not, and 65, which is AAC and 4^k, never is; the first if both.
pub bridge_refusals :
    map refusal_of
    (find_bridge sample_bytes 0 23 1000
    ∷ find_bridge sample_bytes 1 0 1000
    ∷ find_bridge sample_bytes 65 0 1000
    ∷ find_bridge sample_bytes 65 23 1000
    ∷ find_bridge sample_bytes 1 87 0
    ∷ [])
    ≡ some (20, 0) ∷ some (20, 1) ∷ some (20, 0) ∷ some (20, 0) ∷ some (20, 1) ∷ []
unfolding find_bridge sample_bytes refusal_of
bridge_refusals = refl

-- 7 to 10 come before it: no bytes; the second block's check one more; k = 4; the key 6 twice.
pub bridge_sets :
    map refusal_of
    (find_bridge [] 0 0 1000
    ∷ find_bridge (word_bytes (3 ∷ 5 ∷ replicate 61 0 ++ (9 ∷ [])) ++ word_bytes (6 ∷ 23 ∷ 51 ∷ 58 ∷ 60 ∷ replicate 58 0 ++ (201 ∷ []))) 0 0 1000
    ∷ find_bridge (word_bytes (4 ∷ 5 ∷ replicate 61 0 ++ (10 ∷ [])) ++ word_bytes (6 ∷ 23 ∷ 51 ∷ 58 ∷ 60 ∷ replicate 58 0 ++ (200 ∷ []))) 0 0 1000
    ∷ find_bridge (word_bytes (3 ∷ 5 ∷ replicate 61 0 ++ (9 ∷ [])) ++ word_bytes (6 ∷ 6 ∷ 51 ∷ 58 ∷ 60 ∷ replicate 58 0 ++ (183 ∷ []))) 0 0 1000
    ∷ [])
    ≡ some (7, 0) ∷ some (8, 1) ∷ some (9, 0) ∷ some (10, 1) ∷ []
unfolding find_bridge word_bytes refusal_of
bridge_sets = refl

-- What is told. The check of both ends lies outside budget and count: AAC to CCG on 40 lookups, and with none.
pub bridge_calls :
    told_of (find_bridge sample_bytes 1 23 40) ∷ told_of (find_bridge sample_bytes 1 23 0) ∷ told_of (find_bridge sample_bytes 0 23 40) ∷ []
    ≡ accepted (record { moves = 4; lookups = 40; floor = 4; letters = T ∷ C ∷ C ∷ G ∷ replicate 12 0 })
    ∷ accepted (record { moves = 0; lookups = 0; floor = 1; letters = replicate 16 0 })
    ∷ refused (record { number = 20; place = 0 })
    ∷ []
unfolding find_bridge told_of sample_bytes
bridge_calls = refl

-- A chain of 16 moves: no 0 behind its letters.
pub sixteen_told :
    told (bridge 1 (solid all_bases) 1 64 0) ≡ record { moves = 16; lookups = 64; floor = 1; letters = replicate 15 A ++ (C ∷ []) }
unfolding bridge told solid all_bases
sixteen_told = refl
