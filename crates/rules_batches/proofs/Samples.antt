-- Document 02, W14, by computation: shares and places of a line in two batches, a refusal that comes sooner, and a batch in parts.
use Prim.Native.Nat.{ℕ}
use mathlib.Core.Path.{◌≡◌, refl}
use mathlib.Core.Option.{none, some}
use mathlib.Core.List.{List, [], ◌∷◌, ◌++◌, map}
use Rattle.rules.specs.Set.{KmerSet}
use Rattle.rules.specs.Job.{Entry, entries_of, lines}
use Rattle.rules.specs.Calls.{report, call_by, given_check, batch_right, correct_batch}
use Rattle.rules.specs.Samples.{A, C, G, AACGCCG}
use Rattle.rules.proofs.Samples.{other_opens, batch_by, given, refusal_of}
use Rattle.rules_batches.specs.Batches.{place_in, bytes_in, share_of}

-- The sample's set with counts, and One with confirm 1.
abbrev pub counted : KmerSet
counted = record { k = 3; keys = 6 ∷ 23 ∷ 51 ∷ 58 ∷ 60 ∷ []; index = []; counts = 30 ∷ 20 ∷ 5 ∷ 5 ∷ 5 ∷ [] }

abbrev pub one : List Entry
one = entries_of (1 ∷ 1 ∷ [])

abbrev pub CCGA : List ℕ
CCGA = C ∷ C ∷ G ∷ A ∷ []

-- CCGA alone, behind AACGCCG, and before it with an empty line between: each time CCGGA and its end at its place, and the same share.
pub shares :
    map (λ i. share_of counted one (CCGA ∷ []) i) (0 ∷ [])
    ++ (map (λ i. share_of counted one (AACGCCG ∷ CCGA ∷ []) i) (1 ∷ []) ++ map (λ i. share_of counted one (CCGA ∷ [] ∷ AACGCCG ∷ []) i) (0 ∷ 1 ∷ 2 ∷ []))
    ≡ record { turns = 2; lookups = 11; attempts = 1; accepted = 1; bases = 1; support = some 20 }
    ∷ record { turns = 2; lookups = 11; attempts = 1; accepted = 1; bases = 1; support = some 20 }
    ∷ record { turns = 2; lookups = 11; attempts = 1; accepted = 1; bases = 1; support = some 20 }
    ∷ record { turns = 0; lookups = 0; attempts = 0; accepted = 0; bases = 0; support = none }
    ∷ record { turns = 4; lookups = 16; attempts = 1; accepted = 1; bases = 4; support = some 30 }
    ∷ []
unfolding share_of entries_of
shares = refl

pub places :
    (map (λ i. place_in counted one (10 ∷ []) (CCGA ∷ [] ∷ AACGCCG ∷ []) i) (0 ∷ 1 ∷ 2 ∷ []) ≡ 0 ∷ 6 ∷ 7 ∷ [])
    × (bytes_in counted one (10 ∷ []) (AACGCCG ∷ CCGA ∷ []) 1 ≡ C ∷ C ∷ G ∷ G ∷ A ∷ 10 ∷ [])
unfolding place_in bytes_in entries_of
places = (refl, refl)

-- Of a set that does not open, a batch with a final byte 10 is told 7, and one without is told 6, which is checked before it.
pub sooner :
    map (λ batch. refusal_of (correct_batch (given [] (1 ∷ 1 ∷ []) batch 9 18))) ((A ∷ 10 ∷ []) ∷ (A ∷ []) ∷ []) ≡ some (7, 0) ∷ some (6, 0) ∷ []
unfolding call_by given_check batch_right lines given refusal_of
sooner = λ i. map (λ batch. refusal_of (batch_by (given [] (1 ∷ 1 ∷ []) batch 9 18) other_opens.0 i)) ((A ∷ 10 ∷ []) ∷ (A ∷ []) ∷ [])

-- AACGCCG, CCGA and AACG as one batch, and as batches of one and of two lines. Bytes written, turns, lookups, attempts, accepted and bases add; yields do
-- not: 667 comes from 2 of 3, where the parts have 1000 and 500; nor do quotients: 37 lookups for 6 bases are 6 and 1, of the parts 4 and 10.
pub in_parts :
    map (report counted one (10 ∷ [])) ((AACGCCG ∷ CCGA ∷ (A ∷ A ∷ C ∷ G ∷ []) ∷ []) ∷ (AACGCCG ∷ []) ∷ (CCGA ∷ (A ∷ A ∷ C ∷ G ∷ []) ∷ []) ∷ [])
    ≡ record { written = 19; turns = 7; lookups = 37; attempts = 3; accepted = 2; yield = 667; support = some 20; quotient = 6; remainder = 1; bases = 6 }
    ∷ record { written = 8; turns = 4; lookups = 16; attempts = 1; accepted = 1; yield = 1000; support = some 30; quotient = 4; remainder = 0; bases = 4 }
    ∷ record { written = 11; turns = 3; lookups = 21; attempts = 2; accepted = 1; yield = 500; support = some 20; quotient = 10; remainder = 1; bases = 2 }
    ∷ []
unfolding report entries_of
in_parts = refl
