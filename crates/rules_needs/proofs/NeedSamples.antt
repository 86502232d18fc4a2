-- Document 02, W9, by computation: 17 in its order, the work buffer, what batches need, and the real call's output exact and one byte short.
use Prim.Native.Nat.{ℕ}
use mathlib.Core.Path.{◌≡◌, refl}
use mathlib.Core.Option.{Option, none, some}
use mathlib.Core.List.{List, [], ◌∷◌, ◌++◌, map}
use lib.ListN.{replicate, set}
use Rattle.rules.specs.Refusal.{Outcome, accepted, refused}
use Rattle.rules.specs.Set.{KmerSet, opened}
use Rattle.rules.specs.Job.{lines}
use Rattle.rules.specs.Calls.{call_by, given_check, batch_right, correct_batch}
use Rattle.rules_needs.specs.Needs.{Asked, Told, needs_check, needs_by, needs}
use Rattle.rules.specs.Samples.{A, C, T, G, AACGCCG, AACTCCG, sample_set, sample_bytes}
use Rattle.rules.proofs.Samples.{sample_opens, other_opens, batch_by, given, refusal_of}
use Rattle.rules.proofs.IndexSamples.{sample_index}
use Rattle.rules.proofs.SupportSamples.{number_told}

-- A call by what its set's bytes open to.
needs_for : (a : Asked) {o : Outcome KmerSet} → opened a.set ≡ o → needs a ≡ needs_by o a
unfolding needs
needs_for a e = λ i. needs_by (e i) a

-- A call: set, index, counts, job, batch, and the length of work, filled with 1.
pub asked : List ℕ → List ℕ → List ℕ → List ℕ → List ℕ → ℕ → Asked
asked bytes index counts job batch work = record { set = bytes; index = index; counts = counts; job = job; batch = batch; work = replicate work 1 }

-- What it refuses, number and place, and the work buffer.
pub declined_with : Told → Option (ℕ × ℕ) × List ℕ
declined_with t = (elim t.answer [ accepted n ↦ none | refused r ↦ some (r.number, r.place) ], t.work)

-- ---- the checks

-- By the lengths of batch and work. 1 comes first. A job of no entries, and of two, is 17. Work one byte short of the batch is 5, and as long as
-- the batch it is enough; it has no upper limit.
pub lengths_in_turn :
    map number_told
    (needs_check 1048577 (replicate 18 1) 0
    ∷ needs_check 1048576 (replicate 18 1) 0
    ∷ needs_check 1048576 [] 1048576
    ∷ needs_check 1048576 (1 ∷ 1 ∷ 1 ∷ 1 ∷ []) 1048576
    ∷ needs_check 1048576 (1 ∷ 1 ∷ []) 1048575
    ∷ needs_check 1048576 (1 ∷ 1 ∷ []) 1048576
    ∷ needs_check 11 (1 ∷ 1 ∷ []) 10
    ∷ needs_check 11 (1 ∷ 1 ∷ []) 11
    ∷ needs_check 11 (1 ∷ 1 ∷ []) 2097153
    ∷ needs_check 0 (1 ∷ 1 ∷ []) 0
    ∷ [])
    ≡ 1 ∷ 2 ∷ 17 ∷ 17 ∷ 5 ∷ 0 ∷ 5 ∷ 0 ∷ 0 ∷ 0 ∷ []
unfolding number_told needs_check
lengths_in_turn = refl

-- Each meets also all that comes behind it: 3 at entry 1, and 4 at entry 1, before 17; 17 of two entries, and of none, before 5; 5 before 6; 6 before
-- the set's 7; 8 and 10 of the set before 15; 15, then 16. None changes a byte of work, as long as it may be.
pub in_turn :
    map declined_with
    (needs (asked [] (0 ∷ []) (9 ∷ []) (1 ∷ 0 ∷ 5 ∷ 1 ∷ []) (A ∷ A ∷ []) 1)
    ∷ needs (asked [] (0 ∷ []) (9 ∷ []) (1 ∷ 1 ∷ 2 ∷ 0 ∷ []) (A ∷ A ∷ []) 1)
    ∷ needs (asked [] (0 ∷ []) (9 ∷ []) (1 ∷ 1 ∷ 2 ∷ 1 ∷ []) (A ∷ A ∷ []) 1)
    ∷ needs (asked [] (0 ∷ []) (9 ∷ []) [] (A ∷ A ∷ []) 1)
    ∷ needs (asked [] (0 ∷ []) (9 ∷ []) (1 ∷ 1 ∷ []) (A ∷ A ∷ []) 1)
    ∷ needs (asked [] (0 ∷ []) (9 ∷ []) (1 ∷ 1 ∷ []) (A ∷ A ∷ []) 2)
    ∷ needs (asked [] (0 ∷ []) (9 ∷ []) (1 ∷ 1 ∷ []) (A ∷ 10 ∷ []) 2)
    ∷ needs (asked (set sample_bytes 520 7) (0 ∷ []) (9 ∷ []) (1 ∷ 1 ∷ []) (A ∷ 10 ∷ []) 3)
    ∷ needs (asked (set (set sample_bytes 520 6) 1016 183) (0 ∷ []) (9 ∷ []) (1 ∷ 1 ∷ []) (A ∷ 10 ∷ []) 3)
    ∷ needs (asked sample_bytes (0 ∷ []) (9 ∷ []) (1 ∷ 1 ∷ []) (A ∷ 10 ∷ []) 9)
    ∷ needs (asked sample_bytes [] (replicate 4 9) (1 ∷ 1 ∷ []) (A ∷ 10 ∷ []) 9)
    ∷ [])
    ≡ (some (3, 1), replicate 1 1) ∷ (some (4, 1), replicate 1 1) ∷ (some (17, 0), replicate 1 1) ∷ (some (17, 0), replicate 1 1)
    ∷ (some (5, 0), replicate 1 1) ∷ (some (6, 0), replicate 2 1) ∷ (some (7, 0), replicate 2 1) ∷ (some (8, 1), replicate 3 1)
    ∷ (some (10, 1), replicate 3 1) ∷ (some (15, 0), replicate 9 1) ∷ (some (16, 0), replicate 9 1) ∷ []
unfolding needs_by asked declined_with sample_set
in_turn =
    λ i. map declined_with
    (needs_for (asked [] (0 ∷ []) (9 ∷ []) (1 ∷ 0 ∷ 5 ∷ 1 ∷ []) (A ∷ A ∷ []) 1) other_opens.0 i
    ∷ needs_for (asked [] (0 ∷ []) (9 ∷ []) (1 ∷ 1 ∷ 2 ∷ 0 ∷ []) (A ∷ A ∷ []) 1) other_opens.0 i
    ∷ needs_for (asked [] (0 ∷ []) (9 ∷ []) (1 ∷ 1 ∷ 2 ∷ 1 ∷ []) (A ∷ A ∷ []) 1) other_opens.0 i
    ∷ needs_for (asked [] (0 ∷ []) (9 ∷ []) [] (A ∷ A ∷ []) 1) other_opens.0 i
    ∷ needs_for (asked [] (0 ∷ []) (9 ∷ []) (1 ∷ 1 ∷ []) (A ∷ A ∷ []) 1) other_opens.0 i
    ∷ needs_for (asked [] (0 ∷ []) (9 ∷ []) (1 ∷ 1 ∷ []) (A ∷ A ∷ []) 2) other_opens.0 i
    ∷ needs_for (asked [] (0 ∷ []) (9 ∷ []) (1 ∷ 1 ∷ []) (A ∷ 10 ∷ []) 2) other_opens.0 i
    ∷ needs_for (asked (set sample_bytes 520 7) (0 ∷ []) (9 ∷ []) (1 ∷ 1 ∷ []) (A ∷ 10 ∷ []) 3) other_opens.1 i
    ∷ needs_for (asked (set (set sample_bytes 520 6) 1016 183) (0 ∷ []) (9 ∷ []) (1 ∷ 1 ∷ []) (A ∷ 10 ∷ []) 3) other_opens.3 i
    ∷ needs_for (asked sample_bytes (0 ∷ []) (9 ∷ []) (1 ∷ 1 ∷ []) (A ∷ 10 ∷ []) 9) sample_opens.0 i
    ∷ needs_for (asked sample_bytes [] (replicate 4 9) (1 ∷ 1 ∷ []) (A ∷ 10 ∷ []) 9) sample_opens.0 i
    ∷ [])

-- ---- what batches need

-- The printed case, AACGCCG and AA through Graph: 11 bytes, 1 turn, 21 lookups. The whole work buffer is zeroed, however long.
pub printed_needs :
    map (λ work. needs (asked sample_bytes [] [] (3 ∷ 1 ∷ []) (AACGCCG ++ (10 ∷ A ∷ A ∷ 10 ∷ [])) work)) (11 ∷ 40 ∷ [])
    ≡ record { answer = accepted (record { bytes = 11; turns = 1; lookups = 21 }); work = replicate 11 0 }
    ∷ record { answer = accepted (record { bytes = 11; turns = 1; lookups = 21 }); work = replicate 40 0 } ∷ []
unfolding needs_by asked sample_set
printed_needs =
    λ i. map (λ work. needs_for (asked sample_bytes [] [] (3 ∷ 1 ∷ []) (AACGCCG ++ (10 ∷ A ∷ A ∷ 10 ∷ [])) work) sample_opens.0 i) (11 ∷ 40 ∷ [])

-- One, c 1: AACGCCG, mended; AACC, which grows to AACTC; AACG, at which an attempt is refused. With their ends 19 bytes come of 18.
abbrev pub three_lines : List ℕ
three_lines = AACGCCG ++ (10 ∷ A ∷ A ∷ C ∷ C ∷ 10 ∷ A ∷ A ∷ C ∷ G ∷ 10 ∷ [])

-- The same with nothing offered, and with an index and counts.
pub three_needs :
    needs (asked sample_bytes [] [] (1 ∷ 1 ∷ []) three_lines 18) ∷ needs (asked sample_bytes sample_index (replicate 5 9) (1 ∷ 1 ∷ []) three_lines 18) ∷ []
    ≡ replicate 2 (record { answer = accepted (record { bytes = 19; turns = 7; lookups = 37 }); work = replicate 18 0 })
unfolding needs_by asked sample_set sample_index
three_needs =
    λ i. needs_for (asked sample_bytes [] [] (1 ∷ 1 ∷ []) three_lines 18) sample_opens.0 i
    ∷ needs_for (asked sample_bytes sample_index (replicate 5 9) (1 ∷ 1 ∷ []) three_lines 18) sample_opens.0 i
    ∷ []

-- The real call with an output of just those bytes is accepted, with these numbers.
pub three_real :
    correct_batch (given sample_bytes (1 ∷ 1 ∷ []) three_lines 19 38)
    ≡ record {
      answer = accepted (record { written = 19; turns = 7; lookups = 37; attempts = 3; accepted = 2; yield = 667; support = none; quotient = 6; remainder = 1; bases = 6 });
      output = AACTCCG ++ (10 ∷ A ∷ A ∷ C ∷ T ∷ C ∷ 10 ∷ A ∷ A ∷ C ∷ G ∷ 10 ∷ []);
      work = replicate 38 0;
    }
unfolding call_by given_check batch_right lines given sample_set
three_real = batch_by _ sample_opens.0

-- One byte less is 11 at the last line; so are 14 bytes, which hold two lines; 13 are 11 at the second, and 7 at the first.
pub three_short :
    map (λ out. refusal_of (correct_batch (given sample_bytes (1 ∷ 1 ∷ []) three_lines out 38))) (18 ∷ 14 ∷ 13 ∷ 7 ∷ [])
    ≡ some (11, 2) ∷ some (11, 2) ∷ some (11, 1) ∷ some (11, 0) ∷ []
unfolding call_by given_check batch_right lines given sample_set refusal_of
three_short =
    λ i. map (λ out. refusal_of (batch_by (given sample_bytes (1 ∷ 1 ∷ []) three_lines out 38) sample_opens.0 i)) (18 ∷ 14 ∷ 13 ∷ 7 ∷ [])

-- Two at c 2 makes 7 letters of AACCG; GapSize and Graph mend AACGCCG and give up a walk at AACGC. No lines need nothing.
pub other_needs :
    map (λ (g : List ℕ × List ℕ). (needs (asked sample_bytes [] [] g.0 g.1 14)).answer)
    ((2 ∷ 2 ∷ [], A ∷ A ∷ C ∷ C ∷ G ∷ 10 ∷ [])
    ∷ (4 ∷ 1 ∷ [], AACGCCG ++ (10 ∷ A ∷ A ∷ C ∷ G ∷ C ∷ 10 ∷ []))
    ∷ (3 ∷ 1 ∷ [], AACGCCG ++ (10 ∷ A ∷ A ∷ C ∷ G ∷ C ∷ 10 ∷ []))
    ∷ (1 ∷ 1 ∷ [], [])
    ∷ [])
    ≡ accepted (record { bytes = 8; turns = 3; lookups = 37 })
    ∷ accepted (record { bytes = 14; turns = 6; lookups = 63 })
    ∷ accepted (record { bytes = 14; turns = 3; lookups = 65 })
    ∷ accepted (record { bytes = 0; turns = 0; lookups = 0 })
    ∷ []
unfolding needs_by asked sample_set
other_needs =
    λ i. map (λ (g : List ℕ × List ℕ). (needs_for (asked sample_bytes [] [] g.0 g.1 14) sample_opens.0 i).answer)
    ((2 ∷ 2 ∷ [], A ∷ A ∷ C ∷ C ∷ G ∷ 10 ∷ [])
    ∷ (4 ∷ 1 ∷ [], AACGCCG ++ (10 ∷ A ∷ A ∷ C ∷ G ∷ C ∷ 10 ∷ []))
    ∷ (3 ∷ 1 ∷ [], AACGCCG ++ (10 ∷ A ∷ A ∷ C ∷ G ∷ C ∷ 10 ∷ []))
    ∷ (1 ∷ 1 ∷ [], [])
    ∷ [])
