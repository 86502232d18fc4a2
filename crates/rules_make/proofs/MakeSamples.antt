-- Document 02, W3 and W8: what the maker of the set file answers, by computation. Serves W3's and W8's readings.
use Prim.Native.Nat.{ℕ}
use mathlib.Core.Path.{◌≡◌, refl}
use mathlib.Core.Option.{Option, none, some}
use mathlib.Core.List.{List, [], ◌∷◌, ◌++◌, map}
use lib.ListN.{replicate}
use Rattle.rules.specs.Refusal.{accepted, refused}
use Rattle.rules.specs.Blocks.{check_of, set_words, set_blocks}
use Rattle.rules_make.specs.MakeSet.{text_keys, text_counts, text_check, SetMade, make_set}
use Rattle.rules.specs.Samples.{A, C, T, G, sample_bytes}

-- A line: letters, a comma, digits, byte 10.
pub row : List ℕ → List ℕ → List ℕ
row letters digits = letters ++ (44 ∷ (digits ++ (10 ∷ [])))

abbrev pub ACT : List ℕ
ACT = A ∷ C ∷ T ∷ []

abbrev pub AGT : List ℕ
AGT = A ∷ G ∷ T ∷ []

abbrev pub CCG : List ℕ
CCG = C ∷ C ∷ G ∷ []

-- 01's sample set as text, in the order of the canonical codes: ACT,9 CCG,4 CTC,7 AAC,5 TCC,8. AAC (code 1) has the canonical code 58.
pub sample_text : List ℕ
unfolding row
sample_text =
    row ACT (57 ∷ []) ++ row CCG (52 ∷ []) ++ row (C ∷ T ∷ C ∷ []) (55 ∷ []) ++ row (A ∷ A ∷ C ∷ []) (53 ∷ []) ++ row (T ∷ C ∷ C ∷ []) (56 ∷ [])

-- 01's checks.
pub sample_checks : (check_of (set_words 3 (6 ∷ 23 ∷ 51 ∷ 58 ∷ 60 ∷ [])) 0 ≡ 9) × (check_of (set_words 3 (6 ∷ 23 ∷ 51 ∷ 58 ∷ 60 ∷ [])) 1 ≡ 200)
unfolding check_of set_words
sample_checks = (refl, refl)

-- The text gives 01's bytes and the lines' counts, and the rest of both buffers is zero; buffers that fit exactly do. The answer is the length of the blocks, not the
-- buffer's.
pub sample_made :
    (make_set sample_text 3 1 (replicate 1026 1) (replicate 7 1)
    ≡ record { answer = accepted 1024; blocks = sample_bytes ++ (0 ∷ 0 ∷ []); counts = 9 ∷ 4 ∷ 7 ∷ 5 ∷ 8 ∷ 0 ∷ 0 ∷ [] })
    × (make_set sample_text 3 1 (replicate 1024 1) (replicate 5 1) ≡ record { answer = accepted 1024; blocks = sample_bytes; counts = 9 ∷ 4 ∷ 7 ∷ 5 ∷ 8 ∷ [] })
unfolding make_set sample_text sample_bytes
sample_made = (refl, refl)

-- What a call leaves that gives 14: both buffers as they were.
pub short : List ℕ → List ℕ → SetMade
short blocks counts = record { answer = refused (record { number = 14; place = 0 }); blocks = blocks; counts = counts }

-- Blocks one byte too short give 14, and so does a list one too short, and one of length 0 where a key is kept. Blocks of no byte are too short even where no key is
-- kept.
pub too_short :
    (make_set sample_text 3 1 (replicate 1023 1) (replicate 5 1) ≡ short (replicate 1023 1) (replicate 5 1))
    × (make_set sample_text 3 1 (replicate 1024 1) (replicate 4 1) ≡ short (replicate 1024 1) (replicate 4 1))
    × (make_set sample_text 3 1 (replicate 1024 1) [] ≡ short (replicate 1024 1) [])
    × (make_set [] 3 1 [] [] ≡ short [] [])
unfolding make_set sample_text short
too_short = (refl, refl, refl, refl)

-- No key is kept, of no line or of five: one block, and a list of length 0 is long enough; a longer one is all zero.
pub no_keys :
    (make_set [] 3 1 (replicate 512 1) [] ≡ record { answer = accepted 512; blocks = set_blocks 3 []; counts = [] })
    × (make_set sample_text 3 10 (replicate 512 1) [] ≡ record { answer = accepted 512; blocks = set_blocks 3 []; counts = [] })
    × (make_set sample_text 3 10 (replicate 512 1) (1 ∷ 1 ∷ []) ≡ record { answer = accepted 512; blocks = set_blocks 3 []; counts = 0 ∷ 0 ∷ [] })
unfolding make_set sample_text set_blocks
no_keys = (refl, refl, refl)

-- The keys and the counts of a text.
pub keys_of : List ℕ → ℕ → List ℕ
unfolding text_keys
keys_of text least = text_keys 3 least text

pub counts_of : List ℕ → ℕ → List ℕ
unfolding text_counts
counts_of text least = text_counts 3 least text

abbrev nines : List ℕ
nines = 57 ∷ 57 ∷ 57 ∷ 57 ∷ 57 ∷ 57 ∷ 57 ∷ 57 ∷ 57 ∷ 57 ∷ []

-- Lines whose count is below the least are passed over, one at the least is kept; one that falls but is passed over is no matter. AGT is ACT. A count has ten digits
-- at most; leading zeros are digits, and 0 is a count. A least count of 2^64 − 1 keeps none.
pub readings :
    (keys_of sample_text 5 ≡ 6 ∷ 51 ∷ 58 ∷ 60 ∷ [])
    × (keys_of sample_text 18446744073709551615 ≡ [])
    × (text_check (row CCG (57 ∷ []) ++ row ACT (52 ∷ []) ++ row (A ∷ A ∷ C ∷ []) (57 ∷ [])) 3 5 ≡ none)
    × (keys_of (row CCG (57 ∷ []) ++ row ACT (52 ∷ []) ++ row (A ∷ A ∷ C ∷ []) (57 ∷ [])) 5 ≡ 23 ∷ 58 ∷ [])
    × (keys_of (row AGT nines) 9999999999 ≡ 6 ∷ [])
    × (keys_of (row AGT nines) 10000000000 ≡ [])
    × (keys_of (row ACT (48 ∷ 48 ∷ 48 ∷ 48 ∷ 48 ∷ 48 ∷ 48 ∷ 48 ∷ 49 ∷ 55 ∷ []) ++ row CCG (48 ∷ [])) 17 ≡ 6 ∷ [])
    × (keys_of (row ACT (48 ∷ 48 ∷ []) ++ row CCG (48 ∷ [])) 0 ≡ 6 ∷ 23 ∷ [])
unfolding keys_of sample_text row text_check
readings = (refl, refl, refl, refl, refl, refl, refl, refl)

-- A line that is passed over, CCG,4 here, has no count in the list. 4,294,967,294 and 4,294,967,295 stay; 4,294,967,296 and 9,999,999,999 are held at
-- 4,294,967,295, and the least count is compared with the count before it is held. 0 is a count.
pub count_readings :
    (counts_of sample_text 5 ≡ 9 ∷ 7 ∷ 5 ∷ 8 ∷ [])
    × (counts_of sample_text 10 ≡ [])
    × (counts_of (row ACT (52 ∷ 50 ∷ 57 ∷ 52 ∷ 57 ∷ 54 ∷ 55 ∷ 50 ∷ 57 ∷ 52 ∷ []) ++ row CCG (52 ∷ 50 ∷ 57 ∷ 52 ∷ 57 ∷ 54 ∷ 55 ∷ 50 ∷ 57 ∷ 53 ∷ [])) 0
    ≡ 4294967294 ∷ 4294967295 ∷ [])
    × (counts_of (row ACT (52 ∷ 50 ∷ 57 ∷ 52 ∷ 57 ∷ 54 ∷ 55 ∷ 50 ∷ 57 ∷ 54 ∷ []) ++ row CCG nines) 4294967296 ≡ 4294967295 ∷ 4294967295 ∷ [])
    × (counts_of (row ACT (48 ∷ 48 ∷ 48 ∷ 48 ∷ 48 ∷ 48 ∷ 48 ∷ 48 ∷ 49 ∷ 55 ∷ []) ++ row CCG (48 ∷ [])) 0 ≡ 17 ∷ 0 ∷ [])
unfolding counts_of sample_text row
count_readings = (refl, refl, refl, refl, refl)

-- What the maker refuses with no buffers at all, for k and the least count: number and place. 14 comes last.
pub refusal_made : List ℕ → ℕ → ℕ → Option (ℕ × ℕ)
unfolding make_set
refusal_made text k least = elim (make_set text k least [] []).answer [ accepted n ↦ none | refused r ↦ some (r.number, r.place) ]

-- 13 on line 1 comes before 12 on line 2. Falling; equal; equal by the reverse complement; falling behind a line that was passed over; CCG and AAC rise though
-- AAC's own code is below CCG's.
pub not_rising :
    refusal_made (row CCG (52 ∷ []) ++ row ACT (57 ∷ []) ++ (A ∷ 10 ∷ [])) 3 1
    ∷ refusal_made (row CCG (52 ∷ []) ++ row ACT (57 ∷ [])) 3 1
    ∷ refusal_made (row ACT (52 ∷ []) ++ row ACT (57 ∷ [])) 3 1
    ∷ refusal_made (row ACT (52 ∷ []) ++ row AGT (57 ∷ [])) 3 1
    ∷ refusal_made (row CCG (57 ∷ []) ++ row ACT (52 ∷ []) ++ row CCG (57 ∷ [])) 3 5
    ∷ refusal_made (row CCG (57 ∷ []) ++ row (A ∷ A ∷ C ∷ []) (57 ∷ [])) 3 5
    ∷ []
    ≡ some (13, 1) ∷ some (13, 1) ∷ some (13, 1) ∷ some (13, 1) ∷ some (13, 2) ∷ some (14, 0) ∷ []
unfolding refusal_made row
not_rising = refl

-- A line that breaks the form, passed over or not: U; N; lower case; a letter missing; one more; no comma; no digit; a letter for a digit; eleven digits; an empty
-- line; a line without its end, which falls too; byte 13 before the end; one byte.
pub broken :
    refusal_made (row ACT (57 ∷ []) ++ row (A ∷ C ∷ 85 ∷ []) (49 ∷ [])) 3 5
    ∷ refusal_made (row (A ∷ C ∷ 78 ∷ []) (57 ∷ [])) 3 5
    ∷ refusal_made (row (97 ∷ 99 ∷ 116 ∷ []) (57 ∷ [])) 3 5
    ∷ refusal_made (row (A ∷ C ∷ []) (57 ∷ [])) 3 5
    ∷ refusal_made (row (A ∷ C ∷ T ∷ G ∷ []) (57 ∷ [])) 3 5
    ∷ refusal_made (ACT ++ (59 ∷ 57 ∷ 10 ∷ [])) 3 5
    ∷ refusal_made (row ACT []) 3 5
    ∷ refusal_made (row ACT (57 ∷ A ∷ [])) 3 5
    ∷ refusal_made (row ACT (replicate 11 48)) 3 5
    ∷ refusal_made (row ACT (57 ∷ []) ++ (10 ∷ row CCG (57 ∷ []))) 3 5
    ∷ refusal_made (row CCG (57 ∷ []) ++ (ACT ++ (44 ∷ 57 ∷ []))) 3 5
    ∷ refusal_made (row ACT (57 ∷ 13 ∷ [])) 3 5
    ∷ refusal_made (A ∷ []) 3 5
    ∷ []
    ≡ some (12, 1) ∷ some (12, 0) ∷ some (12, 0) ∷ some (12, 0) ∷ some (12, 0) ∷ some (12, 0) ∷ some (12, 0) ∷ some (12, 0) ∷ some (12, 0)
    ∷ some (12, 1) ∷ some (12, 1) ∷ some (12, 0) ∷ some (12, 0) ∷ []
unfolding refusal_made row
broken = refl

-- k is even, 0, or over 31: 9 before any line is looked at; 31 is not refused so, but its first line is.
pub wrong_k :
    map (λ k. refusal_made (A ∷ []) k 1) (0 ∷ 2 ∷ 33 ∷ 18446744073709551615 ∷ 31 ∷ [])
    ≡ some (9, 0) ∷ some (9, 0) ∷ some (9, 0) ∷ some (9, 0) ∷ some (12, 0) ∷ []
unfolding refusal_made
wrong_k = refl
