-- What document 01 says the program prints, by computation.
use mathlib.Core.Path.{◌≡◌, refl, ap, ◌∙◌}
use mathlib.Core.Option.{none, some}
use mathlib.Core.List.{[], ◌∷◌, map}
use lib.ListN.{replicate}
use Rattle.rules.specs.Job.{lines}
use Rattle.rules.specs.Calls.{Given, call_by, given_check, batch_right, correct_batch}
use Rattle.rules_program.specs.Program.{Files, bad_file, decimal, printed_for, call_of, printed}
use Rattle.rules.specs.Samples.{A, C, T, G, sample_set, sample_bytes}
use Rattle.rules.proofs.Samples.{sample_opens, batch_by}

-- 0 has one digit, and the largest number of 64 bits twenty.
pub decimals :
    map decimal (0 ∷ 9 ∷ 10 ∷ 1024 ∷ 18446744073709551615 ∷ [])
    ≡ (48 ∷ []) ∷ (57 ∷ []) ∷ (49 ∷ 48 ∷ []) ∷ (49 ∷ 48 ∷ 50 ∷ 52 ∷ [])
    ∷ (49 ∷ 56 ∷ 52 ∷ 52 ∷ 54 ∷ 55 ∷ 52 ∷ 52 ∷ 48 ∷ 55 ∷ 51 ∷ 55 ∷ 48 ∷ 57 ∷ 53 ∷ 53 ∷ 49 ∷ 54 ∷ 49 ∷ 53 ∷ []) ∷ []
unfolding decimal
decimals = refl

-- By the call that the files make.
printed_by : (files : Files) (g : Given) → call_of files ≡ some g → printed files ≡ printed_for (correct_batch g)
unfolding printed
printed_by files g e = rw (printed, e)

-- The printed case: job 3, 1 with lines AACGCCG and AA, whole.
pub printed_whole :
    printed (record { set = some sample_bytes; job = some (3 ∷ 1 ∷ []); batch = some (A ∷ A ∷ C ∷ G ∷ C ∷ C ∷ G ∷ 10 ∷ A ∷ A ∷ 10 ∷ []) })
    ≡ A ∷ A ∷ C ∷ T ∷ C ∷ C ∷ G ∷ 10 ∷ A ∷ A ∷ 10  -- AACTCCG, AA
    ∷ 116 ∷ 117 ∷ 114 ∷ 110 ∷ 115 ∷ 32 ∷ 49 ∷ 32  -- turns 1
    ∷ 108 ∷ 111 ∷ 111 ∷ 107 ∷ 117 ∷ 112 ∷ 115 ∷ 32 ∷ 50 ∷ 49 ∷ 32  -- lookups 21
    ∷ 119 ∷ 114 ∷ 105 ∷ 116 ∷ 116 ∷ 101 ∷ 110 ∷ 32 ∷ 49 ∷ 49 ∷ 10 ∷ []  -- written 11
unfolding printed_for call_of call_by given_check batch_right lines sample_set sample_bytes
printed_whole = printed_by _ _ refl ∙ ap printed_for (batch_by _ sample_opens.0)

-- The unknown method of job 3, 1, 5, 1: refused 3 place 1, and nothing else.
pub printed_refusal :
    printed (record { set = some sample_bytes; job = some (3 ∷ 1 ∷ 5 ∷ 1 ∷ []); batch = some (A ∷ A ∷ 10 ∷ []) })
    ≡ 114 ∷ 101 ∷ 102 ∷ 117 ∷ 115 ∷ 101 ∷ 100 ∷ 32 ∷ 51 ∷ 32  -- refused 3
    ∷ 112 ∷ 108 ∷ 97 ∷ 99 ∷ 101 ∷ 32 ∷ 49 ∷ 10 ∷ []  -- place 1
unfolding printed sample_bytes
printed_refusal = refl

-- A missing file, a job of 66 bytes, one of an odd count of bytes: `bad file` only. An empty job has no methods.
pub printed_bad :
    map printed
    (record { set = none; job = some []; batch = some [] }
    ∷ record { set = some sample_bytes; job = none; batch = some [] }
    ∷ record { set = some sample_bytes; job = some []; batch = none }
    ∷ record { set = some sample_bytes; job = some (replicate 66 1); batch = some [] }
    ∷ record { set = some sample_bytes; job = some (3 ∷ 1 ∷ 1 ∷ []); batch = some [] }
    ∷ [])
    ≡ replicate 5 bad_file
unfolding printed sample_bytes
printed_bad = refl

-- An empty job copies the batch: turns 0 lookups 0 written 3.
pub printed_copy :
    printed (record { set = some sample_bytes; job = some []; batch = some (A ∷ C ∷ 10 ∷ []) })
    ≡ A ∷ C ∷ 10
    ∷ 116 ∷ 117 ∷ 114 ∷ 110 ∷ 115 ∷ 32 ∷ 48 ∷ 32  -- turns 0
    ∷ 108 ∷ 111 ∷ 111 ∷ 107 ∷ 117 ∷ 112 ∷ 115 ∷ 32 ∷ 48 ∷ 32  -- lookups 0
    ∷ 119 ∷ 114 ∷ 105 ∷ 116 ∷ 116 ∷ 101 ∷ 110 ∷ 32 ∷ 51 ∷ 10 ∷ []  -- written 3
unfolding printed_for call_of call_by given_check batch_right lines sample_set sample_bytes
printed_copy = printed_by _ _ refl ∙ ap printed_for (batch_by _ sample_opens.0)
