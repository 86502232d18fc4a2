-- Document 02, W8: a table of samples with counts. For every scenario of One and Two, the three branches of GapSize and walks whose weakest
-- k-mer is the first, the last or one between: a small set, in which the keys behind no correction have the smaller counts, so that a support
-- that takes in another k-mer, or leaves one out, is another number. Results, lookups and supports are not computed by these rules: compare/
-- found them by documents 01 and 02 written down once more.
use Rattle.std.specs.Prelude.{ℕ, List, [], ◌∷◌}
use Rattle.std.proofs.Math.Option.{Option, none, some}
use Rattle.rules.specs.Set.{KmerSet}
use Rattle.rules.specs.Samples.{A, C, T, G}

-- A set with counts, a job and reads; and their results, the lookups and the support.
pub record Supported : Type 0 where
  pub set : KmerSet
  pub job : List ℕ
  pub reads : List (List ℕ)
  pub results : List (List ℕ)
  pub lookups : ℕ
  pub support : Option ℕ

unfoldable pub counted : ℕ → List ℕ → List ℕ → List ℕ → List (List ℕ) → List (List ℕ) → ℕ → Option ℕ → Supported
counted k keys counts job reads results l s =
    record { set = record { k = k; keys = keys; index = []; counts = counts }; job = job; reads = reads; results = results; lookups = l; support = s }

unfoldable pub support_table : List Supported
unfolding counted
support_table =
    counted 3 (6 ∷ 23 ∷ 51 ∷ 58 ∷ 60 ∷ []) (50 ∷ 40 ∷ 30 ∷ 20 ∷ 10 ∷ []) (1 ∷ 1 ∷ []) ((A ∷ A ∷ C ∷ G ∷ C ∷ []) ∷ []) ((A ∷ A ∷ C ∷ T ∷ C ∷ []) ∷ []) 12 (some 50)  -- the sample set: One, c 1, AACGC
    ∷ counted 3 (6 ∷ 23 ∷ 51 ∷ 58 ∷ 60 ∷ []) (50 ∷ 40 ∷ 30 ∷ 20 ∷ 10 ∷ []) (2 ∷ 2 ∷ []) ((A ∷ A ∷ C ∷ C ∷ G ∷ []) ∷ []) ((A ∷ A ∷ C ∷ T ∷ C ∷ C ∷ G ∷ []) ∷ []) 37 (some 30)  -- the sample set: Two, c 2, AACCG
    ∷ counted 3 (6 ∷ 23 ∷ 51 ∷ 58 ∷ 60 ∷ []) (50 ∷ 40 ∷ 30 ∷ 20 ∷ 10 ∷ []) (3 ∷ 1 ∷ []) ((A ∷ A ∷ C ∷ G ∷ C ∷ C ∷ G ∷ []) ∷ []) ((A ∷ A ∷ C ∷ T ∷ C ∷ C ∷ G ∷ []) ∷ []) 21 (some 10)  -- the sample set: Graph, AACGCCG
    ∷ counted 3 (6 ∷ 23 ∷ 51 ∷ 58 ∷ 60 ∷ []) (50 ∷ 40 ∷ 30 ∷ 20 ∷ 10 ∷ []) (4 ∷ 1 ∷ []) ((A ∷ A ∷ C ∷ G ∷ C ∷ C ∷ G ∷ []) ∷ []) ((A ∷ A ∷ C ∷ T ∷ C ∷ C ∷ G ∷ []) ∷ []) 19 (some 50)  -- the sample set: GapSize, c 1, AACGCCG
    ∷ counted 3 (6 ∷ 23 ∷ 51 ∷ 58 ∷ 60 ∷ []) [] (3 ∷ 1 ∷ []) ((A ∷ A ∷ C ∷ G ∷ C ∷ C ∷ G ∷ []) ∷ []) ((A ∷ A ∷ C ∷ T ∷ C ∷ C ∷ G ∷ []) ∷ []) 21 none  -- not offered
    ∷ counted 3 (6 ∷ 23 ∷ 51 ∷ 58 ∷ 60 ∷ []) (10 ∷ 20 ∷ 30 ∷ 40 ∷ 50 ∷ []) (1 ∷ 1 ∷ []) ((A ∷ A ∷ C ∷ G ∷ []) ∷ []) ((A ∷ A ∷ C ∷ G ∷ []) ∷ []) 10 none  -- offered, nothing accepted
    ∷ counted 3 (6 ∷ 23 ∷ 51 ∷ 58 ∷ 60 ∷ []) (10 ∷ 20 ∷ 30 ∷ 40 ∷ 50 ∷ []) [] ((A ∷ A ∷ C ∷ G ∷ C ∷ []) ∷ []) ((A ∷ A ∷ C ∷ G ∷ C ∷ []) ∷ []) 0 none  -- offered, no methods
    ∷ counted 3 (6 ∷ 23 ∷ 51 ∷ 58 ∷ 60 ∷ []) (10 ∷ 20 ∷ 30 ∷ 40 ∷ 50 ∷ []) (1 ∷ 1 ∷ []) ((A ∷ A ∷ []) ∷ []) ((A ∷ A ∷ []) ∷ []) 0 none  -- offered, shorter than k
    ∷ counted 3 (6 ∷ 23 ∷ 51 ∷ 58 ∷ 60 ∷ []) (0 ∷ 0 ∷ 0 ∷ 0 ∷ 0 ∷ []) (1 ∷ 1 ∷ []) ((A ∷ A ∷ C ∷ G ∷ C ∷ []) ∷ []) ((A ∷ A ∷ C ∷ T ∷ C ∷ []) ∷ []) 12 (some 0)  -- a count of 0 is a count
    ∷ counted 3 (6 ∷ 23 ∷ 51 ∷ 58 ∷ 60 ∷ []) (4294967295 ∷ 4294967295 ∷ 4294967295 ∷ 4294967295 ∷ 4294967295 ∷ []) (3 ∷ 1 ∷ []) ((A ∷ A ∷ C ∷ G ∷ C ∷ C ∷ G ∷ []) ∷ []) ((A ∷ A ∷ C ∷ T ∷ C ∷ C ∷ G ∷ []) ∷ []) 21 (some 4294967295)  -- the largest count
    ∷ counted 3 (6 ∷ 23 ∷ 51 ∷ 58 ∷ 60 ∷ []) (10 ∷ 20 ∷ 30 ∷ 40 ∷ 50 ∷ []) (3 ∷ 1 ∷ []) ((A ∷ A ∷ C ∷ G ∷ C ∷ C ∷ G ∷ []) ∷ (A ∷ A ∷ []) ∷ []) ((A ∷ A ∷ C ∷ T ∷ C ∷ C ∷ G ∷ []) ∷ (A ∷ A ∷ []) ∷ []) 21 (some 10)  -- the printed batch
    ∷ counted 3 (6 ∷ 23 ∷ 51 ∷ 58 ∷ 60 ∷ []) (20 ∷ 30 ∷ 5 ∷ 5 ∷ 5 ∷ []) (1 ∷ 1 ∷ []) ((A ∷ A ∷ C ∷ G ∷ C ∷ []) ∷ (C ∷ C ∷ G ∷ A ∷ []) ∷ []) ((A ∷ A ∷ C ∷ T ∷ C ∷ []) ∷ (C ∷ C ∷ G ∷ G ∷ A ∷ []) ∷ []) 23 (some 20)  -- a batch, the first line has the smaller support
    ∷ counted 3 (6 ∷ 23 ∷ 51 ∷ 58 ∷ 60 ∷ []) (30 ∷ 20 ∷ 5 ∷ 5 ∷ 5 ∷ []) (1 ∷ 1 ∷ []) ((A ∷ A ∷ C ∷ G ∷ C ∷ []) ∷ (C ∷ C ∷ G ∷ A ∷ []) ∷ []) ((A ∷ A ∷ C ∷ T ∷ C ∷ []) ∷ (C ∷ C ∷ G ∷ G ∷ A ∷ []) ∷ []) 23 (some 20)  -- a batch, the second line has the smaller support
    ∷ counted 3 (6 ∷ 23 ∷ 51 ∷ 58 ∷ 60 ∷ []) (50 ∷ 40 ∷ 30 ∷ 20 ∷ 10 ∷ []) (2 ∷ 2 ∷ []) ((A ∷ A ∷ C ∷ C ∷ G ∷ []) ∷ (A ∷ A ∷ C ∷ G ∷ []) ∷ []) ((A ∷ A ∷ C ∷ T ∷ C ∷ C ∷ G ∷ []) ∷ (A ∷ A ∷ C ∷ G ∷ []) ∷ []) 55 (some 30)  -- a batch, only the first line is corrected
    ∷ counted 3 (6 ∷ 23 ∷ 51 ∷ 58 ∷ 60 ∷ []) (50 ∷ 40 ∷ 30 ∷ 20 ∷ 10 ∷ []) (2 ∷ 2 ∷ []) ((A ∷ A ∷ C ∷ G ∷ []) ∷ (A ∷ A ∷ C ∷ C ∷ G ∷ []) ∷ []) ((A ∷ A ∷ C ∷ G ∷ []) ∷ (A ∷ A ∷ C ∷ T ∷ C ∷ C ∷ G ∷ []) ∷ []) 55 (some 30)  -- a batch, only the second line is corrected
    ∷ counted 3 (6 ∷ 24 ∷ 33 ∷ []) (30 ∷ 20 ∷ 10 ∷ []) (4 ∷ 1 ∷ []) ((T ∷ A ∷ C ∷ C ∷ T ∷ A ∷ []) ∷ []) ((T ∷ A ∷ C ∷ T ∷ A ∷ []) ∷ []) 12 (some 20)  -- GapSize, Graph branch, weakest T or the last
    ∷ counted 3 (5 ∷ 15 ∷ 24 ∷ 33 ∷ []) (20 ∷ 30 ∷ 10 ∷ 40 ∷ []) (4 ∷ 1 ∷ []) ((T ∷ A ∷ G ∷ T ∷ A ∷ []) ∷ []) ((T ∷ A ∷ G ∷ G ∷ T ∷ A ∷ []) ∷ []) 15 (some 20)  -- GapSize, Graph branch, weakest one between
    ∷ counted 3 (6 ∷ 24 ∷ 33 ∷ []) (20 ∷ 30 ∷ 10 ∷ []) (4 ∷ 1 ∷ []) ((T ∷ A ∷ C ∷ C ∷ T ∷ A ∷ []) ∷ []) ((T ∷ A ∷ C ∷ T ∷ A ∷ []) ∷ []) 12 (some 20)  -- GapSize, Graph branch, weakest x
    ∷ counted 3 (23 ∷ 53 ∷ []) (10 ∷ 20 ∷ []) (4 ∷ 1 ∷ []) ((C ∷ G ∷ G ∷ T ∷ G ∷ C ∷ []) ∷ []) ((C ∷ G ∷ G ∷ C ∷ C ∷ []) ∷ []) 15 (some 20)  -- GapSize, One branch, I
    ∷ counted 3 (12 ∷ 24 ∷ []) (10 ∷ 20 ∷ []) (4 ∷ 1 ∷ []) ((T ∷ C ∷ T ∷ C ∷ G ∷ A ∷ []) ∷ []) ((T ∷ C ∷ T ∷ A ∷ G ∷ A ∷ []) ∷ []) 16 (some 20)  -- GapSize, One branch, S
    ∷ counted 3 (18 ∷ 20 ∷ 53 ∷ []) (20 ∷ 30 ∷ 10 ∷ []) (4 ∷ 1 ∷ []) ((G ∷ C ∷ C ∷ T ∷ C ∷ G ∷ G ∷ []) ∷ []) ((G ∷ C ∷ C ∷ A ∷ T ∷ G ∷ G ∷ []) ∷ []) 15 (some 20)  -- GapSize, moves, weakest T or the last
    ∷ counted 3 (5 ∷ 36 ∷ 57 ∷ 63 ∷ []) (20 ∷ 10 ∷ 30 ∷ 40 ∷ []) (4 ∷ 1 ∷ []) ((T ∷ G ∷ A ∷ A ∷ C ∷ G ∷ C ∷ C ∷ []) ∷ []) ((T ∷ G ∷ A ∷ C ∷ C ∷ C ∷ C ∷ C ∷ []) ∷ []) 20 (some 20)  -- GapSize, moves, weakest one between
    ∷ counted 3 (18 ∷ 20 ∷ 53 ∷ []) (30 ∷ 20 ∷ 10 ∷ []) (4 ∷ 1 ∷ []) ((G ∷ C ∷ C ∷ T ∷ C ∷ G ∷ G ∷ []) ∷ []) ((G ∷ C ∷ C ∷ A ∷ T ∷ G ∷ G ∷ []) ∷ []) 15 (some 20)  -- GapSize, moves, weakest x
    ∷ counted 3 (6 ∷ 17 ∷ 24 ∷ []) (30 ∷ 20 ∷ 10 ∷ []) (3 ∷ 1 ∷ []) ((T ∷ A ∷ G ∷ G ∷ T ∷ G ∷ []) ∷ []) ((T ∷ A ∷ G ∷ T ∷ G ∷ []) ∷ []) 12 (some 20)  -- Graph, weakest T or the last
    ∷ counted 3 (5 ∷ 15 ∷ 17 ∷ 27 ∷ []) (20 ∷ 30 ∷ 40 ∷ 10 ∷ []) (3 ∷ 1 ∷ []) ((C ∷ A ∷ G ∷ T ∷ G ∷ []) ∷ []) ((C ∷ A ∷ G ∷ G ∷ T ∷ G ∷ []) ∷ []) 15 (some 20)  -- Graph, weakest one between
    ∷ counted 3 (6 ∷ 17 ∷ 24 ∷ []) (20 ∷ 30 ∷ 10 ∷ []) (3 ∷ 1 ∷ []) ((T ∷ A ∷ G ∷ G ∷ T ∷ G ∷ []) ∷ []) ((T ∷ A ∷ G ∷ T ∷ G ∷ []) ∷ []) 12 (some 20)  -- Graph, weakest x
    ∷ counted 3 (12 ∷ 24 ∷ []) (10 ∷ 20 ∷ []) (1 ∷ 1 ∷ []) ((T ∷ C ∷ T ∷ G ∷ []) ∷ []) ((T ∷ C ∷ T ∷ A ∷ G ∷ []) ∷ []) 11 (some 20)  -- One, D
    ∷ counted 3 (10 ∷ 40 ∷ []) (20 ∷ 10 ∷ []) (1 ∷ 1 ∷ []) ((T ∷ A ∷ A ∷ G ∷ A ∷ T ∷ []) ∷ []) ((T ∷ A ∷ A ∷ T ∷ T ∷ []) ∷ []) 13 (some 20)  -- One, I
    ∷ counted 3 (24 ∷ 54 ∷ []) (10 ∷ 20 ∷ []) (1 ∷ 1 ∷ []) ((T ∷ A ∷ G ∷ G ∷ T ∷ []) ∷ []) ((T ∷ A ∷ G ∷ C ∷ T ∷ []) ∷ []) 12 (some 20)  -- One, S
    ∷ counted 3 (6 ∷ 33 ∷ []) (10 ∷ 20 ∷ []) (2 ∷ 1 ∷ 1 ∷ 1 ∷ []) ((A ∷ G ∷ T ∷ G ∷ A ∷ []) ∷ []) ((A ∷ G ∷ T ∷ A ∷ C ∷ T ∷ A ∷ []) ∷ []) 56 (some 10)  -- Two entries, the first pass has the smaller
    ∷ counted 3 (6 ∷ 33 ∷ []) (20 ∷ 10 ∷ []) (2 ∷ 1 ∷ 1 ∷ 1 ∷ []) ((A ∷ G ∷ T ∷ G ∷ A ∷ []) ∷ []) ((A ∷ G ∷ T ∷ A ∷ C ∷ T ∷ A ∷ []) ∷ []) 56 (some 10)  -- Two entries, the second pass has the smaller
    ∷ counted 3 (15 ∷ 60 ∷ []) (10 ∷ 20 ∷ []) (2 ∷ 1 ∷ []) ((T ∷ C ∷ C ∷ C ∷ T ∷ []) ∷ []) ((T ∷ C ∷ C ∷ T ∷ C ∷ C ∷ T ∷ []) ∷ []) 32 (some 20)  -- Two, DCD
    ∷ counted 3 (9 ∷ 23 ∷ []) (20 ∷ 10 ∷ []) (2 ∷ 1 ∷ []) ((C ∷ C ∷ G ∷ A ∷ A ∷ T ∷ T ∷ C ∷ []) ∷ []) ((C ∷ C ∷ G ∷ A ∷ T ∷ T ∷ C ∷ []) ∷ []) 127 (some 20)  -- Two, DCI
    ∷ counted 3 (10 ∷ 40 ∷ []) (10 ∷ 20 ∷ []) (2 ∷ 1 ∷ []) ((A ∷ A ∷ T ∷ A ∷ []) ∷ []) ((A ∷ A ∷ T ∷ T ∷ A ∷ A ∷ []) ∷ []) 20 (some 20)  -- Two, DD
    ∷ counted 3 (0 ∷ 3 ∷ 6 ∷ []) (30 ∷ 10 ∷ 20 ∷ []) (2 ∷ 1 ∷ []) ((A ∷ A ∷ G ∷ A ∷ G ∷ T ∷ T ∷ []) ∷ []) ((A ∷ A ∷ G ∷ T ∷ T ∷ T ∷ T ∷ []) ∷ []) 48 (some 30)  -- Two, ICD
    ∷ counted 3 (12 ∷ 51 ∷ []) (20 ∷ 10 ∷ []) (2 ∷ 2 ∷ []) ((T ∷ C ∷ T ∷ G ∷ C ∷ A ∷ T ∷ C ∷ T ∷ C ∷ []) ∷ []) ((T ∷ C ∷ T ∷ C ∷ T ∷ C ∷ T ∷ C ∷ []) ∷ []) 63 (some 20)  -- Two, ICI
    ∷ counted 3 (17 ∷ 46 ∷ []) (10 ∷ 20 ∷ []) (2 ∷ 1 ∷ []) ((C ∷ T ∷ G ∷ T ∷ T ∷ C ∷ C ∷ G ∷ []) ∷ []) ((C ∷ T ∷ G ∷ T ∷ G ∷ T ∷ []) ∷ []) 55 (some 20)  -- Two, ICS
    ∷ counted 3 (24 ∷ 34 ∷ []) (10 ∷ 20 ∷ []) (2 ∷ 1 ∷ []) ((T ∷ A ∷ T ∷ T ∷ A ∷ A ∷ G ∷ []) ∷ []) ((T ∷ A ∷ T ∷ A ∷ A ∷ G ∷ []) ∷ []) 53 (some 20)  -- Two, II
    ∷ counted 3 (9 ∷ 36 ∷ []) (20 ∷ 10 ∷ []) (2 ∷ 1 ∷ []) ((G ∷ A ∷ T ∷ T ∷ C ∷ A ∷ []) ∷ []) ((G ∷ A ∷ T ∷ C ∷ A ∷ []) ∷ []) 38 (some 20)  -- Two, IS
    ∷ counted 3 (12 ∷ 48 ∷ []) (10 ∷ 20 ∷ []) (2 ∷ 1 ∷ []) ((T ∷ T ∷ C ∷ C ∷ T ∷ T ∷ []) ∷ []) ((T ∷ T ∷ C ∷ T ∷ T ∷ C ∷ T ∷ []) ∷ []) 36 (some 20)  -- Two, SCD
    ∷ counted 3 (5 ∷ 15 ∷ 24 ∷ 57 ∷ []) (10 ∷ 20 ∷ 30 ∷ 40 ∷ []) (2 ∷ 1 ∷ []) ((T ∷ C ∷ T ∷ A ∷ T ∷ A ∷ A ∷ C ∷ C ∷ T ∷ A ∷ []) ∷ []) ((T ∷ C ∷ T ∷ A ∷ G ∷ A ∷ C ∷ C ∷ T ∷ A ∷ []) ∷ []) 68 (some 40)  -- Two, SCI
    ∷ counted 3 (23 ∷ 53 ∷ []) (20 ∷ 10 ∷ []) (2 ∷ 1 ∷ []) ((C ∷ G ∷ G ∷ T ∷ C ∷ T ∷ G ∷ []) ∷ []) ((C ∷ G ∷ G ∷ C ∷ C ∷ G ∷ G ∷ []) ∷ []) 50 (some 20)  -- Two, SCS
    ∷ counted 3 (17 ∷ 46 ∷ []) (20 ∷ 10 ∷ []) (2 ∷ 1 ∷ []) ((C ∷ A ∷ C ∷ C ∷ A ∷ []) ∷ []) ((C ∷ A ∷ C ∷ A ∷ C ∷ A ∷ []) ∷ []) 37 (some 20)  -- Two, SD
    ∷ counted 3 (17 ∷ 46 ∷ []) (10 ∷ 20 ∷ []) (2 ∷ 1 ∷ []) ((T ∷ G ∷ T ∷ C ∷ C ∷ G ∷ []) ∷ []) ((T ∷ G ∷ T ∷ G ∷ T ∷ G ∷ []) ∷ []) 38 (some 20)  -- Two, SS
    ∷ counted 3 (10 ∷ 40 ∷ []) (20 ∷ 10 ∷ []) (2 ∷ 1 ∷ []) ((A ∷ T ∷ T ∷ T ∷ A ∷ T ∷ []) ∷ []) ((A ∷ T ∷ T ∷ T ∷ A ∷ A ∷ T ∷ T ∷ []) ∷ []) 57 (some 20)  -- a refused attempt, whose x has a smaller count, before an accepted one by a scenario
    ∷ counted 3 (43 ∷ 46 ∷ 58 ∷ []) (30 ∷ 20 ∷ 10 ∷ []) (3 ∷ 2 ∷ []) ((C ∷ A ∷ A ∷ A ∷ C ∷ C ∷ A ∷ A ∷ []) ∷ []) ((C ∷ A ∷ A ∷ A ∷ C ∷ A ∷ A ∷ []) ∷ []) 19 (some 20)  -- a refused attempt, whose x has a smaller count, before an accepted one by a walk
    ∷ counted 3 (24 ∷ 54 ∷ []) (20 ∷ 10 ∷ []) (1 ∷ 1 ∷ []) ((G ∷ C ∷ T ∷ G ∷ A ∷ []) ∷ []) ((G ∷ C ∷ T ∷ A ∷ G ∷ A ∷ []) ∷ []) 21 (some 20)  -- a refused attempt, whose x has a smaller count, behind an accepted one by a scenario
    ∷ counted 3 (33 ∷ 46 ∷ []) (20 ∷ 10 ∷ []) (3 ∷ 1 ∷ []) ((T ∷ G ∷ T ∷ T ∷ A ∷ C ∷ G ∷ []) ∷ []) ((T ∷ G ∷ T ∷ A ∷ C ∷ G ∷ []) ∷ []) 21 (some 20)  -- a refused attempt, whose x has a smaller count, behind an accepted one by a walk
    ∷ counted 3 (10 ∷ 40 ∷ []) (20 ∷ 10 ∷ []) (2 ∷ 1 ∷ []) ((T ∷ A ∷ A ∷ A ∷ A ∷ T ∷ []) ∷ []) ((T ∷ A ∷ A ∷ T ∷ T ∷ A ∷ A ∷ T ∷ []) ∷ []) 45 (some 20)  -- several kept, one remains, a dropped one's tried k-mer has a smaller count
    ∷ []
