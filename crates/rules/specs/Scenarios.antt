-- A second table of samples, beside document 01's: for each scenario of One and Two a small set and a read in which it is the one used,
-- GapSize where it does not hand over to One, and two walks of Graph that are given up. Bytes, turns and lookups are not computed by these
-- rules: compare/ found them, where natir/br and document 01 written down once more agree on every line (Graph's two were counted by hand).
-- Another check start, resume, count of letters or least length gives another line.
use Rattle.std.specs.Prelude.{ℕ, List, [], ◌∷◌}
use Rattle.rules.specs.Set.{KmerSet}
use Rattle.rules.specs.Job.{One, Two, Graph, GapSize}
use Rattle.rules.specs.Samples.{A, C, T, G, Sample, line}

-- A line, and the set that it is for.
pub record OnSet : Type 0 where
  pub set : KmerSet
  pub sample : Sample

unfoldable pub on : ℕ → List ℕ → Sample → OnSet
on k keys s = record { set = record { k = k; keys = keys; index = []; counts = [] }; sample = s }

-- The name behind a line is the scenario's.
unfoldable pub scenario_table : List OnSet
unfolding on line
scenario_table =
    on 3 (5 ∷ 23 ∷ 57 ∷ 60 ∷ []) (line One 1 (G ∷ G ∷ T ∷ G ∷ C ∷ C ∷ G ∷ G ∷ []) (G ∷ G ∷ T ∷ C ∷ C ∷ G ∷ G ∷ []) 4 17)  -- I
    ∷ on 3 (12 ∷ 51 ∷ []) (line One 2 (G ∷ A ∷ G ∷ T ∷ G ∷ A ∷ []) (G ∷ A ∷ G ∷ A ∷ G ∷ A ∷ []) 3 14)  -- S
    ∷ on 3 (5 ∷ 17 ∷ 20 ∷ []) (line One 1 (A ∷ C ∷ C ∷ C ∷ C ∷ A ∷ []) (A ∷ C ∷ C ∷ A ∷ C ∷ C ∷ A ∷ []) 4 16)  -- D
    ∷ on 3 (33 ∷ 34 ∷ 46 ∷ []) (line Two 1 (T ∷ G ∷ T ∷ G ∷ T ∷ A ∷ T ∷ []) (T ∷ G ∷ T ∷ A ∷ A ∷ T ∷ []) 3 46)  -- II
    ∷ on 3 (29 ∷ 54 ∷ []) (line Two 1 (A ∷ G ∷ C ∷ G ∷ G ∷ C ∷ G ∷ []) (A ∷ G ∷ C ∷ G ∷ C ∷ G ∷ []) 3 35)  -- IS
    ∷ on 3 (12 ∷ 17 ∷ 30 ∷ 39 ∷ 57 ∷ []) (line Two 1 (A ∷ C ∷ G ∷ A ∷ G ∷ A ∷ T ∷ C ∷ G ∷ T ∷ []) (A ∷ C ∷ G ∷ A ∷ C ∷ G ∷ T ∷ C ∷ G ∷ T ∷ []) 6 64)  -- SS
    ∷ on 3 (0 ∷ 58 ∷ []) (line Two 1 (G ∷ T ∷ T ∷ C ∷ T ∷ T ∷ T ∷ []) (G ∷ T ∷ T ∷ T ∷ T ∷ T ∷ T ∷ T ∷ []) 4 50)  -- SD
    ∷ on 3 (5 ∷ 23 ∷ []) (line Two 1 (A ∷ C ∷ C ∷ T ∷ G ∷ T ∷ []) (A ∷ C ∷ C ∷ G ∷ G ∷ T ∷ G ∷ T ∷ []) 4 41)  -- DD
    ∷ on 3 (6 ∷ 17 ∷ 18 ∷ 36 ∷ 51 ∷ 57 ∷ []) (line Two 1 (A ∷ T ∷ G ∷ C ∷ G ∷ A ∷ G ∷ T ∷ C ∷ []) (A ∷ T ∷ G ∷ A ∷ G ∷ T ∷ C ∷ []) 4 55)  -- ICI
    ∷ on 3 (23 ∷ 29 ∷ 57 ∷ 60 ∷ []) (line Two 2 (G ∷ T ∷ C ∷ A ∷ C ∷ T ∷ C ∷ G ∷ G ∷ []) (G ∷ T ∷ C ∷ C ∷ G ∷ G ∷ G ∷ []) 3 74)  -- ICS
    ∷ on 3 (10 ∷ 18 ∷ 34 ∷ 40 ∷ 43 ∷ 45 ∷ []) (line Two 1 (T ∷ T ∷ G ∷ C ∷ T ∷ T ∷ A ∷ A ∷ T ∷ []) (T ∷ T ∷ G ∷ C ∷ A ∷ T ∷ A ∷ A ∷ T ∷ []) 5 51)  -- ICD
    ∷ on 3 (5 ∷ 6 ∷ 17 ∷ 20 ∷ 27 ∷ 46 ∷ 57 ∷ 60 ∷ []) (line Two 1 (G ∷ G ∷ A ∷ A ∷ T ∷ G ∷ G ∷ T ∷ G ∷ T ∷ []) (G ∷ G ∷ A ∷ C ∷ T ∷ G ∷ T ∷ G ∷ T ∷ []) 4 47)  -- SCI
    ∷ on 3 (10 ∷ 17 ∷ 40 ∷ 43 ∷ 46 ∷ []) (line Two 1 (A ∷ T ∷ T ∷ A ∷ G ∷ T ∷ C ∷ G ∷ T ∷ G ∷ []) (A ∷ T ∷ T ∷ A ∷ A ∷ T ∷ T ∷ G ∷ T ∷ G ∷ []) 5 57)  -- SCS
    ∷ on 3 (3 ∷ 15 ∷ 29 ∷ 53 ∷ []) (line Two 1 (G ∷ C ∷ G ∷ A ∷ C ∷ T ∷ []) (G ∷ C ∷ G ∷ C ∷ C ∷ T ∷ T ∷ []) 2 31)  -- SCD
    ∷ on 3 (23 ∷ 29 ∷ 43 ∷ 45 ∷ 53 ∷ []) (line Two 2 (T ∷ T ∷ G ∷ T ∷ C ∷ G ∷ G ∷ G ∷ C ∷ []) (T ∷ T ∷ G ∷ C ∷ G ∷ G ∷ G ∷ C ∷ []) 6 81)  -- DCI
    ∷ on 3 (29 ∷ []) (line Two 2 (C ∷ G ∷ C ∷ C ∷ C ∷ G ∷ []) (C ∷ G ∷ C ∷ G ∷ C ∷ G ∷ C ∷ G ∷ []) 3 37)  -- DCD
    ∷ on 3 (15 ∷ 24 ∷ 40 ∷ 60 ∷ []) (line One 1 (T ∷ C ∷ C ∷ A ∷ A ∷ A ∷ G ∷ []) (T ∷ C ∷ C ∷ A ∷ A ∷ A ∷ G ∷ []) 4 17)  -- a score not cut at the end
    ∷ on 5 (252 ∷ 344 ∷ 741 ∷ 917 ∷ []) (line GapSize 1 (T ∷ A ∷ G ∷ G ∷ G ∷ G ∷ A ∷ C ∷ A ∷ []) (T ∷ A ∷ G ∷ G ∷ G ∷ A ∷ C ∷ A ∷ []) 2 13)  -- GapSize, index below k
    ∷ on 5 (349 ∷ 373 ∷ 509 ∷ 1013 ∷ []) (line GapSize 1 (G ∷ C ∷ G ∷ G ∷ G ∷ G ∷ G ∷ C ∷ G ∷ C ∷ C ∷ []) (G ∷ C ∷ G ∷ G ∷ G ∷ C ∷ C ∷ C ∷ G ∷ C ∷ C ∷ []) 5 19)  -- GapSize, index above k
    ∷ on 3 (6 ∷ 23 ∷ 51 ∷ 58 ∷ 60 ∷ []) (line Graph 1 (A ∷ A ∷ C ∷ G ∷ A ∷ C ∷ T ∷ []) (A ∷ A ∷ C ∷ G ∷ A ∷ C ∷ T ∷ []) 4 12)  -- Graph, T is x
    ∷ on 3 (43 ∷ 46 ∷ 58 ∷ []) (line Graph 1 (C ∷ A ∷ A ∷ T ∷ []) (C ∷ A ∷ A ∷ T ∷ []) 1 34)  -- Graph, round three k-mers to the mark of move 4: 7 moves
    ∷ on 3 (6 ∷ 23 ∷ 51 ∷ 58 ∷ 60 ∷ []) (line GapSize 1 (A ∷ A ∷ C ∷ G ∷ C ∷ []) (A ∷ A ∷ C ∷ G ∷ C ∷ []) 2 44)  -- GapSize, a walk that is given up
    ∷ on 3 (60 ∷ 63 ∷ []) (line GapSize 1 (T ∷ C ∷ C ∷ T ∷ C ∷ T ∷ C ∷ []) (T ∷ C ∷ C ∷ T ∷ C ∷ T ∷ C ∷ []) 4 16)  -- GapSize, a repeat
    ∷ []
