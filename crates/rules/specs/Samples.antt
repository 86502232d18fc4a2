-- Document 01, "Sample reads": its set and its reads marked *; document 02, W1: jobs of several entries; W5: reads with unknown letters.
use Rattle.std.specs.Prelude.{ℕ, List, [], ◌∷◌, ◌++◌, replicate}
use Rattle.rules.specs.Set.{KmerSet}
use Rattle.rules.specs.Blocks.{bytes_of}
use Rattle.rules.specs.Job.{Method, One, Two, Graph, GapSize}

abbrev pub A : ℕ
A = 65

abbrev pub C : ℕ
C = 67

abbrev pub T : ℕ
T = 84

abbrev pub G : ℕ
G = 71

-- Not a letter of 01, and T's other name.
abbrev pub N : ℕ
N = 78

abbrev pub U : ℕ
U = 85

abbrev pub AACCG : List ℕ
AACCG = A ∷ A ∷ C ∷ C ∷ G ∷ []

abbrev pub AACGTC : List ℕ
AACGTC = A ∷ A ∷ C ∷ G ∷ T ∷ C ∷ []

abbrev pub AACGCCG : List ℕ
AACGCCG = A ∷ A ∷ C ∷ G ∷ C ∷ C ∷ G ∷ []

abbrev pub AACTCCG : List ℕ
AACTCCG = A ∷ A ∷ C ∷ T ∷ C ∷ C ∷ G ∷ []

-- k = 3, keys 6, 23, 51, 58, 60.
unfoldable pub sample_set : KmerSet
sample_set = record { k = 3; keys = 6 ∷ 23 ∷ 51 ∷ 58 ∷ 60 ∷ []; index = []; counts = [] }

-- 64-bit words as bytes.
unfoldable pub word_bytes : List ℕ → List ℕ
unfolding bytes_of
word_bytes [] = []
word_bytes (w ∷ ws) = bytes_of 8 w ++ word_bytes ws

-- The set's 1,024 bytes: block 0 and one block of keys, checks 9 and 200.
unfoldable pub sample_bytes : List ℕ
unfolding word_bytes
sample_bytes =
    word_bytes (3 ∷ 5 ∷ replicate 61 0 ++ (9 ∷ []))
    ++ word_bytes (6 ∷ 23 ∷ 51 ∷ 58 ∷ 60 ∷ replicate 58 0 ++ (200 ∷ []))

-- A line of the table: method, confirm, read; and bytes, turns, lookups.
pub record Sample : Type 0 where
  pub method : Method
  pub confirm : ℕ
  pub read : List ℕ
  pub bytes : List ℕ
  pub turns : ℕ
  pub lookups : ℕ

unfoldable pub line : Method → ℕ → List ℕ → List ℕ → ℕ → ℕ → Sample
line m c read bytes t l = record { method = m; confirm = c; read = read; bytes = bytes; turns = t; lookups = l }

-- The reads marked *. Those shorter than k are the same under every method.
unfoldable pub table : List Sample
unfolding line
table =
    line One 1 (A ∷ A ∷ C ∷ G ∷ C ∷ []) (A ∷ A ∷ C ∷ T ∷ C ∷ []) 2 12
    ∷ line One 1 (A ∷ A ∷ C ∷ C ∷ []) (A ∷ A ∷ C ∷ T ∷ C ∷ []) 2 11
    ∷ line One 1 (A ∷ A ∷ C ∷ G ∷ T ∷ C ∷ []) (A ∷ A ∷ C ∷ T ∷ C ∷ []) 2 13
    ∷ line One 1 (A ∷ A ∷ C ∷ G ∷ []) (A ∷ A ∷ C ∷ G ∷ []) 1 10
    ∷ line One 1 (A ∷ A ∷ C ∷ G ∷ C ∷ C ∷ G ∷ []) (A ∷ A ∷ C ∷ T ∷ C ∷ C ∷ G ∷ []) 4 16
    ∷ line Two 1 (A ∷ A ∷ C ∷ C ∷ G ∷ []) (A ∷ A ∷ C ∷ C ∷ G ∷ []) 2 37
    ∷ line Two 2 (A ∷ A ∷ C ∷ C ∷ G ∷ []) (A ∷ A ∷ C ∷ T ∷ C ∷ C ∷ G ∷ []) 3 37
    ∷ line Graph 1 (A ∷ A ∷ C ∷ G ∷ C ∷ C ∷ G ∷ []) (A ∷ A ∷ C ∷ T ∷ C ∷ C ∷ G ∷ []) 1 21
    ∷ line Graph 1 (A ∷ A ∷ C ∷ G ∷ C ∷ []) (A ∷ A ∷ C ∷ G ∷ C ∷ []) 2 44
    ∷ line GapSize 1 (A ∷ A ∷ C ∷ G ∷ C ∷ C ∷ G ∷ []) (A ∷ A ∷ C ∷ T ∷ C ∷ C ∷ G ∷ []) 4 19
    ∷ line One 1 (A ∷ A ∷ []) (A ∷ A ∷ []) 0 0
    ∷ line Two 1 (A ∷ A ∷ []) (A ∷ A ∷ []) 0 0
    ∷ line Graph 1 (A ∷ A ∷ []) (A ∷ A ∷ []) 0 0
    ∷ line GapSize 1 (A ∷ A ∷ []) (A ∷ A ∷ []) 0 0
    ∷ line One 1 [] [] 0 0
    ∷ line Two 1 [] [] 0 0
    ∷ line Graph 1 [] [] 0 0
    ∷ line GapSize 1 [] [] 0 0
    ∷ []

-- A line of the second table: a read through a job; its bytes, turns, lookups, and the ceiling on its lookups.
pub record JobSample : Type 0 where
  pub job : List ℕ
  pub read : List ℕ
  pub bytes : List ℕ
  pub turns : ℕ
  pub lookups : ℕ
  pub ceiling : ℕ

unfoldable pub job_line : List ℕ → List ℕ → List ℕ → ℕ → ℕ → ℕ → JobSample
job_line job read bytes t l c = record { job = job; read = read; bytes = bytes; turns = t; lookups = l; ceiling = c }

-- Each pass takes the confirm of its own entry: Two mends AACCG at c 2 and not at c 1, GapSize (whose index is k, so One) mends AACGCCG at
-- c 1 and not at c 4. Without entries there are no passes.
unfoldable pub job_table : List JobSample
unfolding job_line
job_table =
    job_line (2 ∷ 1 ∷ []) AACCG AACCG 2 37 165
    ∷ job_line (2 ∷ 2 ∷ []) AACCG AACTCCG 3 37 191
    ∷ job_line (2 ∷ 1 ∷ 2 ∷ 1 ∷ []) AACCG AACCG 4 74 330
    ∷ job_line (2 ∷ 1 ∷ 2 ∷ 2 ∷ []) AACCG AACTCCG 5 74 356
    ∷ job_line (2 ∷ 2 ∷ 2 ∷ 1 ∷ []) AACCG AACTCCG 7 42 520
    ∷ job_line (4 ∷ 4 ∷ []) AACGCCG AACGCCG 4 16 609
    ∷ job_line (4 ∷ 4 ∷ 4 ∷ 1 ∷ []) AACGCCG AACTCCG 8 35 1182
    ∷ job_line (4 ∷ 1 ∷ 4 ∷ 4 ∷ []) AACGCCG AACTCCG 8 24 1182
    ∷ job_line (1 ∷ 4 ∷ 3 ∷ 200 ∷ 1 ∷ 1 ∷ []) AACGCCG AACTCCG 9 39 663
    ∷ job_line [] AACCG AACCG 0 0 0
    ∷ []

-- Document 02, W5: reads with an unknown letter, in lower case, and with a U. Kept bases keep their byte.
unfoldable pub unknown_table : List Sample
unfolding line
unknown_table =
    -- any byte but the ten letters is unknown: N, R, n
    line One 1 (A ∷ A ∷ C ∷ N ∷ C ∷ []) (A ∷ A ∷ C ∷ T ∷ C ∷ []) 2 10
    ∷ line One 1 (A ∷ A ∷ C ∷ 82 ∷ C ∷ []) (A ∷ A ∷ C ∷ T ∷ C ∷ []) 2 10
    ∷ line One 1 (A ∷ A ∷ C ∷ 110 ∷ C ∷ []) (A ∷ A ∷ C ∷ T ∷ C ∷ []) 2 10
    -- in the first k-mer, which then isn't solid
    ∷ line One 1 (A ∷ A ∷ N ∷ []) (A ∷ A ∷ N ∷ []) 0 0
    ∷ line One 1 (N ∷ A ∷ C ∷ G ∷ []) (N ∷ A ∷ C ∷ G ∷ []) 1 1
    ∷ line One 1 (N ∷ N ∷ A ∷ C ∷ G ∷ []) (N ∷ N ∷ A ∷ C ∷ G ∷ []) 2 1
    ∷ line One 1 (N ∷ A ∷ A ∷ C ∷ G ∷ C ∷ []) (N ∷ A ∷ A ∷ C ∷ T ∷ C ∷ []) 3 12
    -- among the confirm bases, and behind them
    ∷ line One 3 (A ∷ A ∷ C ∷ G ∷ C ∷ C ∷ N ∷ []) (A ∷ A ∷ C ∷ G ∷ C ∷ C ∷ N ∷ []) 4 14
    ∷ line One 2 (A ∷ A ∷ C ∷ G ∷ C ∷ C ∷ N ∷ []) (A ∷ A ∷ C ∷ T ∷ C ∷ C ∷ N ∷ []) 4 22
    -- in a trial: "not solid" holds without a lookup (SS, SCS), and a tried k-mer may hold it (ICI, SCI, DCI)
    ∷ line Two 2 (A ∷ A ∷ C ∷ N ∷ C ∷ C ∷ G ∷ []) (A ∷ A ∷ C ∷ N ∷ C ∷ C ∷ G ∷ []) 4 40
    ∷ line Two 1 (A ∷ A ∷ C ∷ C ∷ N ∷ []) (A ∷ A ∷ C ∷ T ∷ C ∷ C ∷ N ∷ []) 3 46
    ∷ line Two 1 (A ∷ A ∷ C ∷ G ∷ C ∷ N ∷ []) (A ∷ A ∷ C ∷ T ∷ C ∷ C ∷ N ∷ []) 3 53
    ∷ line Two 1 (A ∷ A ∷ C ∷ G ∷ C ∷ C ∷ N ∷ []) (A ∷ A ∷ C ∷ G ∷ C ∷ C ∷ N ∷ []) 4 43
    -- in the one base more
    ∷ line Two 1 (A ∷ A ∷ C ∷ C ∷ N ∷ C ∷ []) (A ∷ A ∷ C ∷ C ∷ N ∷ C ∷ []) 3 31
    -- passed by the scan, and in T: the walk then moves and pays, also where T's code is that of x (AACGNCT)
    ∷ line Graph 1 (A ∷ A ∷ C ∷ N ∷ C ∷ C ∷ G ∷ []) (A ∷ A ∷ C ∷ T ∷ C ∷ C ∷ G ∷ []) 1 18
    ∷ line Graph 1 (C ∷ G ∷ G ∷ N ∷ []) (C ∷ G ∷ G ∷ N ∷ []) 1 21
    ∷ line Graph 1 (C ∷ C ∷ G ∷ T ∷ G ∷ G ∷ N ∷ []) (C ∷ C ∷ G ∷ T ∷ G ∷ G ∷ N ∷ []) 4 30
    ∷ line Graph 1 (A ∷ A ∷ C ∷ G ∷ N ∷ []) (A ∷ A ∷ C ∷ G ∷ N ∷ []) 2 42
    ∷ line Graph 1 (A ∷ A ∷ C ∷ G ∷ N ∷ C ∷ T ∷ []) (A ∷ A ∷ C ∷ G ∷ N ∷ C ∷ T ∷ []) 4 42
    ∷ line GapSize 1 (A ∷ A ∷ C ∷ N ∷ C ∷ C ∷ G ∷ []) (A ∷ A ∷ C ∷ T ∷ C ∷ C ∷ G ∷ []) 4 15
    ∷ line GapSize 1 (A ∷ A ∷ C ∷ N ∷ N ∷ N ∷ N ∷ N ∷ []) (A ∷ A ∷ C ∷ T ∷ C ∷ C ∷ N ∷ N ∷ []) 3 41
    -- lower case and U are read as their letters: aacgc, aacutg, AACUC
    ∷ line One 1 (97 ∷ 97 ∷ 99 ∷ 103 ∷ 99 ∷ []) (97 ∷ 97 ∷ 99 ∷ T ∷ 99 ∷ []) 2 12
    ∷ line One 1 (97 ∷ 97 ∷ 99 ∷ 117 ∷ 116 ∷ 103 ∷ []) (97 ∷ 97 ∷ 99 ∷ 117 ∷ 116 ∷ 103 ∷ []) 3 13
    ∷ line One 1 (A ∷ A ∷ C ∷ U ∷ C ∷ []) (A ∷ A ∷ C ∷ U ∷ C ∷ []) 2 3
    ∷ []
