-- Document 01, "Records", Job; document 02, W1: each method has its own confirm.
use Rattle.std.specs.Prelude.{ℕ, zero, suc, ◌+◌, ◌*◌, ◌/◌, ◌≤◌, Bool, true, false, ◌&&◌, length, get_or, eqb, leb}
use mathlib.Core.List.{List, [], ◌∷◌, ◌++◌}
use Rattle.rules.specs.Letters.{Kmer}
use Rattle.rules.specs.Set.{KmerSet, solid, count_of}
use Rattle.rules.specs.Counted.{Try}
use Rattle.rules.specs.Exist.{Mend, exist, one, two}
use Rattle.rules.specs.Graph.{All, graph}
use Rattle.rules.specs.GapSize.{gap_size}
use Rattle.rules.specs.Driver.{Pass, drive}

-- The four methods.
pub data Method : Type 0 where
  One Two Graph GapSize : Method

-- Method bytes: 1 One, 2 Two, 3 Graph, 4 GapSize.
unfoldable pub known : ℕ → Bool
known b = leb 1 b && leb b 4

unfoldable pub method_of : ℕ → Method
method_of b = elim (eqb b 1) [ true ↦ One | false ↦ elim (eqb b 2) [ true ↦ Two | false ↦ elim (eqb b 3) [ true ↦ Graph | false ↦ GapSize ] ] ]

-- An entry of a job: a method and its own confirm.
pub record Entry : Type 0 where
  pub method : Method
  pub confirm : ℕ

-- The entry of a method byte and a confirm byte.
unfoldable pub entry : ℕ → ℕ → Entry
unfolding method_of
entry m c = record { method = method_of m; confirm = c }

-- A job is pairs of bytes, method first: entry i is bytes 2i and 2i + 1. An entry without its second byte has confirm 0.
unfoldable pub method_byte : List ℕ → ℕ → ℕ
method_byte job i = get_or job (2 * i) 0

unfoldable pub confirm_byte : List ℕ → ℕ → ℕ
confirm_byte job i = get_or job (2 * i + 1) 0

abbrev pub entry_at : List ℕ → ℕ → Entry
entry_at job i = entry (method_byte job i) (confirm_byte job i)

unfoldable pub entry_count : List ℕ → ℕ
entry_count job = (length job + 1) / 2

-- m entries from entry i on.
unfoldable pub entries_from : List ℕ → ℕ → ℕ → List Entry
unfolding entry method_byte confirm_byte
entries_from job i zero = []
entries_from job i (suc m) = entry_at job i ∷ entries_from job (suc i) m

-- All entries of a job.
unfoldable pub entries_of : List ℕ → List Entry
unfolding entries_from entry_count
entries_of job = entries_from job 0 (entry_count job)

-- Every entry has a confirm from 1.
abbrev pub Confirmed : List Entry → Type 0
Confirmed es = All (λ e. 1 ≤ e.confirm) es

-- A batch is lines each ended by byte 10.
unfoldable pub lines_from : List ℕ → List ℕ → List (List ℕ)
lines_from line [] = []
lines_from line (b ∷ bs) = elim (eqb b 10) [ true ↦ line ∷ lines_from [] bs | false ↦ lines_from (line ++ (b ∷ [])) bs ]

unfoldable pub lines : List ℕ → List (List ℕ)
unfolding lines_from
lines batch = lines_from [] batch

-- A set and a confirm c.
module _ (set : KmerSet) (c : ℕ) where
  -- An attempt under a method.
  unfoldable pub correct_error : Method → List ℕ → Kmer → Try Mend
  unfolding exist graph gap_size one two solid
  correct_error One s y = exist set.k (solid set) c s (one set.k (solid set)) y
  correct_error Two s y = exist set.k (solid set) c s (two set.k (solid set)) y
  correct_error Graph s y = graph set.k (length set.keys) (solid set) s y
  correct_error GapSize s y = gap_size set.k (length set.keys) (solid set) c s y

module _ (set : KmerSet) where
  -- A pass: what it is fed through one entry's method, with that entry's confirm.
  unfoldable pub pass : Entry → List ℕ → Pass
  unfolding correct_error drive count_of
  pass e fed = drive set.k (solid set) (count_of set) (correct_error set e.confirm e.method) fed

  -- Each method reads the bytes of the one before.
  unfoldable pub result : List Entry → List ℕ → List ℕ
  unfolding pass
  result [] read = read
  result (e ∷ es) read = result es (pass e read).bytes
