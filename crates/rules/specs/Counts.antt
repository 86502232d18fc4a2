-- Document 01, "Records", Counts; document 02, W8: the support over passes.
use Rattle.std.specs.Prelude.{ℕ, ◌+◌, ◌-◌, length}
use Rattle.std.proofs.Math.Option.{Option, none}
use mathlib.Core.List.{List, [], ◌∷◌, ◌++◌}
use Rattle.rules.specs.Set.{KmerSet}
use Rattle.rules.specs.Driver.{weaker}
use Rattle.rules.specs.Job.{Entry, pass}

-- A pass is one read through one method: its entry of the job and what it is fed.
pub record Fed : Type 0 where
  pub entry : Entry
  pub bytes : List ℕ

-- The sum over a list of passes.
unfoldable pub sum : (Fed → ℕ) → List Fed → ℕ
sum f [] = 0
sum f (p ∷ ps) = f p + sum f ps

-- w_of is the length of what a pass is fed less k, 0 if that is shorter than k.
unfoldable pub w_of : KmerSet → Fed → ℕ
w_of set p = length p.bytes - set.k

module _ (set : KmerSet) where
  -- A read's first pass is fed the read, each later one the bytes that these rules give for the pass before.
  unfoldable pub passes_of : List Entry → List ℕ → List Fed
  unfolding pass
  passes_of [] read = []
  passes_of (e ∷ es) read = record { entry = e; bytes = read } ∷ passes_of es (pass set e read).bytes

  -- All passes of a list of reads through a list of entries. A single read is a list of one read.
  unfoldable pub all_passes : List Entry → List (List ℕ) → List Fed
  unfolding passes_of
  all_passes es [] = []
  all_passes es (read ∷ reads) = passes_of es read ++ all_passes es reads

  -- What one pass counts.
  unfoldable pub turns : Fed → ℕ
  unfolding pass
  turns p = (pass set p.entry p.bytes).turns

  unfoldable pub lookups : Fed → ℕ
  unfolding pass
  lookups p = (pass set p.entry p.bytes).lookups

  unfoldable pub attempts : Fed → ℕ
  unfolding pass
  attempts p = (pass set p.entry p.bytes).attempts

  unfoldable pub corrections : Fed → ℕ
  unfolding pass
  corrections p = (pass set p.entry p.bytes).accepted

  unfoldable pub support : Fed → Option ℕ
  unfolding pass
  support p = (pass set p.entry p.bytes).support

  -- The smallest count behind the corrections of a list of passes, if there are any.
  unfoldable pub support_over : List Fed → Option ℕ
  unfolding support weaker
  support_over [] = none
  support_over (p ∷ ps) = weaker (support p) (support_over ps)
