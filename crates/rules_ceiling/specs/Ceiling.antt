-- Demand 3; document 02, W1: the confirm of the pass that is counted, W6: 24n for 30n.
use Rattle.std.specs.Prelude.{ℕ, ◌+◌, ◌*◌, ◌≤◌, ◌≡◌, List, length, ltb}
use Rattle.std.proofs.Math.Bool.{true, false}
use Rattle.rules.specs.Set.{KmerSet}
use Rattle.rules.specs.Job.{Method, One, Two, Graph, GapSize, Entry}
use Rattle.rules.specs.Counts.{Fed, sum, w_of, all_passes, turns, lookups}

module _ (set : KmerSet) where
  -- Demand 3's F, c being a confirm and n the number of keys.
  unfoldable pub F : ℕ → Method → ℕ
  F c One = 12 + 3 * c
  F c Two = 69 + 13 * c
  F c Graph = 6 + 24 * length set.keys
  F c GapSize = 17 + set.k + 3 * c + 24 * length set.keys

  -- 1 + w_of × F, with the confirm of the pass; a pass shorter than k adds nothing.
  unfoldable pub ceiling : Fed → ℕ
  unfolding w_of F
  ceiling p = elim (ltb (length p.bytes) set.k) [ true ↦ 0 | false ↦ 1 + w_of set p * F p.entry.confirm p.entry.method ]

-- Demand 3, of the turns t and lookups l of a list of reads through a list of entries: they are those that these rules count, summed over all
-- passes; turns ≤ 2 × the sum of w_of; lookups ≤ the sum over passes of 1 + w_of × F. One statement about both whole lists.
pub record Demand3 (set : KmerSet) (es : List Entry) (reads : List (List ℕ)) (t l : ℕ) : Type 0 where
  pub turns_are : t ≡ sum (turns set) (all_passes set es reads)
  pub lookups_are : l ≡ sum (lookups set) (all_passes set es reads)
  pub turns_under : t ≤ 2 * sum (w_of set) (all_passes set es reads)
  pub lookups_under : l ≤ sum (ceiling set) (all_passes set es reads)
