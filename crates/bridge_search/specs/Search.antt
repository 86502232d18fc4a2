-- What a search answers by the rules.
use Rattle.std.specs.Prelude.{ℕ, ◌+◌, ◌-◌, ◌≤◌, ◌≡◌, List, ◌++◌, length, replicate}
use Rattle.rules.specs.Counted.{Counted}
use Rattle.rules_bridge.specs.Bridge as rules
use Rattle.rules_bridge.specs.Bridge.{found, tried, stopped}
use Rattle.bridge_search.specs.declared.End.TheVariants as Ends
use Rattle.bridge_search.specs.declared.Search.{Search}

-- Letters behind the moves made, 0 elsewhere.
abbrev pub laid : ℕ → List ℕ → List ℕ
laid made bs = replicate made 0 ++ (bs ++ replicate (16 - (made + length bs)) 0)

-- A chain's letters behind the moves made.
pub record ChainIs (made : ℕ) (bs : List ℕ) (r : Search) : Type 0 where
  pub end : r.end ≡ Ends.Found (made + length bs)
  pub letters : r.letters ≡ laid made bs

-- An end of the rules, after the moves made, with the moves left.
abbrev pub EndIs : ℕ → ℕ → rules.End → Search → Type 0
EndIs made left (found bs) r = ChainIs made bs r × (length bs ≤ left)
EndIs made left tried r = r.end ≡ Ends.Tried
EndIs made left stopped r = r.end ≡ Ends.Stopped

-- The rules' search: its end, and its count, which is within the budget.
pub record SearchIs (budget made left : ℕ) (s : Counted rules.End) (r : Search) : Type 0 where
  pub end : EndIs made left s.answer r
  pub lookups : r.lookups ≡ s.lookups
  pub within : r.lookups ≤ budget
