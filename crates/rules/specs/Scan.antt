-- Document 01, "Successors and scan"; document 02, W5: no lookup for an unknown letter. The rules take k and which codes are solid; the
-- calls put the set in.
use Rattle.std.specs.Prelude.{ℕ, suc, ◌+◌, Bool, drop}
use Rattle.std.proofs.Math.Bool.{true, false}
use Rattle.std.proofs.Math.Option.{Option, none, some}
use mathlib.Core.List.{List, [], ◌∷◌}
use Rattle.rules.specs.Letters.{Kmer, all_known, add, add_base, drop_last, code}
use Rattle.rules.specs.Counted.{Counted, Try, give, ◌>>=◌}

-- The element of a list of exactly one.
unfoldable pub only : {A : Type 0} → List A → Option A
only [] = none
only (a ∷ []) = some a
only (a ∷ b ∷ l) = none

-- Where the answers are yes, counted from i.
unfoldable pub yes_from : ℕ → List Bool → List ℕ
yes_from i [] = []
yes_from i (true ∷ l) = i ∷ yes_from (suc i) l
yes_from i (false ∷ l) = yes_from (suc i) l

-- Where a scan ends: the index reached, the last k-mer T, and the lookups made.
pub record Scan : Type 0 where
  pub index : ℕ
  pub end : Kmer
  pub lookups : ℕ

-- Whether a k-mer is solid: 1 lookup. One that holds an unknown letter isn't, and no lookup is made for it.
unfoldable pub ask : (ℕ → Bool) → Kmer → Counted Bool
unfolding all_known
ask sol y = elim (all_known y) [ true ↦ record { answer = sol y.code; lookups = 1 } | false ↦ record { answer = false; lookups = 0 } ]

module _ (k : ℕ) (sol : ℕ → Bool) where
  -- "solid" and "not solid": it is asked, and on only if it is so.
  unfoldable pub is_solid : Kmer → Try Kmer
  unfolding ask
  is_solid y =
      elim (ask sol y).answer [
        | true ↦ record { answer = some y; lookups = (ask sol y).lookups }
        | false ↦ record { answer = none; lookups = (ask sol y).lookups }
      ]

  unfoldable pub not_solid : Kmer → Try Kmer
  unfolding ask
  not_solid y =
      elim (ask sol y).answer [
        | true ↦ record { answer = none; lookups = (ask sol y).lookups }
        | false ↦ record { answer = some y; lookups = (ask sol y).lookups }
      ]

  -- y+a asked: one of the four successors of y.
  unfoldable pub successor : Kmer → ℕ → Counted Bool
  unfolding add ask
  successor y a = ask sol (add k y a)

  -- One group of four yes-or-no answers.
  unfoldable pub successors : Kmer → List Bool
  unfolding successor
  successors y = (successor y 0).answer ∷ (successor y 1).answer ∷ (successor y 2).answer ∷ (successor y 3).answer ∷ []

  -- What they cost: 4 lookups where the last k − 1 letters are known, else 0 (the theorem `four-cost`).
  unfoldable pub four_cost : Kmer → ℕ
  unfolding successor
  four_cost y = (successor y 0).lookups + (successor y 1).lookups + (successor y 2).lookups + (successor y 3).lookups

  -- u(y) is the sole solid successor letter; it refuses unless there is exactly one.
  unfoldable pub u : Kmer → Try ℕ
  unfolding successors four_cost only yes_from
  u y = record { answer = only (yes_from 0 (successors y)); lookups = four_cost y }

  -- y+u(y), the sole solid successor.
  unfoldable pub sole : Kmer → Try Kmer
  unfolding u ◌>>=◌ give
  sole y = u y >>= (λ a. give (add k y a))

  -- The bad k-mer y's last letter replaced by the sole solid alternative, or refuse.
  unfoldable pub alternative : Kmer → Try Kmer
  unfolding sole drop_last
  alternative y = sole (drop_last y)

  -- error_len from index i on, l lookups made: add the bases to the k-mer, each asked; stop at the first solid, else at the end.
  unfoldable pub scan_from : ℕ → ℕ → Kmer → List ℕ → Scan
  unfolding add code ask
  scan_from l i y [] = record { index = i; end = y; lookups = l }
  scan_from l i y (b ∷ s) =
      let z : Kmer = add_base k y b in
      elim (ask sol z).answer [
        | true ↦ record { index = i; end = z; lookups = l + (ask sol z).lookups }
        | false ↦ scan_from (l + (ask sol z).lookups) (suc i) z s
      ]

  -- error_len: s is the rest of the read at the bad base s0, y the bad k-mer; s1, s2, .. are added.
  unfoldable pub error_len : Kmer → List ℕ → Scan
  unfolding scan_from
  error_len y s = scan_from 0 1 y (drop 1 s)
