-- Document 01, "Correctors", GapSize.
use Prim.Native.Nat.{ℕ, zero, suc, ◌+◌, ◌-◌}
use Rattle.std.specs.Prelude.{Bool, List, [], ◌∷◌, ◌++◌, eqb, ltb}
use Rattle.std.proofs.Math.Bool.{true, false}
use Rattle.std.proofs.Math.Option.{none, some}
use Rattle.std.proofs.Math.ListN.{length}
use Rattle.rules.specs.Letters.{Kmer, met}
use Rattle.rules.specs.Counted.{Try, after, give, ◌>>=◌}
use Rattle.rules.specs.Scan.{Scan, sole, alternative, error_len}
use Rattle.rules.specs.Exist.{Mend, exist, one}
use Rattle.rules.specs.Graph.{spell, graph_from}

module _ (k : ℕ) (sol : ℕ → Bool) where
  -- Moves by sole successors from y, the last of the k-mers seen, after l lookups, refused on a repeat.
  unfoldable pub gap : ℕ → List Kmer → Kmer → ℕ → Try (List Kmer)
  unfolding sole met
  gap zero seen y l = record { answer = some seen; lookups = l }
  gap (suc moves) seen y l =
      elim (sole k sol y).answer [
        | none ↦ record { answer = none; lookups = l + (sole k sol y).lookups }
        | some z ↦ elim (met z seen) [
          | true ↦ record { answer = none; lookups = l + (sole k sol y).lookups }
          | false ↦ gap moves (seen ++ (z ∷ [])) z (l + (sole k sol y).lookups)
        ]
      ]

  -- That many moves from x; resume is the count of letters. It rests on every k-mer from x on.
  unfoldable pub gap_from : ℕ → Kmer → Try Mend
  unfolding alternative gap spell ◌>>=◌ give
  gap_from moves y =
      alternative k sol y
      >>= (λ x. gap moves (x ∷ []) x 0 >>= (λ seen. give (record { letters = spell seen; resume = length seen; on = seen })))

module _ (k n : ℕ) (sol : ℕ → Bool) where
  -- One scan, counted once. Index below k: Graph from that scan. Equal: One. Above: index − k moves.
  unfoldable pub gap_size : ℕ → List ℕ → Kmer → Try Mend
  unfolding graph_from error_len after exist gap_from one
  gap_size c s y =
      let sc : Scan = error_len k sol y s in
      after sc.lookups
      (elim (ltb sc.index k) [
        | true ↦ graph_from k n sol sc y
        | false ↦ elim (eqb sc.index k) [
          | true ↦ exist k sol c s (one k sol) y
          | false ↦ gap_from k sol (sc.index - k) y
        ]
      ])
