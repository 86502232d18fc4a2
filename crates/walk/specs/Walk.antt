-- The walk by itself, and its letters in a lent output.
use Rattle.std.specs.Prelude.{ℕ, suc, ◌≡◌, Bool, List, length, take}
use Rattle.rules.specs.Letters.{Kmer}
use Rattle.rules.specs.Counted.{Try, give, ◌>>=◌}
use Rattle.rules.specs.Scan.{Scan}
use Rattle.rules.specs.Exist.{Mend}
use Rattle.rules.specs.Graph.{spell, walk_from}

-- Graph from x on: letters are x's last and each move's; resume scan index + 1. It rests on every k-mer from x on.
unfoldable pub walk_mend : ℕ → ℕ → (ℕ → Bool) → Scan → Kmer → Try Mend
unfolding walk_from spell ◌>>=◌ give
walk_mend k n sol sc x =
    walk_from k n sol sc.end x >>= (λ seen. give (record { letters = spell seen; resume = suc sc.index; on = seen }))

-- The letters stand at the start of out, as many of them as it has room for.
abbrev pub Holds : List ℕ → List ℕ → Type 0
Holds letters out = take (length out) letters ≡ take (length letters) out
