-- The k-mers that letters lead through.
use Rattle.std.specs.Prelude.{ℕ, ◌+◌, List, [], ◌∷◌}
use Rattle.std.proofs.Math.Seq.{slice}
use Rattle.rules.specs.Letters.{Kmer, add_base, add, code}

-- The k-mers after y that bases lead through.
unfoldable pub onward : ℕ → Kmer → List ℕ → List Kmer
unfolding add code
onward k y [] = []
onward k y (b ∷ bs) = add_base k y b ∷ onward k (add_base k y b) bs

-- x and the k-mers after it, the first letter in out being x's last.
abbrev pub passed : ℕ → Kmer → ℕ → List ℕ → List Kmer
passed k x moves out = x ∷ onward k x (slice 1 (moves + 1) out)
