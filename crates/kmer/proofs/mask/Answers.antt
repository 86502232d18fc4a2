use Prim.Native.Nat.{ℕ, zero, suc, ◌+◌, ◌<◌}
use native.Mathlib.Omega.{arith}
use native.Mathlib.Nat.{zero-add}
use mathlib.Core.Path.{◌≡◌, ap, ◌∙◌}
use mathlib.Core.List.{List, [], ◌∷◌}
use lib.ListN.{get_or}
use borrow.Author.Rules.{rules}
use Rattle.rules.specs.Letters.{mask}
use Rattle.kmer.proofs.mask.Goals as goal

-- the masks of m lengths from i on
masks : ℕ → ℕ → List ℕ
unfolding mask
masks i zero = []
masks i (suc m) = mask i ∷ masks (suc i) m

masks-at : (i m k : ℕ) → k < m → get_or (masks i m) k 0 ≡ mask (i + k)
unfolding masks
masks-at i zero k h = absurd (omega arith)
masks-at i (suc m) zero h = ap mask (omega arith)
masks-at i (suc m) (suc k) h = masks-at (suc i) m k (omega arith) ∙ ap mask (omega arith)

-- the table is computed to be the masks of 0 to 31
pub returns : goal.returns
unfolding masks
returns c = masks-at 0 32 c.args.k (search rules) ∙ ap mask (zero-add _)
