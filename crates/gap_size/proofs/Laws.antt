-- An attempt above k from its bad k-mer to the gap.
use Prim.Native.Nat.{ℕ, ◌+◌, ◌≤◌, ◌<◌}
use native.Mathlib.Omega.{arith}
use mathlib.Core.Path.{◌≡◌, sym, ap, ◌∙◌}
use mathlib.Core.Bool.{Bool}
use mathlib.Core.Option.{none, some, some-injective}
use mathlib.Core.List.{[], ◌∷◌}
use lib.ListN.{length}
use Rattle.rules.specs.Letters.{Kmer}
use Rattle.rules.specs.Counted.{Try, after, give}
use Rattle.rules.specs.Scan.{alternative}
use Rattle.rules.specs.Exist.{Mend}
use Rattle.rules.specs.GapSize.{gap, gap_from}
use Rattle.rules_laws.proofs.Counted.{bind-some as given_by}
use Rattle.rules_laws.proofs.Growth.{length-spell}
use Rattle.rules_laws.proofs.Correctors.{gap-any}
use Rattle.scan.proofs.Laws.{refused-bind, given-bind, after-after}
use Rattle.gap.specs.Gap.{gap_mend}

-- ---- from the bad k-mer to x

module _ (k : ℕ) (sol : ℕ → Bool) (m : ℕ) (y : Kmer) (l : ℕ) where
  -- m + 1 letters
  gap-letters : (d : Mend) → (gap_from k sol m y).answer ≡ some d → length d.letters ≡ m + 1
  unfolding gap_from give
  gap-letters d e =
      let w = given_by (alternative k sol y) _ d e in
      let x : Kmer = w.0 in
      let v = given_by (gap k sol m (x ∷ []) x 0) _ d w.2 in
      ap (λ (d' : Mend). length d'.letters) (sym (some-injective _ d v.2))
      ∙ length-spell v.0
      ∙ (gap-any k sol m (x ∷ []) x 0).1 v.0 v.1
      ∙ omega arith

  abbrev attempt : Try Mend
  attempt = after l (gap_from k sol m y)

  pub gap-full : (room index : ℕ) → room ≤ m → m < index
      → ((d : Mend) → attempt.answer ≡ some d → room < length d.letters) × (room < index)
  unfolding after
  gap-full room index h g = (λ d e. omega (arith, gap-letters d e), omega arith)

  pub no-alternative : {made : ℕ} → alternative k sol y ≡ record { answer = none; lookups = made } → (attempt.answer ≡ none) × (attempt.lookups ≡ l + made)
  unfolding gap_from after
  no-alternative e =
      let w = ap (after l) (refused-bind _ e) in
      (ap (λ (t : Try Mend). t.answer) w, ap (λ (t : Try Mend). t.lookups) w)

  pub from-alternative : {x : Kmer} → alternative k sol y ≡ record { answer = some x; lookups = 4 } → attempt ≡ after (l + 4) (gap_mend k sol m x)
  unfolding gap_from gap_mend
  from-alternative {x} e = ap (after l) (given-bind _ e) ∙ after-after l 4 (gap_mend k sol m x)
