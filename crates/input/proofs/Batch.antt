-- The lines of a batch.
use Prim.Native.Nat.{ℕ, zero, suc, ◌+◌, ◌≤◌, ◌<◌}
use native.Mathlib.Omega.{arith}
use native.Mathlib.Numerals.{add-one}
use borrow.Author.Tests.{eq-eqb, ne_eqb}
use mathlib.Core.Path.{◌≡◌, refl, sym, ap, ◌∙◌}
use mathlib.Core.Bool.{Bool, true, false, cond}
use mathlib.Core.List.{List, [], ◌∷◌, ◌++◌, append-nil, append_assoc}
use lib.Dec.{eqb}
use lib.ListN.{length, get_or, take, drop, take-append-drop, length-append}
use lib.Seq.{drop-cons}
use Rattle.std.specs.List.{filter}
use Rattle.std.proofs.lemmas.List.Sums.{length-filter, count_by-le-length}
use Rattle.rules.specs.Job.{lines_from, lines}
use Rattle.rules.specs.Calls.{batch_right}

abbrev pub is_end : ℕ → Bool
is_end b = eqb b 10

-- There are as many lines as bytes 10, whatever the first begins with.
counted-from : (line bytes : List ℕ) → length (filter is_end bytes) ≡ length (lines_from line bytes)
unfolding lines_from
counted-from line [] = refl
counted-from line (b ∷ bs) = go (is_end b) (counted-from [] bs) (counted-from (line ++ (b ∷ [])) bs)
  where
    go : (t : Bool) → length (filter is_end bs) ≡ length (lines_from [] bs) → length (filter is_end bs) ≡ length (lines_from (line ++ (b ∷ [])) bs)
        → length (cond t (b ∷ filter is_end bs) (filter is_end bs))
        ≡ length {A = List ℕ} (elim t [ true ↦ line ∷ lines_from [] bs | false ↦ lines_from (line ++ (b ∷ [])) bs ])
    go true e f = ap suc e
    go false e f = f

pub lines-counted : (bytes : List ℕ) → length (filter is_end bytes) ≡ length (lines bytes)
unfolding lines
lines-counted bytes = counted-from [] bytes

pub lines-fit : (bytes : List ℕ) → length (lines bytes) ≤ length bytes
lines-fit bytes = omega (arith, lines-counted bytes, length-filter is_end bytes, count_by-le-length is_end bytes)

pub no-batch : (batch : List ℕ) → length batch ≡ 0 → batch_right batch ≡ true
unfolding batch_right lines lines_from
no-batch [] e = refl
no-batch (b ∷ bs) e = absurd (omega arith)

-- Up to the first byte 10 goes the first line.
first-line : (line bytes : List ℕ) (i : ℕ) → i < length bytes → get_or bytes i 0 ≡ 10 → ((k : ℕ) → k < i → get_or bytes k 0 ≡ 10 → ⊥)
    → lines_from line bytes ≡ (line ++ take i bytes) ∷ lines (drop (suc i) bytes)
unfolding lines_from lines
first-line line [] i h e before = absurd (omega arith)
first-line line (b ∷ bs) zero h e before = rw (lines_from, eq-eqb b 10 e, append-nil)
first-line line (b ∷ bs) (suc i) h e before =
    let more = first-line (line ++ (b ∷ [])) bs i (omega arith) e (λ k l. before (suc k) (omega arith)) in
    rw (lines_from, ne_eqb b 10 (before 0 (omega arith))) (more ∙ rw (append_assoc))

-- Where no byte 10 stands there is no line.
none-from : (line bytes : List ℕ) → ((k : ℕ) → k < length bytes → get_or bytes k 0 ≡ 10 → ⊥) → lines_from line bytes ≡ []
unfolding lines_from
none-from line [] none_there = refl
none-from line (b ∷ bs) none_there =
    rw (lines_from, ne_eqb b 10 (none_there 0 (omega arith))) (none-from (line ++ (b ∷ [])) bs (λ k l. none_there (suc k) (omega arith)))

module _ (bytes : List ℕ) where
  pub no-line : ((k : ℕ) → k < length bytes → get_or bytes k 0 ≡ 10 → ⊥) → lines bytes ≡ []
  unfolding lines
  no-line = none-from [] bytes

  pub line-first : (i : ℕ) → i < length bytes → get_or bytes i 0 ≡ 10 → ((k : ℕ) → k < i → get_or bytes k 0 ≡ 10 → ⊥)
      → (lines bytes ≡ take i bytes ∷ lines (drop (i + 1) bytes)) × (bytes ≡ take i bytes ++ (10 ∷ drop (i + 1) bytes))
  unfolding lines
  line-first i h e before = (
    rw (add-one) (first-line [] bytes i h e before),
    sym (take-append-drop i bytes) ∙ ap (λ (bs : List ℕ). take i bytes ++ bs) (rw add-one (drop-cons bytes i 0 h ∙ ap (λ (b : ℕ). b ∷ drop (suc i) bytes) e)),
  )

-- What is left is shorter by the line and its byte 10.
pub line-size : (bytes line behind : List ℕ) → bytes ≡ line ++ (10 ∷ behind) → length bytes ≡ length line + (length behind + 1)
line-size bytes line behind e = let size = ap length e ∙ length-append line (10 ∷ behind) in omega (arith, size)
