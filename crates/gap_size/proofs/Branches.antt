-- GapSize by its scan: below k, at k and above.
use Prim.Native.Nat.{ℕ, ◌-◌, ◌≤◌, ◌<◌}
use borrow.Author.Tests.{lt-ltb, le-ltb, eq-eqb, ne_eqb}
use mathlib.Core.Path.{◌≡◌, sym, ap, ◌∙◌, subst}
use mathlib.Core.Bool.{Bool}
use mathlib.Core.List.{List}
use Rattle.rules.specs.Letters.{Kmer}
use Rattle.rules.specs.Counted.{Try, after}
use Rattle.rules.specs.Scan as rules
use Rattle.rules.specs.Scan.{error_len}
use Rattle.rules.specs.Exist.{Mend, exist, one}
use Rattle.rules.specs.Graph.{graph_from}
use Rattle.rules.specs.GapSize.{gap_from, gap_size}
use Rattle.scan.specs.declared.Scan.{Scan}
use Rattle.scan.specs.declared.Attempt.{Attempt}
use Rattle.scan.specs.Scan.{scan_of}
use Rattle.scan.specs.Attempt.{Attempted}

module _ (k n : ℕ) (sol : ℕ → Bool) (c : ℕ) (s : List ℕ) (y : Kmer) (r : Scan) (e : scan_of r ≡ error_len k sol y s) where
  abbrev sc : rules.Scan
  sc = error_len k sol y s

  index_is : r.index ≡ sc.index
  index_is = ap (λ (w : rules.Scan). w.index) e

  module _ {count : Kmer → ℕ} {out out' : List ℕ} {a : Attempt} where
    -- what is said of the code's scan holds of the rules'
    by-scan : (f : rules.Scan → Try Mend) → Attempted k y count r.index out out' (after r.lookups (f (scan_of r))) a
        → Attempted k y count sc.index out out' (after sc.lookups (f sc)) a
    by-scan f h = subst (λ (w : rules.Scan). Attempted k y count w.index out out' (after w.lookups (f w)) a) e h

    pub gap_below : r.index < k → Attempted k y count r.index out out' (after r.lookups (graph_from k n sol (scan_of r) y)) a
        → Attempted k y count sc.index out out' (gap_size k n sol c s y) a
    unfolding gap_size
    gap_below lt h = rw (gap_size, lt-ltb sc.index k (rw (← index_is) lt)) (by-scan (λ w. graph_from k n sol w y) h)

    pub gap_at : k ≤ r.index → r.index ≡ k → Attempted k y count sc.index out out' (after r.lookups (exist k sol c s (one k sol) y)) a
        → Attempted k y count sc.index out out' (gap_size k n sol c s y) a
    unfolding gap_size
    gap_at le q h =
        rw (gap_size, le-ltb sc.index k (rw (← index_is) le), eq-eqb sc.index k (sym index_is ∙ q))
        (rw (ap (λ (w : rules.Scan). w.lookups) e) at h)

    pub gap-above : k ≤ r.index → (r.index ≡ k → ⊥)
        → Attempted k y count r.index out out' (after r.lookups (gap_from k sol (r.index - k) y)) a
        → Attempted k y count sc.index out out' (gap_size k n sol c s y) a
    unfolding gap_size
    gap-above le ne h =
        rw (gap_size, le-ltb sc.index k (rw (← index_is) le), ne_eqb sc.index k (λ q. ne (index_is ∙ q)))
        (by-scan (λ w. gap_from k sol (w.index - k) y) h)
