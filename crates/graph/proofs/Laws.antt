-- An attempt from its scan and its bad k-mer to the walk.
use Prim.Native.Nat.{ℕ, ◌+◌, ◌^◌, ◌≤◌, ◌<◌}
use native.Mathlib.Omega.{arith}
use mathlib.Core.Path.{◌≡◌, ap, ◌∙◌, subst}
use mathlib.Core.Bool.{Bool}
use mathlib.Core.Option.{none, some}
use mathlib.Core.List.{List}
use lib.ListN.{length, drop, length-drop}
use Rattle.rules.specs.Letters.{Kmer}
use Rattle.rules.specs.Counted.{Try, after}
use Rattle.rules.specs.Scan as rules
use Rattle.rules.specs.Scan.{alternative, error_len}
use Rattle.rules.specs.Exist.{Mend}
use Rattle.rules.specs.Graph.{graph_from, graph}
use Rattle.rules_laws.proofs.Scan.{scan-is}
use Rattle.scan.specs.declared.Attempt.{Attempt}
use Rattle.scan.specs.declared.Scan.{Scan}
use Rattle.scan.specs.Scan.{scan_of}
use Rattle.scan.specs.Attempt.{Attempted}
use Rattle.scan.proofs.Laws.{refused-bind, given-bind, after-after}
use Rattle.walk.specs.Walk.{walk_mend}

-- ---- from the bad k-mer to x

module _ (k n : ℕ) (sol : ℕ → Bool) (sc : rules.Scan) (y : Kmer) where
  abbrev attempt : Try Mend
  attempt = after sc.lookups (graph_from k n sol sc y)

  pub no-alternative : {l : ℕ} → alternative k sol y ≡ record { answer = none; lookups = l } → (attempt.answer ≡ none) × (attempt.lookups ≡ sc.lookups + l)
  unfolding graph_from after
  no-alternative e =
      let w = ap (after sc.lookups) (refused-bind _ e) in
      (ap (λ (t : Try Mend). t.answer) w, ap (λ (t : Try Mend). t.lookups) w)

  pub from-alternative : {x : Kmer} → alternative k sol y ≡ record { answer = some x; lookups = 4 } → attempt ≡ after (sc.lookups + 4) (walk_mend k n sol sc x)
  unfolding graph_from walk_mend
  from-alternative {x} e = ap (after sc.lookups) (given-bind _ e) ∙ after-after sc.lookups 4 (walk_mend k n sol sc x)

-- ---- the scan

-- it ends within s
pub scan-within : (k : ℕ) (sol : ℕ → Bool) (y : Kmer) (s : List ℕ) (r : Scan) → scan_of r ≡ error_len k sol y s → 1 ≤ length s
    → (r.index ≤ length s) × (r.lookups ≤ length s)
unfolding error_len
scan-within k sol y s r e h =
    let i = scan-is k sol 0 1 y (drop 1 s) in
    let l = length-drop 1 s in
    (omega (arith, i.high, ap (λ (sc : rules.Scan). sc.index) e), omega (arith, i.cost, i.short, ap (λ (sc : rules.Scan). sc.lookups) e))

pub scan-fits : (k : ℕ) (sol : ℕ → Bool) (y : Kmer) (s : List ℕ) (r : Scan) → scan_of r ≡ error_len k sol y s → 1 ≤ length s → length s < 2 ^ 63
    → (r.index < 2 ^ 63) × (r.lookups < 2 ^ 63)
scan-fits k sol y s r e h l = let w = scan-within k sol y s r e h in (omega arith, omega arith)

-- Graph is Graph from its scan
pub graph-scanned : (k n : ℕ) (sol : ℕ → Bool) (s : List ℕ) (y : Kmer) {count : Kmer → ℕ} {sc : rules.Scan} {out out' : List ℕ} {r : Attempt}
    → sc ≡ error_len k sol y s → Attempted k y count sc.index out out' (after sc.lookups (graph_from k n sol sc y)) r
    → Attempted k y count (error_len k sol y s).index out out' (graph k n sol s y) r
unfolding graph
graph-scanned k n sol s y {count} {sc} {out} {out'} {r} e h =
    subst (λ (sc' : rules.Scan). Attempted k y count sc'.index out out' (after sc'.lookups (graph_from k n sol sc' y)) r) e h
