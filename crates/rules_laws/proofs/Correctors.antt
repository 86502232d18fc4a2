-- What each corrector may cost: One, Two, Graph and GapSize are fair to demand 3's F.
use Prim.Native.Nat.{ℕ, zero, suc, ◌+◌, ◌*◌, ◌-◌, ◌≤◌}
use native.Mathlib.Omega.{arith}
use native.Mathlib.Nat.{le_refl, le_trans}
use borrow.Author.Tests.{eqb-true, ltb-false}
use mathlib.Core.Path.{◌≡◌, refl, sym, ap, ◌∙◌}
use mathlib.Core.Bool.{Bool, true, false}
use mathlib.Core.Option.{Option, none, some, some-injective, none-ne-some}
use mathlib.Core.List.{List, [], ◌∷◌, ◌++◌}
use lib.ListN.{length, length-append}
use lib.Dec.{ltb, eqb}
use Rattle.rules.specs.Letters.{Kmer, same, met, drop_last}
use Rattle.rules.specs.Counted.{after, refuse, give}
use Rattle.rules.specs.Scan.{Scan, sole, alternative, error_len}
use Rattle.rules.specs.Exist.{Mend, one, two, exist}
use Rattle.rules.specs.Graph.{All, end, also, Distinct, end-distinct, also-distinct, spell, start, walk_from, graph_from, graph}
use Rattle.rules.specs.GapSize.{gap, gap_from, gap_size}
use Rattle.rules_laws.proofs.Counted.{bind-cost, bind-cost-some, bind-some}
use Rattle.rules_laws.proofs.Scan.{ask-known, sole-is, sole-lt, sole-cost, ScanIs, scan-is}
use Rattle.rules_laws.proofs.Kmer.{Known, same-ne, same_false}
use Rattle.rules_laws.proofs.Few.{or-false, SolidKmer, Few}
use Rattle.rules_laws.proofs.Exist.{one-cost, two-cost, one-stays, two-stays}
use Rattle.rules_laws.proofs.Lookups.{FairAt, Fair, times, five-times}
use Rattle.rules_laws.proofs.Walk.{walk-cost}

-- ---- One and Two

module _ (j : ℕ) (sol : ℕ → Bool) (c' F : ℕ) where
  pub one-fair : 12 + 3 * suc c' ≤ F → Fair (suc j) sol (λ s y. exist (suc j) sol (suc c') s (one (suc j) sol) y) F
  one-fair le =
      record {
        least = omega arith;
        at = λ b s y. let l = one-cost (suc j) sol (suc c') (b ∷ s) y in
            record {
              refusal = λ a. omega arith;
              staying = λ m a z. (omega arith, one-stays j sol c' b s y m a z);
              going = λ m r a z. (λ h. times F r _ (omega arith) (omega arith), λ h. times F (length s) _ (omega arith) (omega arith));
            };
      }

  pub two-fair : 69 + 13 * suc c' ≤ F → Fair (suc j) sol (λ s y. exist (suc j) sol (suc c') s (two (suc j) sol) y) F
  two-fair le =
      record {
        least = omega arith;
        at = λ b s y. let l = two-cost (suc j) sol (suc c') (b ∷ s) y in
            record {
              refusal = λ a. omega arith;
              staying = λ m a z. (omega arith, two-stays j sol c' b s y m a z);
              going = λ m r a z. (λ h. times F r _ (omega arith) (omega arith), λ h. times F (length s) _ (omega arith) (omega arith));
            };
      }

-- ---- Graph

module _ (k n : ℕ) (sol : ℕ → Bool) where
  walk_from-cost : (t x : Kmer) → (walk_from k n sol t x).lookups ≤ 24 * n
  unfolding walk_from refuse start
  walk_from-cost t x = go (same x t) refl
    where
      go : (q : Bool) → same x t ≡ q → (walk_from k n sol t x).lookups ≤ 24 * n
      go true e = rw (e, walk_from) (omega arith)
      go false e = rw (e, walk_from) (omega (arith, walk-cost k sol (6 * n) t (start x)))

  graph_from-cost : (sc : Scan) (y : Kmer) → (graph_from k n sol sc y).lookups ≤ 4 + 24 * n
  unfolding graph_from alternative give
  graph_from-cost sc y =
      le_trans (bind-cost (alternative k sol y) _ (24 * n) (λ x.
      le_trans (bind-cost (walk_from k n sol sc.end x) (λ seen. give (record { letters = spell seen; resume = suc sc.index; on = seen })) 0 (λ seen. le_refl 0))
      (omega (arith, walk_from-cost sc.end x))))
      (omega (arith, sole-cost k sol (drop_last y)))

  graph_from-resume : (sc : Scan) (y : Kmer) (m : Mend) → (graph_from k n sol sc y).answer ≡ some m → m.resume ≡ suc sc.index
  unfolding graph_from give
  graph_from-resume sc y m e =
      let w = bind-some (alternative k sol y) _ m e in
      let v = bind-some (walk_from k n sol sc.end w.0) (λ seen. give (record { letters = spell seen; resume = suc sc.index; on = seen })) m w.2 in
      sym (ap (λ (m' : Mend). m'.resume) (some-injective _ m v.2))

  -- Graph from the scan of an attempt is fair to any F from 6 + 24n on
  graph_from-fair : (F b : ℕ) (s : List ℕ) (y : Kmer) → 6 + 24 * n ≤ F
      → FairAt k sol F b s y (after (error_len k sol y (b ∷ s)).lookups (graph_from k n sol (error_len k sol y (b ∷ s)) y))
  unfolding after error_len
  graph_from-fair F b s y le =
      let sc = error_len k sol y (b ∷ s) in
      let i = scan-is k sol 0 1 y s in
      let g = graph_from-cost sc y in
      record {
        refusal = λ a. omega (arith, i.cost);
        staying = λ m a z. absurd (omega (arith, graph_from-resume sc y m a));
        going = λ m r a z.
            let e = graph_from-resume sc y m a in (
              λ h. times F r _ (omega arith) (omega (arith, i.cost, i.low)),
              λ h. times F (length s) _ (omega arith) (omega (arith, i.cost, i.short)),
            );
      }

  pub graph-fair : (F : ℕ) → 6 + 24 * n ≤ F → Fair k sol (graph k n sol) F
  unfolding graph
  graph-fair F le = record { least = omega arith; at = λ b s y. graph_from-fair F b s y le }

-- ---- GapSize

met-snoc : (z x : Kmer) (xs : List Kmer) → met x xs ≡ false → (x ≡ z → ⊥) → met x (xs ++ (z ∷ [])) ≡ false
unfolding met
met-snoc z x [] h n = rw (same-ne x z n)
met-snoc z x (y ∷ xs) h n =
    let w = or-false (same x y) (met x xs) h in
    rw w.0 (met-snoc z x xs w.1 n)

distinct_snoc : (xs : List Kmer) (z : Kmer) → Known z → Distinct xs → met z xs ≡ false → Distinct (xs ++ (z ∷ []))
unfolding met
distinct_snoc [] z kz d h = also-distinct refl end-distinct
distinct_snoc (x ∷ xs) z kz (also-distinct n d) h =
    let w = or-false (same z x) (met z xs) h in
    also-distinct (met-snoc z x xs n (λ e. same_false z x kz w.0 (sym e))) (distinct_snoc xs z kz d w.1)

pub all_snoc : (P : Kmer → Type 0) (xs : List Kmer) (z : Kmer) → All P xs → P z → All P (xs ++ (z ∷ []))
all_snoc P [] z h p = also p end
all_snoc P (x ∷ xs) z (also h hs) p = also h (all_snoc P xs z hs p)

module _ (k : ℕ) (sol : ℕ → Bool) where
  -- a gap costs 4 for each move at most, and one that is filled has one k-mer more for each
  pub gap-any : (m : ℕ) (seen : List Kmer) (y : Kmer) (l : ℕ)
      → ((gap k sol m seen y l).lookups ≤ l + 4 * m) × ((ls : List Kmer) → (gap k sol m seen y l).answer ≡ some ls → length ls ≡ length seen + m)
  unfolding gap
  gap-any zero seen y l = (omega arith, λ ls a. ap length (sym (some-injective seen ls a)) ∙ omega arith)
  gap-any (suc m) seen y l = go (λ z. gap-any m (seen ++ (z ∷ [])) z (l + a)) (sole k sol y).answer refl
    where
      a : ℕ
      a = (sole k sol y).lookups

      four : a ≤ 4
      four = sole-cost k sol y

      Goal : Type 0
      Goal = ((gap k sol (suc m) seen y l).lookups ≤ l + 4 * suc m) × ((ls : List Kmer) → (gap k sol (suc m) seen y l).answer ≡ some ls → length ls ≡ length seen + suc m)

      go : ((z : Kmer) → ((gap k sol m (seen ++ (z ∷ [])) z (l + a)).lookups ≤ l + a + 4 * m)
          × ((ls : List Kmer) → (gap k sol m (seen ++ (z ∷ [])) z (l + a)).answer ≡ some ls → length ls ≡ length (seen ++ (z ∷ [])) + m))
          → (o : Option Kmer) → (sole k sol y).answer ≡ o → Goal
      go i none e1 = rw (e1, gap) (omega (arith, four), λ ls a. absurd (none-ne-some ls a))
      go i (some z) e1 = on (met z seen) refl
        where
          on : (q : Bool) → met z seen ≡ q → Goal
          on true e2 = rw (e1, gap, e2) (omega (arith, four), λ ls a. absurd (none-ne-some ls a))
          on false e2 = rw (e1, gap, e2) (omega (arith, four, (i z).0), λ ls a. (i z).1 ls a ∙ omega (arith, length-append seen (z ∷ [])))

  -- a filled gap of m moves goes on m + 1 bases further
  gap_from-some : (m : ℕ) (y : Kmer) (md : Mend) → (gap_from k sol m y).answer ≡ some md
      → (md.resume ≡ suc m) × ((gap_from k sol m y).lookups ≤ 4 + 4 * m)
  unfolding gap_from give alternative
  gap_from-some m y md a =
      let w = bind-some (alternative k sol y) _ md a in
      let x : Kmer = w.0 in
      let v = bind-some (gap k sol m (x ∷ []) x 0) _ md w.2 in (
        sym (ap (λ (m' : Mend). m'.resume) (some-injective _ md v.2)) ∙ (gap-any m (x ∷ []) x 0).1 v.0 v.1 ∙ omega arith,
        le_trans (bind-cost (alternative k sol y) _ (4 * m) (λ x.
            le_trans (bind-cost (gap k sol m (x ∷ []) x 0) (λ seen. give (record { letters = spell seen; resume = length seen; on = seen })) 0 (λ seen. le_refl 0))
            (omega (arith, (gap-any m (x ∷ []) x 0).0))))
            (omega (arith, sole-cost k sol (drop_last y))),
      )

  module _ (n : ℕ) (few : Few k n sol) where
    -- no k-mer is seen twice, so a gap ends within 2n moves
    pub gap-cost : (m : ℕ) (seen : List Kmer) (y : Kmer) (l : ℕ) → Distinct seen → All (SolidKmer k sol) seen
        → (gap k sol m seen y l).lookups + 4 * length seen ≤ l + 4 + 8 * n
    unfolding gap SolidKmer Few
    gap-cost zero seen y l d g = omega (arith, few seen d g)
    gap-cost (suc m) seen y l d g = go (λ z. gap-cost m (seen ++ (z ∷ [])) z (l + a)) (sole k sol y).answer refl
      where
        a : ℕ
        a = (sole k sol y).lookups

        four : a ≤ 4
        four = sole-cost k sol y

        go : ((z : Kmer) → Distinct (seen ++ (z ∷ [])) → All (SolidKmer k sol) (seen ++ (z ∷ []))
            → (gap k sol m (seen ++ (z ∷ [])) z (l + a)).lookups + 4 * length (seen ++ (z ∷ [])) ≤ l + a + 4 + 8 * n)
            → (o : Option Kmer) → (sole k sol y).answer ≡ o → (gap k sol (suc m) seen y l).lookups + 4 * length seen ≤ l + 4 + 8 * n
        go i none e1 = rw (e1, gap) (omega (arith, four, few seen d g))
        go i (some z) e1 = on (met z seen) refl
          where
            on : (q : Bool) → met z seen ≡ q → (gap k sol (suc m) seen y l).lookups + 4 * length seen ≤ l + 4 + 8 * n
            on true e2 = rw (e1, gap, e2) (omega (arith, four, few seen d g))
            on false e2 =
                let sz = (sole-is k sol y z e1).solid_found in
                let g' = all_snoc (SolidKmer k sol) seen z g (sole-lt k sol y z e1, sz) in
                rw (e1, gap, e2) (omega (arith, four, i z (distinct_snoc seen z (ask-known sol z sz) d e2) g', length-append seen (z ∷ [])))

    gap_from-cost : (m : ℕ) (y : Kmer) → (gap_from k sol m y).lookups ≤ 4 + 8 * n
    unfolding gap_from alternative give met SolidKmer
    gap_from-cost m y =
        le_trans (bind-cost-some (alternative k sol y) _ (8 * n) (λ x e.
        let g : SolidKmer k sol x = (sole-lt k sol (drop_last y) x e, (sole-is k sol (drop_last y) x e).solid_found) in
        le_trans (bind-cost (gap k sol m (x ∷ []) x 0) (λ seen. give (record { letters = spell seen; resume = length seen; on = seen })) 0 (λ seen. le_refl 0))
        (omega (arith, gap-cost m (x ∷ []) x 0 (also-distinct refl end-distinct) (also g end)))))
        (omega (arith, sole-cost k sol (drop_last y)))

module _ (j n : ℕ) (sol : ℕ → Bool) (c' : ℕ) (few : Few (suc j) n sol) (F : ℕ) (enough : 17 + suc j + 3 * suc c' + 24 * n ≤ F) where
  abbrev k : ℕ
  k = suc j

  abbrev c : ℕ
  c = suc c'

  gap_at : (b : ℕ) (s : List ℕ) (y : Kmer) → FairAt k sol F b s y (gap_size k n sol c (b ∷ s) y)
  unfolding gap_size after error_len
  gap_at b s y = go (ltb sc.index k) refl (eqb sc.index k) refl
    where
      sc : Scan
      sc = error_len k sol y (b ∷ s)

      i : ScanIs k sol 0 1 y s
      i = scan-is k sol 0 1 y s

      go : (p : Bool) → ltb sc.index k ≡ p → (q : Bool) → eqb sc.index k ≡ q → FairAt k sol F b s y (gap_size k n sol c (b ∷ s) y)
      go true e q f = rw (e, gap_size) (graph_from-fair k n sol F b s y (omega arith))
      go false e true f =
          let g = one-cost k sol c (b ∷ s) y in
          let at-k : sc.index ≡ k = eqb-true sc.index k f in
          rw (e, gap_size, f) (record {
            refusal = λ a. omega (arith, i.cost);
            staying = λ m a z. (omega (arith, i.cost, i.low), one-stays j sol c' b s y m a z);
            going = λ m r a z. (
              λ h. times F r _ (omega arith) (omega (arith, i.cost, i.low)),
              λ h. times F (length s) _ (omega arith) (omega (arith, i.cost, i.low)),
            );
          })
      go false e false f =
          let g = gap_from-cost k sol n few (sc.index - k) y in
          rw (e, gap_size, f) (record {
            refusal = λ a. omega (arith, i.cost);
            staying = λ m a z. absurd (omega (arith, (gap_from-some k sol (sc.index - k) y m a).0));
            going = λ m r a z.
                let w = gap_from-some k sol (sc.index - k) y m a in
                let le : k ≤ sc.index = ltb-false sc.index k e in (
                  λ h. five-times F r _ (omega arith) (omega (arith, w.0, w.1, i.cost, i.low)),
                  λ h. five-times F (length s) _ (omega arith) (omega (arith, w.0, w.1, i.cost, i.low, i.high)),
                );
          })

  pub gap-fair : Fair k sol (gap_size k n sol c) F
  gap-fair = record { least = omega arith; at = gap_at }
