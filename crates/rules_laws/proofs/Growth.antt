-- What a pass writes beyond what it is fed is at most its lookups. Serves W9: the bytes of a batch that no buffer bounds.
use Prim.Native.Nat.{ℕ, zero, suc, ◌+◌, ◌*◌, ◌-◌, ◌≤◌}
use native.Mathlib.Omega.{arith}
use borrow.Author.Tests.{ltb-false}
use mathlib.Core.Path.{◌≡◌, refl, sym, ap, ◌∙◌, subst}
use mathlib.Core.Bool.{Bool, true, false}
use mathlib.Core.Option.{Option, none, some, some-injective, none-ne-some}
use mathlib.Core.List.{List, [], ◌∷◌, ◌++◌}
use lib.ListN.{length, length-append, length-take, length-drop}
use lib.Dec.{eqb, ltb}
use Rattle.rules.specs.Letters.{Kmer, drop_last, last_letter, last, same, met}
use Rattle.rules.specs.Set.{KmerSet, solid, count_of}
use Rattle.rules.specs.Counted.{Try, after, refuse, give}
use Rattle.rules.specs.Scan.{Scan, sole, alternative, error_len}
use Rattle.rules.specs.Exist.{Mend, Scenario, row, one, two, exist}
use Rattle.rules.specs.Graph.{spell, Walk, start, moved, halt, walk, walk_from, graph_from, graph}
use Rattle.rules.specs.GapSize.{gap, gap_from, gap_size}
use Rattle.rules.specs.Driver.{State, keep_base, mend_base, turn, turns_of, begin, drive}
use Rattle.rules.specs.Job.{Method, One, Two, Graph, GapSize, Entry, correct_error, pass}
use Rattle.rules_laws.proofs.Kmer.{last-length}
use Rattle.rules_laws.proofs.Counted.{bind-both}
use Rattle.rules_laws.proofs.Scan.{sole-four}
use Rattle.rules_laws.proofs.Exist.{all_of, Kept, exist-some}
use Rattle.rules_laws.proofs.Driver.{Case, solid_found, is-quiet, is-refused, is-mended, case, turn-solid, turn-quiet, turn-refused, turn-mended, turns_of-step, turns_of-end}

pub length-spell : (ys : List Kmer) → length (spell ys) ≡ length ys
unfolding spell
length-spell [] = refl
length-spell (y ∷ ys) = ap suc (length-spell ys)

module _ (k : ℕ) (sol : ℕ → Bool) (pos : 1 ≤ k) where
  -- A sole successor that is found costs 4.
  found-four : (y z : Kmer) → (sole k sol y).answer ≡ some z → (sole k sol y).lookups ≡ 4
  found-four y z = go k pos
    where
      go : (k' : ℕ) → 1 ≤ k' → (sole k' sol y).answer ≡ some z → (sole k' sol y).lookups ≡ 4
      go zero p e = absurd (omega arith)
      go (suc j) p e = sole-four j sol y z e

  -- So does the start of an attempt that goes on.
  start-cost : (y x : Kmer) → (alternative k sol y).answer ≡ some x → (alternative k sol y).lookups ≡ 4
  unfolding alternative
  start-cost y x e = found-four (drop_last y) x e

  -- ---- One and Two: at most 3 letters, and 4 lookups for the start

  abbrev Few3 : Mend → Type 0
  Few3 m = length m.letters ≤ 3

  exist-start : (c : ℕ) (s : List ℕ) (scenarios : Kmer → List ℕ → List Scenario) (y : Kmer) (m : Mend)
      → (exist k sol c s scenarios y).answer ≡ some m → 4 ≤ (exist k sol c s scenarios y).lookups
  unfolding exist
  exist-start c s scenarios y m e =
      let w = bind-both (alternative k sol y) _ m e in
      let l = w.3 in
      omega (arith, start-cost y w.0 w.1)

  one-letters : (c : ℕ) (s : List ℕ) (y : Kmer) (m : Mend) → (exist k sol c s (one k sol) y).answer ≡ some m → length m.letters ≤ 3
  unfolding one row Kept
  one-letters c s y m e =
      exist-some k sol c s Few3 (one k sol) y m
      (λ x a. all_of (Kept k sol c s Few3) (one k sol x s) (
        λ t p q. omega (arith, last-length 1 x),
        (λ t p q. omega (arith, last-length 1 x), (λ t p q. omega (arith, last-length 1 x), tt)),
      )) e

  one_grows : (c : ℕ) (s : List ℕ) (y : Kmer) (m : Mend) → (exist k sol c s (one k sol) y).answer ≡ some m
      → length m.letters ≤ (exist k sol c s (one k sol) y).lookups
  one_grows c s y m e = omega (arith, one-letters c s y m e, exist-start c s (one k sol) y m e)

  two-letters : (c : ℕ) (s : List ℕ) (y : Kmer) (m : Mend) → (exist k sol c s (two k sol) y).answer ≡ some m → length m.letters ≤ 3
  unfolding two row Kept
  two-letters c s y m e =
      exist-some k sol c s Few3 (two k sol) y m
      (λ x a. all_of (Kept k sol c s Few3) (two k sol x s) (
        λ t p q. omega (arith, last-length 1 x),
        (
          λ t p q. omega (arith, last-length 1 x),
          (
            λ t p q. omega (arith, last-length 2 t),
            (
              λ t p q. omega (arith, last-length 2 t),
              (
                λ t p q. omega (arith, last-length 2 t),
                (
                  λ t p q. omega (arith, last-length 1 x),
                  (
                    λ t p q. omega (arith, last-length 2 t),
                    (
                      λ t p q. omega (arith, last-length 2 t),
                      (
                        λ t p q. omega (arith, last-length 3 t),
                        (
                          λ t p q. omega (arith, last-length 3 t),
                          (
                            λ t p q. omega (arith, last-length 3 t),
                            (
                              λ t p q. omega arith,
                              (λ t p q. omega (arith, last-length 3 t), tt),
                            ),
                          ),
                        ),
                      ),
                    ),
                  ),
                ),
              ),
            ),
          ),
        ),
      )) e

  two-grows : (c : ℕ) (s : List ℕ) (y : Kmer) (m : Mend) → (exist k sol c s (two k sol) y).answer ≡ some m
      → length m.letters ≤ (exist k sol c s (two k sol) y).lookups
  two-grows c s y m e = omega (arith, two-letters c s y m e, exist-start c s (two k sol) y m e)

  -- ---- Graph: a letter for x and one for each move

  walk-grows : (f : ℕ) (t : Kmer) (w : Walk) (ls : List Kmer) → length w.seen ≤ suc w.lookups → (walk k sol f t w).answer ≡ some ls
      → length ls ≤ suc (walk k sol f t w).lookups
  unfolding walk halt moved
  walk-grows zero t w ls h e = absurd (none-ne-some ls e)
  walk-grows (suc f) t w ls h e = go (λ y. walk-grows f t (moved w y (sole k sol w.at).lookups) ls) (sole k sol w.at).answer refl
    where
      go : ((y : Kmer) → length (w.seen ++ (y ∷ [])) ≤ suc (w.lookups + (sole k sol w.at).lookups)
          → (walk k sol f t (moved w y (sole k sol w.at).lookups)).answer ≡ some ls
          → length ls ≤ suc (walk k sol f t (moved w y (sole k sol w.at).lookups)).lookups)
          → (o : Option Kmer) → (sole k sol w.at).answer ≡ o → length ls ≤ suc (walk k sol (suc f) t w).lookups
      go i none q = absurd (none-ne-some ls (rw (walk, q) at e))
      go i (some y) q = on (same y t) refl (same y w.mark) refl
        where
          four : (sole k sol w.at).lookups ≡ 4
          four = found-four w.at y q

          on : (v : Bool) → same y t ≡ v → (x : Bool) → same y w.mark ≡ x → length ls ≤ suc (walk k sol (suc f) t w).lookups
          on true v x z =
              let is : w.seen ++ (y ∷ []) ≡ ls = some-injective _ ls (rw (walk, q, v) at e) in
              rw (walk, q, v) (omega (arith, four, ap length is, length-append w.seen (y ∷ [])))
          on false v true z = absurd (none-ne-some ls (rw (walk, q, v, z) at e))
          on false v false z =
              rw (walk, q, v, z) (i y (omega (arith, four, length-append w.seen (y ∷ []))) (rw (walk, q, v, z) at e))

  module _ (n : ℕ) where
    walk_from-grows : (t x : Kmer) (ls : List Kmer) → (walk_from k n sol t x).answer ≡ some ls → length ls ≤ suc (walk_from k n sol t x).lookups
    unfolding walk_from refuse start
    walk_from-grows t x ls e = go (same x t) refl
      where
        go : (q : Bool) → same x t ≡ q → length ls ≤ suc (walk_from k n sol t x).lookups
        go true f = absurd (none-ne-some ls (rw (f, walk_from) at e))
        go false f = rw (f, walk_from) (walk-grows (6 * n) t (start x) ls (omega arith) (rw (f, walk_from) at e))

    graph_from-grows : (sc : Scan) (y : Kmer) (m : Mend) → (graph_from k n sol sc y).answer ≡ some m → length m.letters ≤ (graph_from k n sol sc y).lookups
    unfolding graph_from give
    graph_from-grows sc y m e =
        let w = bind-both (alternative k sol y) _ m e in
        let v = bind-both (walk_from k n sol sc.end w.0) (λ seen. give (record { letters = spell seen; resume = suc sc.index; on = seen })) m w.2 in
        let is : spell v.0 ≡ m.letters = ap (λ (d : Mend). d.letters) (some-injective _ m v.2) in
        let l = w.3 in
        let l' = v.3 in
        omega (arith, ap length is, length-spell v.0, walk_from-grows sc.end w.0 v.0 v.1, start-cost y w.0 w.1)

    graph-grows : (s : List ℕ) (y : Kmer) (m : Mend) → (graph k n sol s y).answer ≡ some m → length m.letters ≤ (graph k n sol s y).lookups
    unfolding graph after
    graph-grows s y m e = omega (arith, graph_from-grows (error_len k sol y s) y m e)

    -- ---- GapSize: likewise

    gap-grows : (moves : ℕ) (seen : List Kmer) (y : Kmer) (l : ℕ) (ls : List Kmer) → length seen ≤ suc l → (gap k sol moves seen y l).answer ≡ some ls
        → length ls ≤ suc (gap k sol moves seen y l).lookups
    unfolding gap
    gap-grows zero seen y l ls h e = omega (arith, ap length (some-injective seen ls e))
    gap-grows (suc moves) seen y l ls h e = go (λ z. gap-grows moves (seen ++ (z ∷ [])) z (l + (sole k sol y).lookups) ls) (sole k sol y).answer refl
      where
        go : ((z : Kmer) → length (seen ++ (z ∷ [])) ≤ suc (l + (sole k sol y).lookups) → (gap k sol moves (seen ++ (z ∷ [])) z (l + (sole k sol y).lookups)).answer ≡ some ls
            → length ls ≤ suc (gap k sol moves (seen ++ (z ∷ [])) z (l + (sole k sol y).lookups)).lookups)
            → (o : Option Kmer) → (sole k sol y).answer ≡ o → length ls ≤ suc (gap k sol (suc moves) seen y l).lookups
        go i none p = absurd (none-ne-some ls (rw (p, gap) at e))
        go i (some z) p = on (met z seen) refl
          where
            four : (sole k sol y).lookups ≡ 4
            four = found-four y z p

            on : (q : Bool) → met z seen ≡ q → length ls ≤ suc (gap k sol (suc moves) seen y l).lookups
            on true q = absurd (none-ne-some ls (rw (p, gap, q) at e))
            on false q = rw (p, gap, q) (i z (omega (arith, four, length-append seen (z ∷ []))) (rw (p, gap, q) at e))

    gap_from-grows : (moves : ℕ) (y : Kmer) (m : Mend) → (gap_from k sol moves y).answer ≡ some m → length m.letters ≤ (gap_from k sol moves y).lookups
    unfolding gap_from give
    gap_from-grows moves y m e =
        let w = bind-both (alternative k sol y) _ m e in
        let v = bind-both (gap k sol moves (w.0 ∷ []) w.0 0) (λ seen. give (record { letters = spell seen; resume = length seen; on = seen })) m w.2 in
        let is : spell v.0 ≡ m.letters = ap (λ (d : Mend). d.letters) (some-injective _ m v.2) in
        let l = w.3 in
        let l' = v.3 in
        omega (arith, ap length is, length-spell v.0, gap-grows moves (w.0 ∷ []) w.0 0 v.0 (omega arith) v.1, start-cost y w.0 w.1)

    gap_size-grows : (c : ℕ) (s : List ℕ) (y : Kmer) (m : Mend) → (gap_size k n sol c s y).answer ≡ some m → length m.letters ≤ (gap_size k n sol c s y).lookups
    unfolding gap_size after
    gap_size-grows c s y m e = go (ltb (error_len k sol y s).index k) refl (eqb (error_len k sol y s).index k) refl
      where
        go : (p : Bool) → ltb (error_len k sol y s).index k ≡ p → (q : Bool) → eqb (error_len k sol y s).index k ≡ q
            → length m.letters ≤ (gap_size k n sol c s y).lookups
        go true p q r = rw (p, gap_size) (omega (arith, graph_from-grows (error_len k sol y s) y m (rw (p, gap_size) at e)))
        go false p true r = rw (p, gap_size, r) (omega (arith, one_grows c s y m (rw (p, gap_size, r) at e)))
        go false p false r = rw (p, gap_size, r) (omega (arith, gap_from-grows ((error_len k sol y s).index - k) y m (rw (p, gap_size, r) at e)))

-- ---- the driver

module _ (k : ℕ) (sol : ℕ → Bool) (count : Kmer → ℕ) (ce : List ℕ → Kmer → Try Mend)
    (grows : (s : List ℕ) (y : Kmer) (m : Mend) → (ce s y).answer ≡ some m → length m.letters ≤ (ce s y).lookups) where
  -- what is done and what is left, within n bytes and the lookups made; a kept base may cost nothing, so it is counted from what is left
  abbrev Within : ℕ → State → Type 0
  Within n st = length st.done.bytes + length st.rest ≤ n + st.done.lookups

  turn-within : (n : ℕ) (st : State) (x : ℕ) (s : List ℕ) → length st.done.bytes + length (x ∷ s) ≤ n + st.done.lookups
      → Within n (turn k sol count ce st x s)
  unfolding keep_base mend_base
  turn-within n st x s h = go (case k sol count ce st x s)
    where
      kept : length (st.done.bytes ++ (x ∷ [])) ≡ length st.done.bytes + 1
      kept = length-append st.done.bytes (x ∷ [])

      go : Case k sol count ce st x s → Within n (turn k sol count ce st x s)
      go (solid_found e) = rw (turn-solid k sol count ce st x s e) (omega (arith, kept))
      go (is-quiet e p) = rw (turn-quiet k sol count ce st x s e p) (omega (arith, kept))
      go (is-refused e p a) = rw (turn-refused k sol count ce st x s e p a) (omega (arith, kept))
      go (is-mended m e p a) =
          let l = grows (x ∷ s) _ m a in
          rw (turn-mended k sol count ce st x s m e p a)
          (omega (arith, length-append st.done.bytes m.letters, length-drop m.resume (x ∷ s)))

  turns-within : (n f : ℕ) (st : State) → Within n st → Within n (turns_of k sol count ce f st)
  unfolding turns_of
  turns-within n zero st h = h
  turns-within n (suc f) st h = go (turns-within n f) st.rest refl
    where
      go : ((st' : State) → Within n st' → Within n (turns_of k sol count ce f st')) → (r : List ℕ) → st.rest ≡ r → Within n (turns_of k sol count ce (suc f) st)
      go ih [] e = subst (Within n) (sym (turns_of-end k sol count ce (suc f) st e)) h
      go ih (x ∷ s) e =
          subst (Within n) (sym (turns_of-step k sol count ce f st x s e))
          (ih (turn k sol count ce st x s) (turn-within n st x s (subst (λ (l : List ℕ). length st.done.bytes + length l ≤ n + st.done.lookups) e h)))

  drive-within : (read : List ℕ) → length (drive k sol count ce read).bytes ≤ length read + (drive k sol count ce read).lookups
  unfolding drive begin
  drive-within read = go (ltb (length read) k) refl
    where
      go : (q : Bool) → ltb (length read) k ≡ q → length (drive k sol count ce read).bytes ≤ length read + (drive k sol count ce read).lookups
      go true e = rw (drive, e) (omega arith)
      go false e =
          let l = ltb-false (length read) k e in
          let i = turns-within (length read) (2 * (length read - k)) (begin k sol count ce read) (omega (arith, length-take k read, length-drop k read)) in
          rw (drive, e) (omega arith)

-- ---- passes

-- An accepted attempt gives at most a letter for each of its lookups.
pub mend-within : (set : KmerSet) → 1 ≤ set.k → (c : ℕ) (m : Method) (s : List ℕ) (y : Kmer) (d : Mend)
    → (correct_error set c m s y).answer ≡ some d → length d.letters ≤ (correct_error set c m s y).lookups
unfolding correct_error
mend-within set pos c One s y d e = one_grows set.k (solid set) pos c s y d e
mend-within set pos c Two s y d e = two-grows set.k (solid set) pos c s y d e
mend-within set pos c Graph s y d e = graph-grows set.k (solid set) pos (length set.keys) s y d e
mend-within set pos c GapSize s y d e = gap_size-grows set.k (solid set) pos (length set.keys) c s y d e

-- A pass gives at most the bytes that it is fed and one for each lookup.
pub pass-within : (set : KmerSet) → 1 ≤ set.k → (e : Entry) (read : List ℕ)
    → length (pass set e read).bytes ≤ length read + (pass set e read).lookups
unfolding pass
pass-within set pos e read =
    drive-within set.k (solid set) (count_of set) (correct_error set e.confirm e.method) (mend-within set pos e.confirm e.method) read
