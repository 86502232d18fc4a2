-- Document 02, W5: where an attempt is made, every letter of the bad k-mer but its last is known; so its start costs 4 lookups, and the
-- k-mer after a mend has no unknown letter.
use Prim.Native.Nat.{ℕ, zero, suc, ◌+◌, ◌*◌, ◌-◌, ◌/◌, ◌%◌, ◌^◌, ◌≤◌, ◌<◌}
use native.Mathlib.Omega.{arith}
use native.Mathlib.Nat.{zero-mod, mod-le}
use borrow.Author.Tests.{ltb-true}
use mathlib.Core.Path.{◌≡◌, refl, sym, ◌∙◌, subst}
use mathlib.Core.Bool.{Bool, true, false, false≢true}
use mathlib.Core.Option.{some, some-injective}
use mathlib.Core.List.{List, [], ◌∷◌, ◌++◌}
use lib.ListN.{length, take}
use lib.Dec.{ltb, eqb}
use Rattle.rules.specs.Letters.{Kmer, push, add, add_all, code, drop_last, kmer, in_place, last_letter, last}
use Rattle.rules.specs.Set.{KmerSet, solid}
use Rattle.rules.specs.Counted.{Try, after, give}
use Rattle.rules.specs.Scan.{Scan, alternative, error_len}
use Rattle.rules.specs.Exist.{Mend, row, one, two, exist}
use Rattle.rules.specs.Graph.{All, end, also, spell, graph, chain_mend}
use Rattle.rules.specs.GapSize.{gap, gap_from, gap_size}
use Rattle.rules.specs.Driver.{State, keep_base, mend_base, turn, begin}
use Rattle.rules.specs.Job.{Method, One, Two, Graph, GapSize, correct_error}
use Rattle.rules_laws.proofs.Kmer.{Known, code-le, code-letter, add-unknown}
use Rattle.rules_laws.proofs.Counted.{bind-some}
use Rattle.rules_laws.proofs.Scan.{ask-known, sole-lookups, four-cost}
use Rattle.rules_laws.proofs.Exist.{Kept, exist-some, all_of}
use Rattle.rules_laws.proofs.Few.{Few, few}
use Rattle.rules_laws.proofs.Exactly.{graph-exactly, gap_size-exactly}
use Rattle.rules_laws.proofs.Driver.{Case, solid_found, is-quiet, is-refused, is-mended, case, turn-solid, turn-quiet, turn-refused, turn-mended}

-- ---- the letters of a mend have codes

-- Every letter has a code.
abbrev pub Spelled : List ℕ → Type 0
Spelled letters = All (λ b. code b < 4) letters

all_both : (xs ys : List ℕ) → Spelled xs → Spelled ys → Spelled (xs ++ ys)
all_both [] ys end h = h
all_both (x ∷ xs) ys (also p g) h = also p (all_both xs ys g h)

last_letter-code : (y : Kmer) → code (last_letter y) < 4
unfolding last_letter
last_letter-code y = (let h : y.code % 4 < 4 = omega arith in rw (code-letter (y.code % 4) h) h)

pub last-spelled : (m : ℕ) (y : Kmer) → Spelled (last m y)
unfolding last
last-spelled zero y = end
last-spelled (suc m) y = all_both (last m (drop_last y)) (last_letter y ∷ []) (last-spelled m (drop_last y)) (also (last_letter-code y) end)

pub spell-spelled : (ys : List Kmer) → Spelled (spell ys)
unfolding spell
spell-spelled [] = end
spell-spelled (y ∷ ys) = also (last_letter-code y) (spell-spelled ys)

abbrev pub Written : Mend → Type 0
Written m = Spelled m.letters

module _ (k : ℕ) (sol : ℕ → Bool) (c : ℕ) (s : List ℕ) (y : Kmer) (m : Mend) where
  pub one-spelled : (exist k sol c s (one k sol) y).answer ≡ some m → Written m
  unfolding one row Kept
  one-spelled e =
      exist-some k sol c s Written (one k sol) y m
      (λ x a. all_of (Kept k sol c s Written) (one k sol x s)
      (λ t p q. last-spelled 1 x, (λ t p q. last-spelled 1 x, (λ t p q. last-spelled 1 x, tt))))
      e

  pub two-spelled : (exist k sol c s (two k sol) y).answer ≡ some m → Written m
  unfolding two row Kept
  two-spelled e =
      exist-some k sol c s Written (two k sol) y m
      (λ x a. all_of (Kept k sol c s Written) (two k sol x s) (
        λ t p q. last-spelled 1 x,
        (
          λ t p q. last-spelled 1 x,
          (
            λ t p q. last-spelled 2 t,
            (
              λ t p q. last-spelled 2 t,
              (
                λ t p q. last-spelled 2 t,
                (
                  λ t p q. last-spelled 1 x,
                  (
                    λ t p q. last-spelled 2 t,
                    (
                      λ t p q. last-spelled 2 t,
                      (λ t p q. last-spelled 3 t, (λ t p q. last-spelled 3 t, (λ t p q. last-spelled 3 t, (λ t p q. end, (λ t p q. last-spelled 3 t, tt))))),
                    ),
                  ),
                ),
              ),
            ),
          ),
        ),
      ))
      e

module _ (k n : ℕ) (sol : ℕ → Bool) (few : Few k n sol) (s : List ℕ) (y : Kmer) (m : Mend) where
  pub graph-spelled : (graph k n sol s y).answer ≡ some m → Written m
  unfolding chain_mend
  graph-spelled e =
      let w = (graph-exactly k n sol few s y).only_if m e in
      subst (λ (m' : Mend). Written m') (sym w.1) (spell-spelled (w.0.x ∷ w.0.chain.via))

  gap_from-spelled : (i : ℕ) → (gap_from k sol i y).answer ≡ some m → Written m
  unfolding gap_from give
  gap_from-spelled i e =
      let w = bind-some (alternative k sol y) _ m e in
      let v = bind-some (gap k sol i (w.0 ∷ []) w.0 0) _ m w.2 in
      subst (λ (m' : Mend). Written m') (some-injective _ m v.2) (spell-spelled v.0)

  pub gap_size-spelled : (c : ℕ) → (gap_size k n sol c s y).answer ≡ some m → Written m
  unfolding gap_size after chain_mend
  gap_size-spelled c e = go (ltb sc.index k) refl (eqb sc.index k) refl
    where
      sc : Scan
      sc = error_len k sol y s

      go : (p : Bool) → ltb sc.index k ≡ p → (q : Bool) → eqb sc.index k ≡ q → Written m
      go true f q g =
          let w = (gap_size-exactly k n sol few s y c (ltb-true sc.index k f)).only_if m e in
          subst (λ (m' : Mend). Written m') (sym w.1) (spell-spelled (w.0.x ∷ w.0.chain.via))
      go false f true g = one-spelled k sol c s y m (rw (f, gap_size, g) at e)
      go false f false g = gap_from-spelled (sc.index - k) (rw (f, gap_size, g) at e)

-- ---- k-mers without unknown letters

module _ (j : ℕ) (y : Kmer) (h : Known y) where
  pub add-known : (a : ℕ) → a < 4 → Known (add (suc j) y a)
  add-known a lt = add-unknown j y a lt ∙ rw (h, zero-mod (2 ^ j))

  -- all letters of y+b but its last
  pub before-known : (b : ℕ) → Known (drop_last (add (suc j) y (code b)))
  unfolding drop_last add push
  before-known b =
      let l = code-le b in
      let d : code b / 4 ≤ 1 = omega arith in
      let e : 2 * y.unknown + code b / 4 ≡ code b / 4 = rw h (omega arith) in
      let r : (2 * y.unknown + code b / 4) % 2 ^ suc j ≤ 1 = rw e (omega (arith, mod-le (code b / 4) (2 ^ suc j))) in
      omega arith

pub add_all-known : (j : ℕ) (y : Kmer) (ls : List ℕ) → Known y → Spelled ls → Known (add_all (suc j) y ls)
unfolding add_all
add_all-known j y [] h end = h
add_all-known j y (b ∷ ls) h (also p g) = add_all-known j (add (suc j) y (code b)) ls (add-known j y h (code b) p) g

-- ---- a pass

module _ (j : ℕ) (sol : ℕ → Bool) (count : Kmer → ℕ) (ce : List ℕ → Kmer → Try Mend) (spelled : (s : List ℕ) (y : Kmer) (m : Mend) → (ce s y).answer ≡ some m → Written m) where
  abbrev k : ℕ
  k = suc j

  -- Where the previous k-mer counts as solid it has no unknown letter.
  abbrev pub Prepared : State → Type 0
  Prepared st = st.previous ≡ true → Known st.kmer

  pub begin-prepared : (read : List ℕ) → Prepared (begin k sol count ce read)
  unfolding begin
  begin-prepared read e = ask-known sol (kmer k (take k read)) e

  pub turn-prepared : (st : State) (b : ℕ) (s : List ℕ) → Prepared st → Prepared (turn k sol count ce st b s)
  unfolding keep_base mend_base in_place
  turn-prepared st b s h = go (case k sol count ce st b s)
    where
      z : Kmer
      z = add k st.kmer (code b)

      go : Case k sol count ce st b s → Prepared (turn k sol count ce st b s)
      go (solid_found e) = rw (turn-solid k sol count ce st b s e) (λ q. ask-known sol z e)
      go (is-quiet e p) = rw (turn-quiet k sol count ce st b s e p) (λ q. absurd (false≢true q))
      go (is-refused e p a) = rw (turn-refused k sol count ce st b s e p a) (λ q. absurd (false≢true q))
      go (is-mended m e p a) =
          rw (turn-mended k sol count ce st b s m e p a)
          (λ q. add_all-known j (drop_last z) m.letters (before-known j st.kmer (h p) b) (spelled (b ∷ s) z m a))

  -- The start of an attempt costs 4 lookups.
  pub attempt-four : (st : State) (b : ℕ) → Prepared st → st.previous ≡ true → (alternative k sol (add k st.kmer (code b))).lookups ≡ 4
  unfolding alternative
  attempt-four st b h p =
      let z : Kmer = drop_last (add k st.kmer (code b)) in
      let u : z.unknown ≡ 0 = before-known j st.kmer (h p) b in
      sole-lookups k sol z ∙ four-cost j sol z (rw u (zero-mod (2 ^ j)))

-- Every method's letters have codes.
pub method-spelled : (set : KmerSet) (c : ℕ) (m : Method) (s : List ℕ) (y : Kmer) (md : Mend) → (correct_error set c m s y).answer ≡ some md → Written md
unfolding correct_error
method-spelled set c One s y md e = one-spelled set.k (solid set) c s y md e
method-spelled set c Two s y md e = two-spelled set.k (solid set) c s y md e
method-spelled set c Graph s y md e = graph-spelled set.k (length set.keys) (solid set) (few set) s y md e
method-spelled set c GapSize s y md e = gap_size-spelled set.k (length set.keys) (solid set) (few set) s y md c e
