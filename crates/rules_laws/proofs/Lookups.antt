-- The lookups of a pass: a corrector that is fair to F keeps a pass of w_of bases within 1 + w_of × F.
use Prim.Native.Nat.{ℕ, zero, suc, ◌+◌, ◌*◌, ◌-◌, ◌≤◌, ◌<◌}
use native.Mathlib.Omega.{arith}
use native.Mathlib.Decide.{dec_le}
use native.Mathlib.Nat.{mul-le-mul_right}
use borrow.Author.Tests.{le-ltb, lt-ltb}
use mathlib.Core.Path.{◌≡◌, refl, ap, ◌∙◌}
use mathlib.Core.Bool.{Bool, true, false}
use mathlib.Core.Option.{none, some}
use mathlib.Core.List.{List, [], ◌∷◌}
use lib.ListN.{length, take, drop, length-drop}
use Rattle.rules.specs.Letters.{Kmer, add, code, kmer, in_place}
use Rattle.rules.specs.Counted.{Try}
use Rattle.rules.specs.Scan.{ask}
use Rattle.rules.specs.Exist.{Mend}
use Rattle.rules.specs.Driver.{State, keep_base, mend_base, turn, turns_of, begin, drive}
use Rattle.rules_laws.proofs.Scan.{ask-cost, scan_if, scan_cost}
use Rattle.rules_laws.proofs.Driver.{Case, solid_found, is-quiet, is-refused, is-mended, case, turn-solid, turn-quiet, turn-refused, turn-mended, Steady, turns_of-step, turns_of-end}

-- a mend that passes the scan's bases may cost the scan and a factor's worth
pub times : (F i l : ℕ) → 2 ≤ F → l + 1 ≤ F + i → l + 1 ≤ F * suc i
times F i l h g = omega (arith, mul-le-mul_right i h)

pub five-times : (F i l : ℕ) → 5 ≤ F → l + 1 ≤ F + 5 * i → l + 1 ≤ F * suc i
five-times F i l h g = omega (arith, mul-le-mul_right i h)

choice : Bool → ℕ → ℕ → ℕ
choice true a b = a
choice false a b = b

module _ (k : ℕ) (sol : ℕ → Bool) (F : ℕ) where
  -- One attempt at the bad k-mer y at base b, s behind it: a refused one costs F and the scan, since the bases that the scan
  -- passed cost 1 each from now on; a mend that takes no base leaves 1 for it; one that takes r + 1 bases, or all, pays by them.
  pub record FairAt (b : ℕ) (s : List ℕ) (y : Kmer) (t : Try Mend) : Type 0 where
    pub refusal : t.answer ≡ none → t.lookups + 1 ≤ F + scan_cost k sol y s
    pub staying : (m : Mend) → t.answer ≡ some m → m.resume ≡ 0
        → (t.lookups + 2 ≤ F) × ((ask sol (add k (in_place k y m.letters) (code b))).answer ≡ true)
    pub going : (m : Mend) (r : ℕ) → t.answer ≡ some m → m.resume ≡ suc r
        → (r ≤ length s → t.lookups + 1 ≤ F * suc r) × (length s ≤ r → t.lookups + 1 ≤ F * suc (length s))

module _ (k : ℕ) (sol : ℕ → Bool) (ce : List ℕ → Kmer → Try Mend) (F : ℕ) where
  -- what a corrector may cost
  pub record Fair : Type 0 where
    pub least : 2 ≤ F
    pub at : (b : ℕ) (s : List ℕ) (y : Kmer) → FairAt k sol F b s y (ce (b ∷ s) y)

  pub fair-steady : Fair → Steady k sol ce
  unfolding Steady
  fair-steady h b s y m a r = ((h.at b s y).staying m a r).1

module _ (k : ℕ) (sol : ℕ → Bool) (count : Kmer → ℕ) (ce : List ℕ → Kmer → Try Mend) (F : ℕ) where
  -- ---- the lookups that can still come

  -- while no attempt is due
  quiet : Kmer → List ℕ → ℕ
  unfolding choice
  quiet y [] = 0
  quiet y (b ∷ s) = choice (ask sol (add k y (code b))).answer (1 + F * length s) (1 + quiet (add k y (code b)) s)

  -- where the previous k-mer counts as solid
  ready : Kmer → List ℕ → ℕ
  unfolding choice
  ready y [] = 0
  ready y (b ∷ s) = choice (ask sol (add k y (code b))).answer (1 + F * length s) (F + F * length s)

  ahead : Bool → Kmer → List ℕ → ℕ
  unfolding quiet ready
  ahead true y s = ready y s
  ahead false y s = quiet y s

  quiet-scan : 2 ≤ F → (y : Kmer) (s : List ℕ) → quiet y s + scan_cost k sol y s ≤ F * length s
  unfolding quiet scan_cost choice scan_if
  quiet-scan h y [] = omega arith
  quiet-scan h y (b ∷ s) = go (quiet-scan h z s) (ask sol z).answer
    where
      z : Kmer
      z = add k y (code b)

      go : quiet z s + scan_cost k sol z s ≤ F * length s → (t : Bool)
          → choice t (1 + F * length s) (1 + quiet z s) + scan_if t (ask sol z).lookups (scan_cost k sol z s) ≤ F * suc (length s)
      go i true = omega (arith, ask-cost sol z)
      go i false = omega (arith, ask-cost sol z)

  ready≤ : 2 ≤ F → (y : Kmer) (s : List ℕ) → ready y s ≤ F * length s
  unfolding ready choice
  ready≤ h y [] = omega arith
  ready≤ h y (b ∷ s) = go (ask sol (add k y (code b))).answer
    where
      go : (t : Bool) → choice t (1 + F * length s) (F + F * length s) ≤ F * suc (length s)
      go true = omega arith
      go false = omega arith

  ahead≤ : 2 ≤ F → (p : Bool) (y : Kmer) (s : List ℕ) → ahead p y s ≤ F * length s
  unfolding ahead
  ahead≤ h true y s = ready≤ h y s
  ahead≤ h false y s = omega (arith, quiet-scan h y s)

  split : (d e t : ℕ) → d + e ≡ t → F * d + F * e ≡ F * t
  split d e t h = rw (← h) (omega arith)

  drop-ready : 2 ≤ F → (y : Kmer) (b : ℕ) (s : List ℕ) (l r : ℕ) → (r ≡ 0 → (l + 2 ≤ F) × ((ask sol (add k y (code b))).answer ≡ true))
      → ((r' : ℕ) → r ≡ suc r' → (r' ≤ length s → l + 1 ≤ F * suc r') × (length s ≤ r' → l + 1 ≤ F * suc (length s)))
      → 1 + l + ready y (drop r (b ∷ s)) ≤ F + F * length s
  unfolding ready choice
  drop-ready h y b s l zero p q = rw (p refl).1 (omega (arith, (p refl).0))
  drop-ready h y b s l (suc r) p q = elim (dec_le r (length s)) [ yes le ↦ inside le | no gt ↦ outside (omega arith) ]
    where
      inside : r ≤ length s → 1 + l + ready y (drop r s) ≤ F + F * length s
      inside le =
          omega (arith, ready≤ h y (drop r s), ap (λ (x : ℕ). F * x) (length-drop r s), (q r refl).0 le, split (length s - r) r (length s) (omega arith))

      outside : length s < r → 1 + l + ready y (drop r s) ≤ F + F * length s
      outside gt =
          let e : length (drop r s) ≡ 0 = length-drop r s ∙ omega arith in
          omega (arith, ready≤ h y (drop r s), ap (λ (x : ℕ). F * x) e, (q r refl).1 (omega arith))

  -- at each turn what is done and what can still come do not grow together
  ahead_step : Fair k sol ce F → (st : State) (b : ℕ) (s : List ℕ)
      → (turn k sol count ce st b s).done.lookups + ahead (turn k sol count ce st b s).previous (turn k sol count ce st b s).kmer (turn k sol count ce st b s).rest
      ≤ st.done.lookups + ahead st.previous st.kmer (b ∷ s)
  unfolding ahead quiet ready choice keep_base mend_base
  ahead_step h st b s = go (case k sol count ce st b s)
    where
      Goal : Type 0
      Goal = (turn k sol count ce st b s).done.lookups + ahead (turn k sol count ce st b s).previous (turn k sol count ce st b s).kmer (turn k sol count ce st b s).rest
          ≤ st.done.lookups + ahead st.previous st.kmer (b ∷ s)

      z : Kmer
      z = add k st.kmer (code b)

      one : (ask sol z).lookups ≤ 1
      one = ask-cost sol z

      prev : (p : Bool) → (ask sol z).answer ≡ true → ahead p st.kmer (b ∷ s) ≡ 1 + F * length s
      prev true e = rw (e, ready)
      prev false e = rw (e, quiet)

      go : Case k sol count ce st b s → Goal
      go (solid_found e) = rw (turn-solid k sol count ce st b s e, prev st.previous e) (omega (arith, one, ready≤ h.least z s))
      go (is-quiet e p) = rw (turn-quiet k sol count ce st b s e p, p, e) (omega (arith, one))
      go (is-refused e p a) =
          rw (turn-refused k sol count ce st b s e p a, p, e) (omega (arith, one, (h.at b s z).refusal a, quiet-scan h.least z s))
      go (is-mended m e p a) =
          rw (turn-mended k sol count ce st b s m e p a, p, e)
          (let d = drop-ready h.least (in_place k z m.letters) b s (ce (b ∷ s) z).lookups m.resume
          ((h.at b s z).staying m a) (λ r e'. (h.at b s z).going m r a e') in omega (arith, one))

  lookups-le : Fair k sol ce F → (f : ℕ) (st : State)
      → (turns_of k sol count ce f st).done.lookups ≤ st.done.lookups + ahead st.previous st.kmer st.rest
  unfolding turns_of
  lookups-le h zero st = omega arith
  lookups-le h (suc f) st = go (lookups-le h f) st.rest refl
    where
      go : ((st' : State) → (turns_of k sol count ce f st').done.lookups ≤ st'.done.lookups + ahead st'.previous st'.kmer st'.rest)
          → (r : List ℕ) → st.rest ≡ r
          → (turns_of k sol count ce (suc f) st).done.lookups ≤ st.done.lookups + ahead st.previous st.kmer st.rest
      go ih [] e = rw (turns_of-end k sol count ce (suc f) st e) (omega arith)
      go ih (b ∷ s) e =
          let i = ih (turn k sol count ce st b s) in
          let l = ahead_step h st b s in
          let e' : ahead st.previous st.kmer st.rest ≡ ahead st.previous st.kmer (b ∷ s) = ap (ahead st.previous st.kmer) e in
          rw (turns_of-step k sol count ce f st b s e) (omega arith)

  -- ---- a pass

  pub drive-lookups : Fair k sol ce F → (read : List ℕ) → k ≤ length read → (drive k sol count ce read).lookups ≤ 1 + (length read - k) * F
  unfolding drive begin
  drive-lookups h read le =
      rw (drive, le-ltb (length read) k le)
      (let y : Kmer = kmer k (take k read) in
      omega (
        arith,
        lookups-le h (2 * (length read - k)) (begin k sol count ce read),
        ask-cost sol y,
        ahead≤ h.least (ask sol y).answer y (drop k read),
        ap (λ (x : ℕ). F * x) (length-drop k read),
      ))

  pub drive-short : (read : List ℕ) → length read < k → (drive k sol count ce read).lookups ≡ 0
  unfolding drive
  drive-short read lt = rw (drive, lt-ltb (length read) k lt)
