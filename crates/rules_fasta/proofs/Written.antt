-- Passes only keep bases and write letters: a byte that has no code and is not in what a pass is fed is not in what it gives.
use Prim.Native.Nat.{ℕ, zero, suc, ◌*◌, ◌-◌}
use native.Mathlib.Omega.{arith}
use borrow.Author.Tests.{eqb-true}
use mathlib.Core.Path.{◌≡◌, refl, sym, ap, ◌∙◌, subst}
use mathlib.Core.Bool.{Bool, true, false, ◌||◌}
use mathlib.Core.Option.{some}
use mathlib.Core.List.{List, [], ◌∷◌, ◌++◌}
use lib.ListN.{length}
use lib.Dec.{eqb, ltb}
use Rattle.rules.specs.Letters.{Kmer, among, code}
use Rattle.rules.specs.Set.{KmerSet, solid, count_of}
use Rattle.rules.specs.Counted.{Try}
use Rattle.rules.specs.Exist.{Mend}
use Rattle.rules.specs.Graph.{end, also}
use Rattle.rules.specs.Driver.{State, keep_base, mend_base, turn, turns_of, begin, drive}
use Rattle.rules.specs.Job.{Entry, correct_error, pass, result}
use Rattle.rules_laws.proofs.Few.{or-false}
use Rattle.rules_laws.proofs.Attempt.{Spelled, method-spelled}
use Rattle.rules_laws.proofs.Driver.{Case, solid_found, is-quiet, is-refused, is-mended, case, turn-solid, turn-quiet, turn-refused, turn-mended, turns_of-step, turns_of-end}
use Rattle.rules_fasta.proofs.Lines.{No, no-append, no-take, no_drop}

-- A byte that has no code: no letter that is written.
module _ (b : ℕ) (no_code : code b ≡ 4) where
  spelled-free : (l : List ℕ) → Spelled l → No b l
  unfolding among
  spelled-free [] end = refl
  spelled-free (x ∷ l) (also h hs) = go (eqb b x) refl (spelled-free l hs)
    where
      go : (t : Bool) → eqb b x ≡ t → No b l → (eqb b x || among b l) ≡ false
      go true e i = absurd (let z : code x ≡ 4 = ap code (sym (eqb-true b x e)) ∙ no_code in omega arith)
      go false e i = rw e i

  -- ---- the driver over a corrector that writes letters only

  module _ (k : ℕ) (sol : ℕ → Bool) (count : Kmer → ℕ) (ce : List ℕ → Kmer → Try Mend)
      (writes : (s : List ℕ) (y : Kmer) (m : Mend) → (ce s y).answer ≡ some m → No b m.letters) where
    record Free (st : State) : Type 0 where
      done : No b st.done.bytes
      rest : No b st.rest

    turn-free : (st : State) (x : ℕ) (s : List ℕ) → No b st.done.bytes → No b (x ∷ s) → Free (turn k sol count ce st x s)
    unfolding keep_base mend_base among
    turn-free st x s h i = go (case k sol count ce st x s)
      where
        kept : No b (st.done.bytes ++ (x ∷ []))
        kept = no-append b st.done.bytes (x ∷ []) h (rw (or-false (eqb b x) (among b s) i).0)

        behind : No b s
        behind = (or-false (eqb b x) (among b s) i).1

        go : Case k sol count ce st x s → Free (turn k sol count ce st x s)
        go (solid_found e) = rw (turn-solid k sol count ce st x s e) (record { done = kept; rest = behind })
        go (is-quiet e p) = rw (turn-quiet k sol count ce st x s e p) (record { done = kept; rest = behind })
        go (is-refused e p a) = rw (turn-refused k sol count ce st x s e p a) (record { done = kept; rest = behind })
        go (is-mended m e p a) =
            rw (turn-mended k sol count ce st x s m e p a) (record {
              done = no-append b st.done.bytes m.letters h (writes (x ∷ s) _ m a);
              rest = no_drop b m.resume (x ∷ s) i;
            })

    turns-free : (f : ℕ) (st : State) → Free st → No b (turns_of k sol count ce f st).done.bytes
    unfolding turns_of
    turns-free zero st h = h.done
    turns-free (suc f) st h = go (turns-free f) st.rest refl
      where
        go : ((st' : State) → Free st' → No b (turns_of k sol count ce f st').done.bytes) → (r : List ℕ) → st.rest ≡ r
            → No b (turns_of k sol count ce (suc f) st).done.bytes
        go ih [] e = rw (turns_of-end k sol count ce (suc f) st e) h.done
        go ih (x ∷ s) e = rw (turns_of-step k sol count ce f st x s e) (ih (turn k sol count ce st x s) (turn-free st x s h.done (subst (λ (l : List ℕ). No b l) e h.rest)))

    drive-free : (read : List ℕ) → No b read → No b (drive k sol count ce read).bytes
    unfolding drive begin
    drive-free read h = go (ltb (length read) k) refl
      where
        go : (q : Bool) → ltb (length read) k ≡ q → No b (drive k sol count ce read).bytes
        go true e = rw (drive, e) h
        go false e =
            rw (drive, e) (turns-free (2 * (length read - k)) (begin k sol count ce read) (record { done = no-take b k read h; rest = no_drop b k read h }))

  -- ---- passes

  module _ (set : KmerSet) where
    pub pass-free : (e : Entry) (read : List ℕ) → No b read → No b (pass set e read).bytes
    unfolding pass
    pass-free e read h =
        drive-free set.k (solid set) (count_of set) (correct_error set e.confirm e.method)
        (λ s y m w. spelled-free m.letters (method-spelled set e.confirm e.method s y m w)) read h

    -- A byte that has no code and is not in the read is not in its result.
    pub result-free : (es : List Entry) (read : List ℕ) → No b read → No b (result set es read)
    unfolding result
    result-free [] read h = h
    result-free (e ∷ es) read h = result-free es (pass set e read).bytes (pass-free e read h)
