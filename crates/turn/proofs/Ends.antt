-- What a pass has done so far, against its end: the rules' driver over any corrector.
use Prim.Native.Nat.{ℕ, zero, suc, ◌+◌, ◌*◌, ◌-◌, ◌≤◌}
use native.Mathlib.Omega.{arith}
use native.Mathlib.Nat.{zero-add}
use mathlib.Core.Path.{◌≡◌, refl, sym, ap, ◌∙◌}
use mathlib.Core.Bool.{Bool, true, false}
use mathlib.Core.Option.{none}
use mathlib.Core.List.{List, [], ◌∷◌}
use lib.ListN.{length, take, length-append}
use lib.Seq.{length-take-le}
use Rattle.rules.specs.Letters.{Kmer, add_base}
use Rattle.rules.specs.Counted.{Try}
use Rattle.rules.specs.Scan.{ask, error_len}
use Rattle.rules.specs.Exist.{Mend}
use Rattle.rules.specs.Driver.{Pass, State, keep_base, mend_base, turn, turns_of}
use Rattle.rules_laws.proofs.Scan.{scan-is}
use Rattle.rules_laws.proofs.Driver.{Case, solid_found, is-quiet, is-refused, is-mended, case, turn-solid, turn-quiet, turn-refused, turn-mended, turns_of-step, turns_of-end, Steady, finish, finish-step, refused-kept}

-- a is done by the time that b is
pub record Within (a b : Pass) : Type 0 where
  pub bytes : length a.bytes ≤ length b.bytes
  pub turns : a.turns ≤ b.turns
  pub lookups : a.lookups ≤ b.lookups
  pub attempts : a.attempts ≤ b.attempts
  pub accepted : a.accepted ≤ b.accepted

module _ (k : ℕ) (sol : ℕ → Bool) (count : Kmer → ℕ) (ce : List ℕ → Kmer → Try Mend) where
  -- a property that each way of a turn keeps holds from a state to what its turns lead to
  module _ (P : Pass → Type 0)
      (keeps : (st : State) (b : ℕ) (s : List ℕ) (y : Kmer) (p : Bool) (a l : ℕ) → a ≤ 1 → P st.done → P (keep_base st b s y p a l).done)
      (mends : (st : State) (s : List ℕ) (y : Kmer) (m : Mend) (l : ℕ) → P st.done → P (mend_base k count st s y m l).done) where
    turn-keeps : (st : State) (b : ℕ) (s : List ℕ) → P st.done → P (turn k sol count ce st b s).done
    turn-keeps st b s h = go (case k sol count ce st b s)
      where
        go : Case k sol count ce st b s → P (turn k sol count ce st b s).done
        go (solid_found e) = rw (turn-solid k sol count ce st b s e) (keeps st b s _ true 0 _ (omega arith) h)
        go (is-quiet e p) = rw (turn-quiet k sol count ce st b s e p) (keeps st b s _ false 0 _ (omega arith) h)
        go (is-refused e p a) = rw (turn-refused k sol count ce st b s e p a) (keeps st b s _ false 1 _ (omega arith) h)
        go (is-mended m e p a) = rw (turn-mended k sol count ce st b s m e p a) (mends st (b ∷ s) _ m _ h)

    pub turns_of-keeps : (f : ℕ) (st : State) → P st.done → P (turns_of k sol count ce f st).done
    unfolding turns_of
    turns_of-keeps zero st h = h
    turns_of-keeps (suc f) st h = go (turns_of-keeps f) st.rest refl
      where
        go : ((st' : State) → P st'.done → P (turns_of k sol count ce f st').done) → (r : List ℕ) → st.rest ≡ r → P (turns_of k sol count ce (suc f) st).done
        go ih [] e = rw (turns_of-end k sol count ce (suc f) st e) h
        go ih (b ∷ s) e = rw (turns_of-step k sol count ce f st b s e) (ih (turn k sol count ce st b s) (turn-keeps st b s h))

  -- what is done only grows
  pub turns_of-within : (f : ℕ) (st : State) → Within st.done (turns_of k sol count ce f st).done
  unfolding keep_base mend_base
  turns_of-within f st =
      turns_of-keeps (Within st.done)
      (λ st' b s y p a l le h. record {
        bytes = omega (arith, h.bytes, length-append st'.done.bytes (b ∷ []));
        turns = omega (arith, h.turns);
        lookups = omega (arith, h.lookups);
        attempts = omega (arith, h.attempts);
        accepted = h.accepted;
      })
      (λ st' s y m l h. record {
        bytes = omega (arith, h.bytes, length-append st'.done.bytes m.letters);
        turns = omega (arith, h.turns);
        lookups = omega (arith, h.lookups);
        attempts = omega (arith, h.attempts);
        accepted = omega (arith, h.accepted);
      })
      f st (record { bytes = omega arith; turns = omega arith; lookups = omega arith; attempts = omega arith; accepted = omega arith })

  -- what a turn has done is done at the end
  pub turn-within : Steady k sol ce → (st : State) (b : ℕ) (s : List ℕ) → st.rest ≡ b ∷ s → Within (turn k sol count ce st b s).done (finish k sol count ce st).done
  unfolding finish
  turn-within h st b s e =
      let t = turn k sol count ce st b s in
      rw (finish-step k sol count ce h st b s e) (turns_of-within (2 * length t.rest) t)

  turns_of-add : (n f : ℕ) (st : State) → turns_of k sol count ce (n + f) st ≡ turns_of k sol count ce f (turns_of k sol count ce n st)
  unfolding turns_of
  turns_of-add zero f st = rw (zero-add f)
  turns_of-add (suc n) f st = go (turns_of-add n f) st.rest refl
    where
      go : ((st' : State) → turns_of k sol count ce (n + f) st' ≡ turns_of k sol count ce f (turns_of k sol count ce n st'))
          → (r : List ℕ) → st.rest ≡ r → turns_of k sol count ce (suc n + f) st ≡ turns_of k sol count ce f (turns_of k sol count ce (suc n) st)
      go ih [] e = turns_of-end k sol count ce (suc n + f) st e ∙ sym (turns_of-end k sol count ce f st e) ∙ ap (turns_of k sol count ce f) (sym (turns_of-end k sol count ce (suc n) st e))
      go ih (b ∷ s) e =
          let more : suc n + f ≡ suc (n + f) = omega arith in
          ap (λ (g : ℕ). turns_of k sol count ce g st) more ∙ turns_of-step k sol count ce (n + f) st b s e ∙ ih (turn k sol count ce st b s)
          ∙ ap (turns_of k sol count ce f) (sym (turns_of-step k sol count ce n st b s e))

  -- after a refused attempt the bases that its scan passed are put out
  pub refused-within : (st : State) (b : ℕ) (s : List ℕ) → st.rest ≡ b ∷ s
      → (ask sol (add_base k st.kmer b)).answer ≡ false → st.previous ≡ true → (ce (b ∷ s) (add_base k st.kmer b)).answer ≡ none
      → length st.done.bytes + (error_len k sol (add_base k st.kmer b) (b ∷ s)).index ≤ length (finish k sol count ce st).done.bytes
  unfolding finish error_len
  refused-within st b s e f p a =
      let y : Kmer = add_base k st.kmer b in
      let i : ℕ = (error_len k sol y (b ∷ s)).index in
      let high : i ≤ length (b ∷ s) = omega (arith, (scan-is k sol 0 1 y s).high) in
      let n = 2 * length st.rest in
      let n_is : length st.rest ≡ length (b ∷ s) = ap length e in
      let split : n ≡ i + (n - i) = omega arith in
      let kept = ap length (refused-kept k sol count ce st b s e f p a) ∙ length-append st.done.bytes (take i (b ∷ s)) in
      let taken = length-take-le i (b ∷ s) high in
      let more = (turns_of-within (n - i) (turns_of k sol count ce i st)).bytes in
      rw (split, turns_of-add i (n - i) st) (omega arith)
