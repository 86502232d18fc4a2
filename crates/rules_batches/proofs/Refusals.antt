-- Document 02, W14: only the conditions of refusals 1, 5, 6 and 11 may turn on the other lines.
use Prim.Native.Nat.{ℕ, ◌≤◌}
use native.Mathlib.Omega.{arith}
use borrow.Author.Tests.{lt-ltb}
use mathlib.Core.Path.{◌≡◌, refl, sym, ap, ap₂, ◌∙◌}
use mathlib.Core.Bool.{Bool, true, false, false≢true}
use mathlib.Core.Option.{none, some}
use mathlib.Core.List.{List}
use lib.ListN.{length}
use lib.Dec.{eqb, leb}
use Rattle.rules.specs.Refusal.{Refusal, Outcome, accepted, refused, Check, ◌or_else◌}
use Rattle.rules.specs.Set.{set_of, set_check, opened}
use Rattle.rules.specs.Report.{Report}
use Rattle.rules.specs.Calls.{Given, After, max_read, buffers_right, job_check, batch_right, offer_check, unchanged, correct_batch}
use Rattle.rules_laws.proofs.Upward.{Tells, tells-or, unless-tells, not_first, job-tells, set_tells, offer-tells, behind, state_check, one, five, six, state, batch_checks, batch-refused, batch-refused-by}
use Rattle.rules_fasta.specs.Shares.{SameJob}
use Rattle.rules_batches.specs.Batches.{on_lines, before, SameOffer, SameChecks, RefusedAlike, alike, sooner, Agree, both-accepted, both-refused}

-- ---- the checks of one call

-- A check tells r, or something that is checked before it.
data Ahead (c : Check) (r : Refusal) : Type 0 where
  told : c ≡ some r → Ahead c r
  ahead : (s : Refusal) → c ≡ some s → before s.number r.number ≡ true → Ahead c r

-- Behind a check that tells number n alone, which is one of 1, 5 and 6 and checked before r.
past : (a b : Check) (n : ℕ) (r : Refusal) → Tells n n a → before n r.number ≡ true → Ahead b r → Ahead (a or_else b) r
unfolding ◌or_else◌
past none b n r t h k = k
past (some s) b n r t h k =
    let w = t s refl in
    let e : s.number ≡ n = omega arith in
    ahead s refl (ap (λ (m : ℕ). before m r.number) e ∙ h)

before-1 : (r : Refusal) → 2 ≤ r.number → before 1 r.number ≡ true
unfolding before
before-1 r l = lt-ltb 1 r.number (omega arith)

before-5 : (r : Refusal) → 7 ≤ r.number → before 5 r.number ≡ true
unfolding before
before-5 r l = lt-ltb 5 r.number (omega arith)

before-6 : (r : Refusal) → 7 ≤ r.number → before 6 r.number ≡ true
unfolding before
before-6 r l = lt-ltb 6 r.number (omega arith)

-- Checks 1, 5 and 6 tell their numbers.
one-tells : (h : Given) → Tells 1 1 (one h)
one-tells h = unless-tells (leb (length h.input) max_read) 1

five-tells : (h : Given) → Tells 5 5 (five h)
five-tells h = unless-tells (buffers_right (length h.input) (length h.output) (length h.work)) 5

six-tells : (h : Given) → Tells 6 6 (six h)
six-tells h = unless-tells (batch_right h.input) 6

state-tells : (g : Given) → Tells 7 16 (state g)
unfolding state_check
state-tells g =
    tells-or 7 16 (set_check g.set) (offer_check (set_of g.set) g.index g.counts) (λ r e. let w = set_tells g.set r e in (omega arith, omega arith))
    (λ r e. let w = offer-tells (set_of g.set) g.index g.counts r e in (omega arith, omega arith))

-- A number that turns on no line is none of 1, 5, 6 and 11.
record Other (n : ℕ) : Type 0 where
  not_1 : n ≡ 1 → ⊥
  not_5 : n ≡ 5 → ⊥
  not_6 : n ≡ 6 → ⊥
  not_11 : n ≡ 11 → ⊥

other : (n : ℕ) → on_lines n ≡ false → Other n
unfolding on_lines
other n h =
    record {
      not_1 = λ e. false≢true (sym h ∙ ap on_lines e);
      not_5 = λ e. false≢true (sym h ∙ ap on_lines e);
      not_6 = λ e. false≢true (sym h ∙ ap on_lines e);
      not_11 = λ e. false≢true (sym h ∙ ap on_lines e);
    }

-- ---- two calls with the same set and job

module _ (g h : Given) (same : SameJob g h) where
  -- The conditions themselves are the same: 2 to 4, 7 to 10 and, where the same is offered, 15 and 16.
  pub same-checks : SameChecks g h
  same-checks =
      record {
        job = ap job_check same.job;
        set = ap opened same.set;
        offer = λ o s. ap₂ (offer_check s) o.index o.counts;
      }

  -- What is told behind 6 is told of the other too, for 15 and 16 if it offers the same.
  state-same : (r : Refusal) → (15 ≤ r.number → SameOffer g h) → state g ≡ some r → state h ≡ some r
  unfolding state_check
  state-same r w e =
      ap (λ (s : List ℕ). state_check s h.index h.counts) (sym same.set)
      ∙ behind (set_check g.set) (offer_check (set_of g.set) g.index g.counts) (offer_check (set_of g.set) h.index h.counts) r
      (λ f. let o = w (offer-tells (set_of g.set) g.index g.counts r f).0 in sym (same-checks.offer o (set_of g.set)) ∙ f) e

  -- In the other call the same is told, or one of 1, 5 and 6 before it.
  ahead_of : (r : Refusal) → on_lines r.number ≡ false → (15 ≤ r.number → SameOffer g h) → batch_checks g ≡ some r → Ahead (batch_checks h) r
  unfolding batch_checks ◌or_else◌
  ahead_of r n w e = go (job_check g.job) refl
    where
      o : Other r.number
      o = other r.number n

      from-job : job_check g.job or_else (five g or_else (six g or_else state g)) ≡ some r
      from-job = (not_first (one g) (job_check g.job or_else (five g or_else (six g or_else state g))) 1 1 r (one-tells g) (λ l m. o.not_1 (omega arith)) e).1

      go : (c : Check) → job_check g.job ≡ c → Ahead (batch_checks h) r
      go (some q) f =
          let is : some q ≡ some r = rw f at from-job in
          let job-told : job_check g.job ≡ some r = f ∙ is in
          let there : job_check h.job ≡ some r = ap job_check (sym same.job) ∙ job-told in
          let l = (job-tells g.job r job-told).0 in
          past (one h) (job_check h.job or_else (five h or_else (six h or_else state h))) 1 r (one-tells h) (before-1 r (omega arith)) (told (rw there))
      go none f =
          let from-five : five g or_else (six g or_else state g) ≡ some r = rw f at from-job in
          let from-six = (not_first (five g) (six g or_else state g) 5 5 r (five-tells g) (λ l m. o.not_5 (omega arith)) from-five).1 in
          let from-state = (not_first (six g) (state g) 6 6 r (six-tells g) (λ l m. o.not_6 (omega arith)) from-six).1 in
          let l = (state-tells g r from-state).0 in
          let there : job_check h.job ≡ none = ap job_check (sym same.job) ∙ f in
          past (one h) (job_check h.job or_else (five h or_else (six h or_else state h))) 1 r (one-tells h) (before-1 r (omega arith))
          (rw there
          (past (five h) (six h or_else state h) 5 r (five-tells h) (before-5 r l)
          (past (six h) (state h) 6 r (six-tells h) (before-6 r l) (told (state-same r w from-state)))))

  -- Where one call is refused with another number than 1, 5, 6 and 11, the other is refused with the same number and place, or with one of 1, 5 and 6
  -- that is checked before it. For 15 and 16 both offer the same.
  pub refused-alike : (r : Refusal) → (correct_batch g).answer ≡ refused r → on_lines r.number ≡ false → (15 ≤ r.number → SameOffer g h) → RefusedAlike h r
  unfolding unchanged
  refused-alike r a n w = go (ahead_of r n w (batch-refused-by g r a (other r.number n).not_11))
    where
      go : Ahead (batch_checks h) r → RefusedAlike h r
      go (told e) = alike (ap (λ (t : After). t.answer) (batch-refused h r e))
      go (ahead s e b) = sooner s (ap (λ (t : After). t.answer) (batch-refused h s e)) b

  -- So it is never accepted.
  pub not-accepted : (r : Refusal) → (correct_batch g).answer ≡ refused r → on_lines r.number ≡ false → (15 ≤ r.number → SameOffer g h)
      → (q : Report) → (correct_batch h).answer ≡ accepted q → ⊥
  not-accepted r a n w q b = go (refused-alike r a n w)
    where
      clash : (s : Refusal) → (correct_batch h).answer ≡ refused s → ⊥
      clash s c = let e : refused s ≡ accepted q = sym c ∙ b in let z : ◌≡◌ {A = ℕ} 0 1 = cc in omega arith

      go : RefusedAlike h r → ⊥
      go (alike c) = clash r c
      go (sooner s c t) = clash s c

-- ---- two calls that meet none of 1, 5, 6 and 11

-- A call meets none of these conditions.
abbrev pub Clear : Given → Type 0
Clear g = (r : Refusal) → (correct_batch g).answer ≡ refused r → on_lines r.number ≡ false

-- One that is checked before another is one of them.
before-on-lines : (s n : ℕ) → before s n ≡ true → on_lines s ≡ false → ⊥
unfolding before on_lines
before-on-lines s n t f = go (eqb s 1) refl (eqb s 5) refl (eqb s 6) refl
  where
    go : (x : Bool) → eqb s 1 ≡ x → (y : Bool) → eqb s 5 ≡ y → (z : Bool) → eqb s 6 ≡ z → ⊥
    go true e y p z q = false≢true (sym (rw e at f))
    go false e true p z q = false≢true (sym (rw (e, p) at f))
    go false e false p true q = false≢true (sym (rw (e, p, q) at f))
    go false e false p false q = false≢true (rw (e, p, q) at t)

-- Both are accepted, or refused with the same number and place.
pub agree : (g h : Given) → SameJob g h → SameOffer g h → Clear g → Clear h → Agree g h
agree g h same offer u v = go (correct_batch g).answer refl (correct_batch h).answer refl
  where
    back : SameJob h g
    back = record { set = sym same.set; job = sym same.job }

    back-offer : SameOffer h g
    back-offer = record { index = sym offer.index; counts = sym offer.counts }

    from : (y : Given) (r : Refusal) → Clear y → RefusedAlike y r → (correct_batch y).answer ≡ refused r
    from y r w (alike a) = a
    from y r w (sooner s a t) = absurd (before-on-lines s.number r.number t (w s a))

    go : (a : Outcome Report) → (correct_batch g).answer ≡ a → (b : Outcome Report) → (correct_batch h).answer ≡ b → Agree g h
    go (refused r) a b f = both-refused r a (from h r v (refused-alike g h same r a (u r a) (λ l. offer)))
    go (accepted r) a (refused q) f = both-refused q (from g q u (refused-alike h g back q f (v q f) (λ l. back-offer))) f
    go (accepted r) a (accepted q) f = both-accepted r q a f
