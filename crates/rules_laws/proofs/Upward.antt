-- Document 01: "checked upward". Checks one behind the other, the numbers that they tell, and all checks of a call before 11 in one row.
use Prim.Native.Nat.{ℕ, ◌*◌, ◌-◌, ◌≤◌}
use native.Mathlib.Omega.{arith}
use borrow.Author.Tests.{leb-true}
use mathlib.Core.Path.{◌≡◌, refl, sym, ap, ◌∙◌}
use mathlib.Core.Bool.{Bool, true, false}
use mathlib.Core.Option.{Option, none, some, some-injective, none-ne-some}
use mathlib.Core.List.{List, [], ◌∷◌}
use lib.ListN.{length}
use lib.Dec.{eqb, leb, ltb}
use Rattle.rules.specs.Refusal.{Refusal, Outcome, accepted, refused, Check, ◌or_else◌, unless, at_place, first_failing}
use Rattle.rules.specs.Set.{KmerSet, offering, set_of, set_check, opened, blocks, length_right, check_right, header_right, key_right}
use Rattle.rules.specs.Index.{index_check}
use Rattle.rules.specs.Job.{known, method_byte, confirm_byte, entry_count, entries_of, Confirmed, lines}
use Rattle.rules.specs.Calls.{Given, After, max_read, max_methods, buffers_right, job_check, input_check, batch_right, given_check, unchanged, no_room, too_long, report, corrected, counts_check, offer_check, call_by, call, correct_batch}
use Rattle.rules_laws.proofs.Opened.{passed, unless-passed, at_none}
use Rattle.rules_laws.proofs.Job.{confirmed}
use Rattle.rules_laws.proofs.Index.{index-refused}
use Rattle.rules_laws.proofs.Calls.{corrected-full, corrected-fits}

-- ---- checks one behind the other

pub or_else-assoc : (a b c : Check) → (a or_else b) or_else c ≡ a or_else (b or_else c)
unfolding ◌or_else◌
or_else-assoc none b c = refl
or_else-assoc (some r) b c = refl

-- Behind the same first check, others that tell the same.
pub behind : (a b c : Check) (r : Refusal) → (b ≡ some r → c ≡ some r) → a or_else b ≡ some r → a or_else c ≡ some r
unfolding ◌or_else◌
behind none b c r h e = h e
behind (some q) b c r h e = e

-- A check tells numbers from lo to hi.
abbrev pub Tells : ℕ → ℕ → Check → Type 0
Tells lo hi c = (r : Refusal) → c ≡ some r → (lo ≤ r.number) × (r.number ≤ hi)

module _ (lo hi : ℕ) where
  pub tells-or : (a b : Check) → Tells lo hi a → Tells lo hi b → Tells lo hi (a or_else b)
  unfolding ◌or_else◌
  tells-or none b h k = k
  tells-or (some q) b h k = h

  pub tells-unless : (t : Bool) (n : ℕ) → lo ≤ n → n ≤ hi → Tells lo hi (unless t n)
  unfolding unless
  tells-unless true n l h r e = absurd (none-ne-some r e)
  tells-unless false n l h r e = let s = ap (λ (q : Refusal). q.number) (some-injective _ r e) in (omega arith, omega arith)

  pub tells-place : (n : ℕ) (p : Option ℕ) → lo ≤ n → n ≤ hi → Tells lo hi (at_place n p)
  unfolding at_place
  tells-place n none l h r e = absurd (none-ne-some r e)
  tells-place n (some i) l h r e = let s = ap (λ (q : Refusal). q.number) (some-injective _ r e) in (omega arith, omega arith)

pub unless-tells : (t : Bool) (n : ℕ) → Tells n n (unless t n)
unless-tells t n = tells-unless n n t n (omega arith) (omega arith)

-- Refused with a number that the first check does not tell: it passed.
pub not_first : (a b : Check) (lo hi : ℕ) (r : Refusal) → Tells lo hi a → (lo ≤ r.number → r.number ≤ hi → ⊥) → a or_else b ≡ some r
    → (a ≡ none) × (b ≡ some r)
unfolding ◌or_else◌
not_first none b lo hi r h out e = (refl, e)
not_first (some q) b lo hi r h out e = let w = h r e in absurd (out w.0 w.1)

-- The job's checks tell 2 to 4, the set's 7 to 10, those of what is offered 15 and 16.
pub job-tells : (job : List ℕ) → Tells 2 4 (job_check job)
unfolding job_check
job-tells job =
    tells-or 2 4 _ _ (tells-unless 2 4 (leb (entry_count job) max_methods) 2 (omega arith) (omega arith))
    (tells-or 2 4 _ _ (tells-place 2 4 3 (first_failing (λ i. known (method_byte job i)) 0 (entry_count job)) (omega arith) (omega arith))
    (tells-place 2 4 4 (first_failing (λ i. ltb 0 (confirm_byte job i)) 0 (entry_count job)) (omega arith) (omega arith)))

pub set_tells : (bytes : List ℕ) → Tells 7 10 (set_check bytes)
unfolding set_check
set_tells bytes =
    tells-or 7 10 _ _ (tells-unless 7 10 (length_right bytes) 7 (omega arith) (omega arith))
    (tells-or 7 10 _ _ (tells-place 7 10 8 (first_failing (check_right bytes) 0 (blocks bytes)) (omega arith) (omega arith))
    (tells-or 7 10 _ _ (tells-unless 7 10 (header_right bytes) 9 (omega arith) (omega arith))
    (tells-place 7 10 10 (first_failing (key_right bytes) 0 (63 * (blocks bytes - 1))) (omega arith) (omega arith))))

pub offer-tells : (set : KmerSet) (index counts : List ℕ) → Tells 15 16 (offer_check set index counts)
unfolding offer_check counts_check
offer-tells set index counts = tells-or 15 16 (index_check set index) (counts_check set counts) of-index (of-counts counts)
  where
    of-index : Tells 15 16 (index_check set index)
    of-index r e = let s = ap (λ (q : Refusal). q.number) (index-refused set index r e) in (omega arith, omega arith)

    of-counts : (cs : List ℕ) → Tells 15 16 (counts_check set cs)
    of-counts [] r e = absurd (none-ne-some r e)
    of-counts (c ∷ cs) r e = tells-unless 15 16 (eqb (length (c ∷ cs)) (length set.keys)) 16 (omega arith) (omega arith) r e

-- The job's checks passed: no more than 8 entries, each with a confirm from 1.
pub job-right : (job : List ℕ) → job_check job ≡ none → (entry_count job ≤ max_methods) × Confirmed (entries_of job)
unfolding job_check
job-right job h =
    let two : Check = unless (leb (entry_count job) max_methods) 2 in
    let three : Check = at_place 3 (first_failing (λ i. known (method_byte job i)) 0 (entry_count job)) in
    let confirms : Option ℕ = first_failing (λ i. ltb 0 (confirm_byte job i)) 0 (entry_count job) in
    let a = passed two (three or_else at_place 4 confirms) h in
    let b = passed three (at_place 4 confirms) a.1 in (
      leb-true (entry_count job) max_methods (unless-passed (leb (entry_count job) max_methods) 2 a.0),
      confirmed job (at_none 4 confirms b.1),
    )

-- ---- all checks before 11 in one row

-- What comes behind the checks of the input: the set's, then those of what is offered with it.
unfoldable pub state_check : List ℕ → List ℕ → List ℕ → Check
state_check bytes index counts = set_check bytes or_else offer_check (set_of bytes) index counts

-- Any call: the first check that refuses, or what it does with the opened set.
pub in-one-row : {A : Type 0} (decline : Refusal → A) (go_on : KmerSet → A) (check : Check) (bytes index counts : List ℕ)
    → ◌≡◌ {A = A} (elim check [
      | some r ↦ decline r
      | none ↦ elim (opened bytes) [
        | refused r ↦ decline r
        | accepted set ↦ elim (offer_check set index counts) [ some r ↦ decline r | none ↦ go_on set ]
      ]
    ]) (elim (check or_else state_check bytes index counts) [ some r ↦ decline r | none ↦ go_on (set_of bytes) ])
unfolding opened state_check ◌or_else◌
in-one-row decline go_on (some r) bytes index counts = refl
in-one-row {A} decline go_on none bytes index counts = go (set_check bytes)
  where
    go : (c : Check)
        → ◌≡◌ {A = A} (let o : Outcome KmerSet = elim c [ none ↦ accepted (set_of bytes) | some r ↦ refused r ] in
        elim o [
          | refused r ↦ decline r
          | accepted set ↦ elim (offer_check set index counts) [ some r ↦ decline r | none ↦ go_on set ]
        ]) (elim (c or_else offer_check (set_of bytes) index counts) [ some r ↦ decline r | none ↦ go_on (set_of bytes) ])
    go none = refl
    go (some r) = refl

-- ---- the batch call

-- Checks 1, 5 and 6, which look at the input and the buffers.
abbrev pub one : Given → Check
one g = unless (leb (length g.input) max_read) 1

abbrev pub five : Given → Check
five g = unless (buffers_right (length g.input) (length g.output) (length g.work)) 5

abbrev pub six : Given → Check
six g = unless (batch_right g.input) 6

-- Checks 7 to 10, 15 and 16.
abbrev pub state : Given → Check
state g = state_check g.set g.index g.counts

-- All its checks before 11, in their order.
unfoldable pub batch_checks : Given → Check
batch_checks g = one g or_else (job_check g.job or_else (five g or_else (six g or_else state g)))

module _ (g : Given) where
  abbrev given-set : KmerSet
  given-set = offering g.index g.counts (set_of g.set)

  abbrev all_lines : After
  all_lines = corrected given-set (entries_of g.job) (10 ∷ []) g (lines g.input)

  pub batch-in-one-row : correct_batch g ≡ elim (batch_checks g) [ some r ↦ unchanged g r | none ↦ all_lines ]
  unfolding correct_batch call call_by given_check input_check batch_checks
  batch-in-one-row =
      let flat : (given_check g or_else six g) or_else state g ≡ batch_checks g = simp or_else-assoc in
      in-one-row (unchanged g) (λ set. corrected (offering g.index g.counts set) (entries_of g.job) (10 ∷ []) g (lines g.input))
      (given_check g or_else six g) g.set g.index g.counts
      ∙ ap (λ (c : Check). elim c [ some r ↦ unchanged g r | none ↦ all_lines ]) flat

  pub batch-refused : (r : Refusal) → batch_checks g ≡ some r → correct_batch g ≡ unchanged g r
  batch-refused r e = batch-in-one-row ∙ rw e

  pub batch-passed : batch_checks g ≡ none → correct_batch g ≡ all_lines
  batch-passed e = batch-in-one-row ∙ rw e

  -- Refused with another number than 11: by one of these checks.
  pub batch-refused-by : (r : Refusal) → (correct_batch g).answer ≡ refused r → (r.number ≡ 11 → ⊥) → batch_checks g ≡ some r
  unfolding unchanged no_room
  batch-refused-by r e n = go (batch_checks g) refl (too_long given-set (entries_of g.job) (10 ∷ []) 0 (length g.output) (lines g.input)) refl
    where
      go : (c : Check) → batch_checks g ≡ c → (t : Option ℕ) → too_long given-set (entries_of g.job) (10 ∷ []) 0 (length g.output) (lines g.input) ≡ t
          → batch_checks g ≡ some r
      go (some q) f t h =
          let s : refused q ≡ refused r = sym (ap (λ (a : After). a.answer) (batch-refused q f)) ∙ e in
          let same : q ≡ r = cc in
          f ∙ ap some same
      go none f (some line) h =
          let s : refused (record { number = 11; place = line }) ≡ refused r =
          sym (ap (λ (a : After). a.answer) (batch-passed f ∙ corrected-full given-set (entries_of g.job) (10 ∷ []) g (lines g.input) line h)) ∙ e in
          let same : record { number = 11; place = line } ≡ r = cc in
          absurd (n (sym (ap (λ (q : Refusal). q.number) same)))
      go none f none h =
          let s : accepted (report given-set (entries_of g.job) (10 ∷ []) (lines g.input)) ≡ refused r =
          sym (ap (λ (a : After). a.answer) (batch-passed f ∙ corrected-fits given-set (entries_of g.job) (10 ∷ []) g (lines g.input) h)) ∙ e in
          absurd (let z : ◌≡◌ {A = ℕ} 0 1 = cc in omega arith)
