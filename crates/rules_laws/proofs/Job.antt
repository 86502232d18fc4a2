-- What is known of a job: its entries, and that a job which is not refused with 4 has only confirms from 1.
use Prim.Native.Nat.{ℕ, zero, suc, ◌+◌, ◌≤◌, ◌<◌}
use native.Mathlib.Omega.{arith}
use borrow.Author.Tests.{ltb-true, eqb-true, eqb-false}
use mathlib.Core.Path.{◌≡◌, refl, subst}
use mathlib.Core.Bool.{Bool, true, false}
use mathlib.Core.Option.{none}
use mathlib.Core.List.{List, [], ◌∷◌, ◌++◌}
use lib.ListN.{length}
use lib.Dec.{ltb, eqb}
use Rattle.rules.specs.Refusal.{first_failing}
use Rattle.rules.specs.Set.{KmerSet}
use Rattle.rules.specs.Graph.{All, end, also}
use Rattle.rules.specs.Job.{Entry, entry, confirm_byte, entry_count, entries_from, entries_of, Confirmed, pass}
use Rattle.rules.specs.Counts.{Fed, passes_of, all_passes}

entries_from-length : (job : List ℕ) (i m : ℕ) → length (entries_from job i m) ≡ m
unfolding entries_from
entries_from-length job i zero = refl
entries_from-length job i (suc m) = rw (entries_from-length job (suc i) m)

-- 2 counts entries.
pub entries_of-length : (job : List ℕ) → length (entries_of job) ≡ entry_count job
unfolding entries_of
entries_of-length job = entries_from-length job 0 (entry_count job)

confirmed-from : (job : List ℕ) (i m : ℕ) → first_failing (λ j. ltb 0 (confirm_byte job j)) i m ≡ none → Confirmed (entries_from job i m)
unfolding first_failing entries_from entry
confirmed-from job i zero h = end
confirmed-from job i (suc m) h = go (confirmed-from job (suc i) m) (ltb 0 (confirm_byte job i)) refl
  where
    go : (first_failing (λ j. ltb 0 (confirm_byte job j)) (suc i) m ≡ none → Confirmed (entries_from job (suc i) m))
        → (b : Bool) → ltb 0 (confirm_byte job i) ≡ b → Confirmed (entries_from job i (suc m))
    go ih true e = also (ltb-true 0 (confirm_byte job i) e) (ih (rw (e, first_failing) at h))
    go ih false e = absurd (let f = rw (e, first_failing) at h in let z : ◌≡◌ {A = ℕ} 0 1 = cc in omega arith)

-- A job that passes 4 is confirmed.
pub confirmed : (job : List ℕ) → first_failing (λ i. ltb 0 (confirm_byte job i)) 0 (entry_count job) ≡ none → Confirmed (entries_of job)
unfolding entries_of
confirmed job h = confirmed-from job 0 (entry_count job) h

confirmed-at : (job : List ℕ) (i m j : ℕ) → Confirmed (entries_from job i m) → i ≤ j → j < i + m → 1 ≤ confirm_byte job j
unfolding entries_from entry
confirmed-at job i zero j a low high = absurd (omega arith)
confirmed-at job i (suc m) j (also p a) low high = go (confirmed-at job (suc i) m j a) (eqb i j) refl
  where
    go : (suc i ≤ j → j < suc i + m → 1 ≤ confirm_byte job j) → (b : Bool) → eqb i j ≡ b → 1 ≤ confirm_byte job j
    go ih true e = subst (λ (x : ℕ). 1 ≤ confirm_byte job x) (eqb-true i j e) p
    go ih false e = let apart = eqb-false i j e in ih (omega arith) (omega arith)

-- Each entry of a confirmed job has a confirm from 1.
pub confirmed-entry : (job : List ℕ) (i : ℕ) → Confirmed (entries_of job) → i < entry_count job → 1 ≤ confirm_byte job i
unfolding entries_of
confirmed-entry job i a h = confirmed-at job 0 (entry_count job) i a (omega arith) (omega arith)

pub all_append : {A : Type 0} (P : A → Type 0) {xs ys : List A} → All P xs → All P ys → All P (xs ++ ys)
all_append P end b = b
all_append P (also p a) b = also p (all_append P a b)

passes-confirmed : (set : KmerSet) (es : List Entry) → Confirmed es → (read : List ℕ) → All (λ (p : Fed). 1 ≤ p.entry.confirm) (passes_of set es read)
unfolding passes_of
passes-confirmed set [] end read = end
passes-confirmed set (e ∷ es) (also p a) read = also p (passes-confirmed set es a (pass set e read).bytes)

-- Every pass carries an entry of the job.
pub all-confirmed : (set : KmerSet) (es : List Entry) → Confirmed es → (reads : List (List ℕ))
    → All (λ (p : Fed). 1 ≤ p.entry.confirm) (all_passes set es reads)
unfolding all_passes
all-confirmed set es a [] = end
all-confirmed set es a (read ∷ reads) =
    all_append (λ (p : Fed). 1 ≤ p.entry.confirm) (passes-confirmed set es a read) (all-confirmed set es a reads)
