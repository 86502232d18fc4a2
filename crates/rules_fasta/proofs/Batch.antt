-- The batch call: what is known of one that is accepted, and when one is.
use Prim.Native.Nat.{ℕ, ◌*◌, ◌-◌, max, ◌≤◌}
use native.Mathlib.Omega.{arith}
use borrow.Author.Tests.{leb-true, le-leb}
use mathlib.Core.Path.{◌≡◌, refl, sym, ap, ◌∙◌}
use mathlib.Core.Bool.{true, ◌&&◌}
use mathlib.Core.Option.{Option, none, some}
use mathlib.Core.List.{List, [], ◌∷◌, ◌++◌}
use lib.ListN.{length, replicate}
use lib.Dec.{leb}
use Rattle.rules.specs.Refusal.{Refusal, accepted, refused, Check, ◌or_else◌, unless}
use Rattle.rules.specs.Set.{KmerSet, set_of, set_check, opened}
use Rattle.rules.specs.Job.{Entry, entries_of, lines}
use Rattle.rules.specs.Report.{Report}
use Rattle.rules.specs.Calls.{Given, After, max_read, max_output, max_work, buffers_right, job_check, batch_right, offer_check, unchanged, no_room, too_long, results, report, correct_batch}
use Rattle.rules_laws.proofs.Opened.{both, passed, unless-passed, passed-15, opened-check}
use Rattle.rules_laws.proofs.Calls.{corrected-full, corrected-fits}
use Rattle.rules_laws.proofs.Upward.{state_check, one, five, six, batch_checks, batch-refused, batch-passed}
use Rattle.rules_fasta.specs.Shares.{given_set}
use Rattle.rules_fasta.proofs.Shares.{Opens}

-- 5 passed: the input is not too long for 1.
pub input-short : (i o w : ℕ) → buffers_right i o w ≡ true → i ≤ max_read
unfolding buffers_right
input-short i o w h =
    let a = both (leb o max_output && leb w max_work) (leb (2 * max o i) w) h in
    let b = both (leb o max_output) (leb w max_work) a.0 in
    let p = leb-true w max_work b.1 in
    let q = leb-true (2 * max o i) w a.1 in
    omega arith

module _ (g : Given) where
  abbrev set : KmerSet
  set = given_set g

  abbrev es : List Entry
  es = entries_of g.job

  abbrev all : List ℕ
  all = results set es (10 ∷ []) (lines g.input)

  -- Every check passed, and every pass result had room.
  pub record Accepted (r : Report) : Type 0 where
    pub job_passed : job_check g.job ≡ none
    pub right_buffers : buffers_right (length g.input) (length g.output) (length g.work) ≡ true
    pub right_batch : batch_right g.input ≡ true
    pub opens : Opens g
    pub fits : too_long set es (10 ∷ []) 0 (length g.output) (lines g.input) ≡ none
    pub reported : r ≡ report set es (10 ∷ []) (lines g.input)
    pub output : (correct_batch g).output ≡ all ++ replicate (length g.output - length all) 0

  pub batch-accepted : (r : Report) → (correct_batch g).answer ≡ accepted r → Accepted r
  unfolding unchanged no_room batch_checks state_check opened given_set
  batch-accepted r a = go (batch_checks g) refl (too_long set es (10 ∷ []) 0 (length g.output) (lines g.input)) refl
    where
      refuted : (q : Refusal) → (correct_batch g).answer ≡ refused q → ⊥
      refuted q e = let s : refused q ≡ accepted r = sym e ∙ a in let z : ◌≡◌ {A = ℕ} 0 1 = cc in omega arith

      go : (c : Check) → batch_checks g ≡ c → (n : Option ℕ) → too_long set es (10 ∷ []) 0 (length g.output) (lines g.input) ≡ n → Accepted r
      go (some q) f n h = absurd (refuted q (ap (λ (t : After). t.answer) (batch-refused g q f)))
      go none f (some i) h =
          absurd (refuted (record { number = 11; place = i })
          (ap (λ (t : After). t.answer) (batch-passed g f ∙ corrected-full set es (10 ∷ []) g (lines g.input) i h)))
      go none f none h =
          let is = batch-passed g f ∙ corrected-fits set es (10 ∷ []) g (lines g.input) h in
          let s : accepted (report set es (10 ∷ []) (lines g.input)) ≡ accepted r = sym (ap (λ (t : After). t.answer) is) ∙ a in
          let p = passed (one g) _ f in
          let j = passed (job_check g.job) _ p.1 in
          let v = passed (five g) _ j.1 in
          let x = passed (six g) _ v.1 in
          let w = passed (set_check g.set) (offer_check (set_of g.set) g.index g.counts) x.1 in
          record {
            job_passed = j.0;
            right_buffers = unless-passed (buffers_right (length g.input) (length g.output) (length g.work)) 5 v.0;
            right_batch = unless-passed (batch_right g.input) 6 x.0;
            opens = record { opens = rw (opened, w.0); index_passes = passed-15 (set_of g.set) g.index g.counts w.1 };
            fits = h;
            reported = cc;
            output = ap (λ (t : After). t.output) is;
          }

  -- All checks pass.
  pub right_batch : buffers_right (length g.input) (length g.output) (length g.work) ≡ true → job_check g.job ≡ none → batch_right g.input ≡ true
      → opened g.set ≡ accepted (set_of g.set) → offer_check (set_of g.set) g.index g.counts ≡ none → batch_checks g ≡ none
  unfolding batch_checks state_check unless ◌or_else◌
  right_batch fine job right opens offers =
      let short : leb (length g.input) max_read ≡ true =
      le-leb (length g.input) max_read (input-short (length g.input) (length g.output) (length g.work) fine) in
      rw (short, job, fine, right, opened-check g.set (set_of g.set) opens, offers)

  -- And every pass result with byte 10 has room.
  pub batch-answers : batch_checks g ≡ none → too_long set es (10 ∷ []) 0 (length g.output) (lines g.input) ≡ none
      → (correct_batch g).answer ≡ accepted (report set es (10 ∷ []) (lines g.input))
  unfolding given_set
  batch-answers f h = ap (λ (t : After). t.answer) (batch-passed g f ∙ corrected-fits set es (10 ∷ []) g (lines g.input) h)
