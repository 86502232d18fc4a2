-- Document 02, W9: what the real call does with an output of any length, the refusals of both, demand 3, and the work buffer.
use Prim.Native.Nat.{ℕ, suc, ◌+◌, ◌-◌, ◌≤◌, ◌<◌}
use native.Mathlib.Omega.{arith}
use native.Mathlib.Decide.{dec_le}
use borrow.Author.Tests.{eqb-true, leb-true}
use mathlib.Core.Path.{◌≡◌, refl, sym, ap, ◌∙◌}
use mathlib.Core.Bool.{Bool, true, false}
use mathlib.Core.Option.{none, some}
use mathlib.Core.List.{List, [], ◌∷◌, ◌++◌}
use lib.ListN.{length, take, replicate, length-append}
use lib.Dec.{eqb, leb}
use Rattle.rules.specs.Refusal.{Refusal, accepted, refused, Check, ◌or_else◌, unless}
use Rattle.rules.specs.Set.{KmerSet, offering, set_of, set_check, opened}
use Rattle.rules.specs.Index.{index_check}
use Rattle.rules.specs.Job.{Entry, entry_count, entries_of, Confirmed, lines_from, lines, result}
use Rattle.rules.specs.Report.{Report}
use Rattle.rules.specs.Counts.{sum, passes_of, all_passes, lookups}
use Rattle.rules_ceiling.specs.Ceiling.{Demand3}
use Rattle.rules.specs.Calls.{Given, After, max_read, buffers_right, job_check, batch_right, unchanged, no_room, longest, too_long, results, report, corrected, offer_check, correct_batch}
use Rattle.rules_needs.specs.Needs.{Asked, Needs, Told, needs_check, asked_check, declined, needed_for, needs_by, needs, real, bytes_up_to, Answers, enough, short, Declines, alike, with-17, with-5}
use Rattle.rules_laws.proofs.Opened.{passed, unless-passed, passed-15, opened-check, opened-pos}
use Rattle.rules_laws.proofs.Job.{entries_of-length}
use Rattle.rules_laws.proofs.Offered.{same-report as same-indexed}
use Rattle.rules_laws.proofs.Told.{unsupported, same-report as same-counted}
use Rattle.rules_ceiling.proofs.Demands.{ceilings}
use Rattle.rules_laws.proofs.Calls.{sum_first, too-long-here, too-long-later, corrected-full, corrected-fits}
use Rattle.rules_laws.proofs.Upward.{or_else-assoc, behind, Tells, tells-or, tells-unless, unless-tells, not_first, job-tells, set_tells, offer-tells, job-right, state_check, in-one-row, batch_checks, batch-refused, batch-passed, batch-refused-by}
use Rattle.rules_laws.proofs.Growth.{pass-within}

-- ---- one entry: the only pass result is the line's result, so 11 turns on the bytes alone

module _ (set : KmerSet) (es : List Entry) where
  results-length : (ending read : List ℕ) (reads : List (List ℕ))
      → length (results set es ending (read ∷ reads)) ≡ length (result set es read) + length ending + length (results set es ending reads)
  unfolding results
  results-length ending read reads =
      omega (arith, length-append (result set es read) (ending ++ results set es ending reads), length-append ending (results set es ending reads))

  module _ (one_entry : length es ≡ 1) where
    only-result : (read : List ℕ) → longest set es read ≡ length (result set es read)
    unfolding longest result
    only-result read = go es one_entry
      where
        go : (es' : List Entry) → length es' ≡ 1 → longest set es' read ≡ length (result set es' read)
        go [] e = absurd (omega arith)
        go (x ∷ []) e = omega arith
        go (x ∷ x' ∷ es') e = absurd (omega arith)

    module _ (ending : List ℕ) where
      -- All fits where the output holds the sum.
      sum_fits : (i left : ℕ) (reads : List (List ℕ)) → length (results set es ending reads) ≤ left → too_long set es ending i left reads ≡ none
      unfolding too_long
      sum_fits i left [] h = refl
      sum_fits i left (read ∷ reads) h =
          let e = only-result read in
          let l = results-length ending read reads in
          too-long-later set es ending i left read reads (omega arith)
          ∙ sum_fits (suc i) (left - (length (result set es read) + length ending)) reads (omega arith)

      -- Else 11 at the first line that no longer fits behind those before it.
      record Short (i left : ℕ) (reads : List (List ℕ)) : Type 0 where
        at : ℕ
        is : too_long set es ending i left reads ≡ some (i + at)
        held : length (results set es ending (take at reads)) ≤ left
        not_held : left < length (results set es ending (take (suc at) reads))

      sum-short : (i left : ℕ) (reads : List (List ℕ)) → left < length (results set es ending reads) → Short i left reads
      unfolding results
      sum-short i left [] h = absurd (omega arith)
      sum-short i left (read ∷ reads) h = elim (dec_le (longest set es read + length ending) left) [
        | yes le ↦ on le (sum-short (suc i) (left - (length (result set es read) + length ending)) reads (omega (arith, e, results-length ending read reads)))
        | no gt ↦ here (omega arith)
      ]
        where
          e : longest set es read ≡ length (result set es read)
          e = only-result read

          here : left < longest set es read + length ending → Short i left (read ∷ reads)
          here lt =
              record {
                at = 0;
                is = too-long-here set es ending i left read reads lt ∙ ap some (omega arith);
                held = omega arith;
                not_held = omega (arith, e, results-length ending read (take 0 reads));
              }

          on : longest set es read + length ending ≤ left → Short (suc i) (left - (length (result set es read) + length ending)) reads
              → Short i left (read ∷ reads)
          on le s =
              record {
                at = suc s.at;
                is = too-long-later set es ending i left read reads le ∙ s.is ∙ ap some (omega arith);
                held = omega (arith, e, results-length ending read (take s.at reads), s.held);
                not_held = omega (arith, e, results-length ending read (take (suc s.at) reads), s.not_held);
              }

-- ---- the bytes are at most the batch and a byte for each lookup

-- Lines with their ends.
weight : List (List ℕ) → ℕ
weight [] = 0
weight (l ∷ ls) = length l + 1 + weight ls

lines-weight : (line bytes : List ℕ) → weight (lines_from line bytes) ≤ length line + length bytes
unfolding lines_from weight
lines-weight line [] = omega arith
lines-weight line (b ∷ bs) = go (eqb b 10) (lines-weight [] bs) (lines-weight (line ++ (b ∷ [])) bs)
  where
    go : (t : Bool) → weight (lines_from [] bs) ≤ length {A = ℕ} [] + length bs
        → weight (lines_from (line ++ (b ∷ [])) bs) ≤ length (line ++ (b ∷ [])) + length bs
        → weight (elim t [ true ↦ line ∷ lines_from [] bs | false ↦ lines_from (line ++ (b ∷ [])) bs ]) ≤ length line + length (b ∷ bs)
    go true i j = omega arith
    go false i j = omega (arith, length-append line (b ∷ []))

results-within : (set : KmerSet) → 1 ≤ set.k → (es : List Entry) → length es ≡ 1 → (reads : List (List ℕ))
    → length (results set es (10 ∷ []) reads) ≤ weight reads + sum (lookups set) (all_passes set es reads)
unfolding weight results result sum all_passes passes_of lookups
results-within set pos es e [] = omega arith
results-within set pos es e (read ∷ reads) =
    omega (
      arith,
      results-length set es (10 ∷ []) read reads,
      results-within set pos es e reads,
      sum_first set es (lookups set) read reads,
      one-within es e,
    )
  where
    one-within : (es' : List Entry) → length es' ≡ 1 → length (result set es' read) ≤ length read + sum (lookups set) (passes_of set es' read)
    one-within [] e' = absurd (omega arith)
    one-within (x ∷ []) e' = omega (arith, pass-within set pos x read)
    one-within (x ∷ x' ∷ es') e' = absurd (omega arith)

-- ---- what is offered changes no number

-- With an index that passes 15, and whatever counts.
pub needed-any : (bytes : List ℕ) (set : KmerSet) → opened bytes ≡ accepted set → (index counts : List ℕ) → index_check set index ≡ none
    → (es : List Entry) (reads : List (List ℕ)) → needed_for (offering index counts set) es reads ≡ needed_for (offering [] [] set) es reads
unfolding needed_for unsupported
needed-any bytes set o index counts i es reads =
    let numbers : Report → Needs = λ r. record { bytes = r.written; turns = r.turns; lookups = r.lookups } in
    ap numbers (same-indexed bytes set o index counts i es (10 ∷ []) reads) ∙ ap numbers (same-counted set [] counts es (10 ∷ []) reads)

-- ---- the call, by what its checks say

-- What checks 1 to 5 leave: a batch within 01's limit, one entry with a confirm from 1, and a work buffer as long as the batch.
pub needs-right : (batch : ℕ) (bytes : List ℕ) (work : ℕ) → needs_check batch bytes work ≡ none
    → (batch ≤ max_read) × (entry_count bytes ≡ 1) × Confirmed (entries_of bytes) × (batch ≤ work)
unfolding needs_check
needs-right batch bytes work h =
    let one : Check = unless (leb batch max_read) 1 in
    let seventeen : Check = unless (eqb (entry_count bytes) 1) 17 in
    let five : Check = unless (leb batch work) 5 in
    let p = passed one (job_check bytes or_else (seventeen or_else five)) h in
    let q = passed (job_check bytes) (seventeen or_else five) p.1 in
    let r = passed seventeen five q.1 in (
      leb-true batch max_read (unless-passed (leb batch max_read) 1 p.0),
      eqb-true (entry_count bytes) 1 (unless-passed (eqb (entry_count bytes) 1) 17 r.0),
      (job-right bytes q.0).1,
      leb-true batch work (unless-passed (leb batch work) 5 r.1),
    )

module _ (a : Asked) where
  abbrev file : KmerSet
  file = set_of a.set

  abbrev es : List Entry
  es = entries_of a.job

  abbrev ls : List (List ℕ)
  ls = lines a.batch

  -- The set with what is offered.
  abbrev with-offer : KmerSet
  with-offer = offering a.index a.counts file

  pub needs-checked : (r : Refusal) → asked_check a ≡ some r → needs a ≡ declined a r
  unfolding needs
  needs-checked r e = rw (needs_by, e)

  pub needs-not-opened : (r : Refusal) → asked_check a ≡ none → opened a.set ≡ refused r → needs a ≡ declined a r
  unfolding needs
  needs-not-opened r e o = rw (needs_by, e, o)

  module _ (set : KmerSet) (e : asked_check a ≡ none) (o : opened a.set ≡ accepted set) where
    pub needs-offer-wrong : (r : Refusal) → offer_check set a.index a.counts ≡ some r → needs a ≡ declined a r
    unfolding needs
    needs-offer-wrong r d = rw (needs_by, e, o, d)

    -- With an index that passes 15 and counts that pass 16 the numbers are those without.
    pub needs-opened : offer_check set a.index a.counts ≡ none
        → needs a ≡ record { answer = accepted (needed_for (offering [] [] set) es ls); work = replicate (length a.work) 0 }
    unfolding needs
    needs-opened d =
        rw (needs_by, e, o, d)
        (ap (λ (n : Needs). record { answer = accepted n; work = replicate (length a.work) 0 })
        (needed-any a.set set o a.index a.counts (passed-15 set a.index a.counts d) es ls))

  -- ---- all checks in one row

  abbrev first : Check
  first = unless (leb (length a.batch) max_read) 1

  abbrev job : Check
  job = job_check a.job

  abbrev seventeen : Check
  seventeen = unless (eqb (entry_count a.job) 1) 17

  abbrev own-five : Check
  own-five = unless (leb (length a.batch) (length a.work)) 5

  abbrev six : Check
  six = unless (batch_right a.batch) 6

  abbrev state : Check
  state = state_check a.set a.index a.counts

  -- 1, 2 to 4, 17, 5, 6, 7 to 10, 15, 16.
  unfoldable pub all_checks : Check
  all_checks = first or_else (job or_else (seventeen or_else (own-five or_else (six or_else state))))

  abbrev given-needs : Needs
  given-needs = needed_for with-offer es ls

  needs-in-one-row : needs a
      ≡ elim all_checks [ some r ↦ declined a r | none ↦ record { answer = accepted given-needs; work = replicate (length a.work) 0 } ]
  unfolding needs needs_by asked_check needs_check all_checks
  needs-in-one-row =
      let flat : asked_check a or_else state ≡ all_checks = simp or_else-assoc in
      in-one-row (declined a) (λ set. record { answer = accepted (needed_for (offering a.index a.counts set) es ls); work = replicate (length a.work) 0 })
      (asked_check a) a.set a.index a.counts
      ∙ ap (λ (c : Check). elim c [ some r ↦ declined a r | none ↦ record { answer = accepted given-needs; work = replicate (length a.work) 0 } ]) flat

  refused-at : (r : Refusal) → all_checks ≡ some r → needs a ≡ declined a r
  refused-at r e = needs-in-one-row ∙ rw e

  all-passed : all_checks ≡ none → needs a ≡ record { answer = accepted given-needs; work = replicate (length a.work) 0 }
  all-passed e = needs-in-one-row ∙ rw e

  -- ---- what an answer says

  refused-by : (r : Refusal) → (needs a).answer ≡ refused r → all_checks ≡ some r
  unfolding declined
  refused-by r e = go all_checks refl
    where
      go : (c : Check) → all_checks ≡ c → c ≡ some r
      go (some q) f =
          let s : refused q ≡ refused r = sym (ap (λ (t : Told). t.answer) (refused-at q f)) ∙ e in
          let same : q ≡ r = cc in
          ap some same
      go none f =
          let s : accepted given-needs ≡ refused r = sym (ap (λ (t : Told). t.answer) (all-passed f)) ∙ e in
          absurd (let z : ◌≡◌ {A = ℕ} 0 1 = cc in omega arith)

  -- Accepted: every check passed.
  pub record Accepted (n : Needs) : Type 0 where
    pub length_passed : first ≡ none
    pub job_passed : job ≡ none
    pub one_entry : length es ≡ 1
    pub lines_passed : six ≡ none
    pub opens : opened a.set ≡ accepted file
    pub index_passed : index_check file a.index ≡ none
    pub is : n ≡ given-needs
    pub zeroed : (needs a).work ≡ replicate (length a.work) 0

  pub needs-accepted : (n : Needs) → (needs a).answer ≡ accepted n → Accepted n
  unfolding declined all_checks state_check opened
  needs-accepted n e = go all_checks refl
    where
      go : (c : Check) → all_checks ≡ c → Accepted n
      go (some q) f =
          let s : refused q ≡ accepted n = sym (ap (λ (t : Told). t.answer) (refused-at q f)) ∙ e in
          absurd (let z : ◌≡◌ {A = ℕ} 0 1 = cc in omega arith)
      go none f =
          let s : accepted given-needs ≡ accepted n = sym (ap (λ (t : Told). t.answer) (all-passed f)) ∙ e in
          let same : n ≡ given-needs = cc in
          let p = passed first (job or_else (seventeen or_else (own-five or_else (six or_else state)))) f in
          let q = passed job (seventeen or_else (own-five or_else (six or_else state))) p.1 in
          let t = passed seventeen (own-five or_else (six or_else state)) q.1 in
          let u = passed own-five (six or_else state) t.1 in
          let v = passed six state u.1 in
          let w = passed (set_check a.set) (offer_check file a.index a.counts) v.1 in
          record {
            length_passed = p.0;
            job_passed = q.0;
            one_entry = entries_of-length a.job ∙ eqb-true (entry_count a.job) 1 (unless-passed (eqb (entry_count a.job) 1) 17 t.0);
            lines_passed = v.0;
            opens = rw (opened, w.0);
            index_passed = passed-15 file a.index a.counts w.1;
            is = same;
            zeroed = ap (λ (t : Told). t.work) (all-passed f);
          }

  -- ---- the promises of the call alone

  module _ (n : Needs) (e : (needs a).answer ≡ accepted n) where
    -- Demand 3: turns and lookups are those that the rules count over all passes of the lines, and under the ceilings.
    pub needs-demand3 : Demand3 with-offer es ls n.turns n.lookups
    unfolding needed_for report
    needs-demand3 =
        let h = needs-accepted n e in
        rw h.is (ceilings a.set file h.opens a.index a.counts es (job-right a.job h.job_passed).1 ls)

    -- The bytes are at most the batch's and one for each lookup.
    pub needs-within : n.bytes ≤ length a.batch + n.lookups
    unfolding needed_for report lines offering
    needs-within =
        let h = needs-accepted n e in
        let w = lines-weight [] a.batch in
        rw h.is (omega (arith, results-within with-offer (opened-pos a.set file h.opens) es h.one_entry ls))

    -- An accepted call zeroes the work buffer, and no other changes it.
    pub needs-zeroes : (needs a).work ≡ replicate (length a.work) 0
    needs-zeroes = (needs-accepted n e).zeroed

  pub needs-keeps : (r : Refusal) → (needs a).answer ≡ refused r → (needs a).work ≡ a.work
  unfolding declined
  needs-keeps r e = ap (λ (t : Told). t.work) (refused-at r (refused-by r e))

-- ---- the real call: the same set, job and batch, whatever it offers, and its own buffers

-- From 6 on both make the same checks, if 15 and 16 see the same.
from-six : (a : Asked) (i c i' c' : List ℕ) (r : Refusal) → (15 ≤ r.number → (i ≡ i') × (c ≡ c'))
    → six a or_else state_check a.set i c ≡ some r → six a or_else state_check a.set i' c' ≡ some r
unfolding state_check
from-six a i c i' c' r same =
    behind (six a) _ _ r
    (behind (set_check a.set) _ _ r
    (λ f.
    let s = same (offer-tells (file a) i c r f).0 in
    let e : offer_check (file a) i c ≡ offer_check (file a) i' c' = rw (s.0, s.1) in
    sym e ∙ f))

from-six-tells : (a : Asked) (i c : List ℕ) → Tells 6 16 (six a or_else state_check a.set i c)
unfolding state_check
from-six-tells a i c =
    tells-or 6 16 _ _ (tells-unless 6 16 (batch_right a.batch) 6 (omega arith) (omega arith))
    (tells-or 6 16 _ _ (λ r e. let w = set_tells a.set r e in (omega arith, omega arith))
    (λ r e. let w = offer-tells (file a) i c r e in (omega arith, omega arith)))

module _ (a : Asked) (index counts output work : List ℕ) where
  abbrev g : Given
  g = real a index counts output work

  -- the real call's 5
  abbrev five : Check
  five = unless (buffers_right (length a.batch) (length output) (length work)) 5

  abbrev real-state : Check
  real-state = state_check a.set index counts

  real-checks : batch_checks g ≡ first a or_else (job a or_else (five or_else (six a or_else real-state)))
  unfolding batch_checks real
  real-checks = refl

  -- Buffers within 01's limits, and an index and counts that pass 15 and 16: accepted exactly where the output holds the bytes, and then with
  -- these numbers; a shorter output meets 11.
  module _ (fine : buffers_right (length a.batch) (length output) (length work) ≡ true) (right : offer_check (file a) index counts ≡ none)
      (n : Needs) (e : (needs a).answer ≡ accepted n) where
    h : Accepted a n
    h = needs-accepted a n e

    set : KmerSet
    set = offering index counts (file a)

    bare : (reads : List (List ℕ)) → needed_for set (es a) reads ≡ needed_for (offering [] [] (file a)) (es a) reads
    unfolding set
    bare reads = needed-any a.set (file a) h.opens index counts (passed-15 (file a) index counts right) (es a) reads

    same-needs : needed_for set (es a) (ls a) ≡ n
    same-needs = bare (ls a) ∙ sym (h.is ∙ needed-any a.set (file a) h.opens a.index a.counts h.index_passed (es a) (ls a))

    up_to : (i : ℕ) → length (results set (es a) (10 ∷ []) (take i (ls a))) ≡ bytes_up_to a i
    unfolding bytes_up_to needed_for report offering set_of
    up_to i = ap (λ (m : Needs). m.bytes) (bare (take i (ls a)))

    corrects : correct_batch g ≡ corrected set (es a) (10 ∷ []) g (ls a)
    unfolding set state_check real ◌or_else◌ opened
    corrects =
        let passes : five ≡ none = rw (fine, unless) in
        batch-passed g (real-checks ∙ rw (h.length_passed, h.job_passed, passes, h.lines_passed, opens-check, right))
      where
        opens-check : set_check a.set ≡ none
        opens-check = opened-check a.set (file a) h.opens

    pub real-answers : Answers a n g
    unfolding no_room real needed_for report
    real-answers = elim (dec_le n.bytes (length output)) [ yes le ↦ fits le | no gt ↦ not-fits (omega arith) ]
      where
        bytes-are : length (results set (es a) (10 ∷ []) (ls a)) ≡ n.bytes
        bytes-are = ap (λ (m : Needs). m.bytes) same-needs

        fits : n.bytes ≤ length output → Answers a n g
        fits le =
            let l : length (results set (es a) (10 ∷ []) (ls a)) ≤ length output = omega (arith, bytes-are) in
            let is = corrects ∙ corrected-fits set (es a) (10 ∷ []) g (ls a) (sum_fits set (es a) h.one_entry (10 ∷ []) 0 (length output) (ls a) l) in
            enough le (report set (es a) (10 ∷ []) (ls a)) (ap (λ (x : After). x.answer) is)
            (record { written = bytes-are; turns = ap (λ (m : Needs). m.turns) same-needs; lookups = ap (λ (m : Needs). m.lookups) same-needs })

        not-fits : length output < n.bytes → Answers a n g
        not-fits lt =
            let l : length output < length (results set (es a) (10 ∷ []) (ls a)) = omega (arith, bytes-are) in
            let s = sum-short set (es a) h.one_entry (10 ∷ []) 0 (length output) (ls a) l in
            let is = corrects ∙ corrected-full set (es a) (10 ∷ []) g (ls a) s.at (s.is ∙ ap some (omega arith)) in
            short lt s.at (ap (λ (x : After). x.answer) is) (omega (arith, up_to s.at, s.held)) (omega (arith, up_to (suc s.at), s.not_held))

  -- ---- refusals: 1 to 10, 15 and 16 as they apply to the real call, but for 17 and this call's own 5

  -- Refused here with another number than 17 and 5: so is the real call, with the same number and place. From 6 on its buffers are within 01's
  -- limits, and for 15 and 16 it offers the same.
  pub real-refused : (r : Refusal) → (needs a).answer ≡ refused r → (r.number ≡ 17 → ⊥) → (r.number ≡ 5 → ⊥)
      → (6 ≤ r.number → buffers_right (length a.batch) (length output) (length work) ≡ true)
      → (15 ≤ r.number → (a.index ≡ index) × (a.counts ≡ counts)) → (correct_batch g).answer ≡ refused r
  unfolding all_checks unchanged ◌or_else◌ unless
  real-refused r e n17 n5 buffers same =
      ap (λ (x : After). x.answer)
      (batch-refused g r (real-checks ∙ behind (first a) _ _ r (behind (job a) _ _ r past-own) (refused-by a r e)))
    where
      past-own : seventeen a or_else (own-five a or_else (six a or_else state a)) ≡ some r → five or_else (six a or_else real-state) ≡ some r
      past-own f =
          let s = (not_first (seventeen a) _ 17 17 r (unless-tells (eqb (entry_count a.job) 1) 17) (λ l m. n17 (omega arith)) f).1 in
          let t = (not_first (own-five a) _ 5 5 r (unless-tells (leb (length a.batch) (length a.work)) 5) (λ l m. n5 (omega arith)) s).1 in
          let passes : five ≡ none = rw (buffers (from-six-tells a a.index a.counts r t).0, unless) in
          rw passes (from-six a a.index a.counts index counts r same t)

  -- And the other way: a real call refused with another number than 5 and 11 is refused alike here, or 17 or this call's own 5 comes before it.
  pub needs-refused : (r : Refusal) → (correct_batch g).answer ≡ refused r → (r.number ≡ 5 → ⊥) → (r.number ≡ 11 → ⊥)
      → (15 ≤ r.number → (index ≡ a.index) × (counts ≡ a.counts)) → Declines a r
  unfolding all_checks declined ◌or_else◌ unless
  needs-refused r e n5 n11 same = on-first (first a) refl
    where
      told : (q : Refusal) → all_checks a ≡ some q → (needs a).answer ≡ refused q
      told q f = ap (λ (t : Told). t.answer) (refused-at a q f)

      chain : first a or_else (job a or_else (five or_else (six a or_else real-state))) ≡ some r
      chain = sym real-checks ∙ batch-refused-by g r e n11

      -- past 1 and the job's
      past-job : first a ≡ none → job a ≡ none → Declines a r
      past-job p q = go (eqb (entry_count a.job) 1) refl (leb (length a.batch) (length a.work)) refl
        where
          rest : five or_else (six a or_else real-state) ≡ some r
          rest = rw (p, q) at chain

          tail : six a or_else real-state ≡ some r
          tail = (not_first five _ 5 5 r (unless-tells (buffers_right (length a.batch) (length output) (length work)) 5) (λ l m. n5 (omega arith)) rest).1

          from-6 : 6 ≤ r.number
          from-6 = (from-six-tells a index counts r tail).0

          go : (x : Bool) → eqb (entry_count a.job) 1 ≡ x → (y : Bool) → leb (length a.batch) (length a.work) ≡ y → Declines a r
          go false f y h = with-17 (told _ (rw (p, q, f))) from-6
          go true f false h = with-5 (told _ (rw (p, q, f, h))) from-6
          go true f true h = alike (told r (rw (p, q, f, h) (from-six a index counts a.index a.counts r same tail)))

      on-job : first a ≡ none → (c : Check) → job a ≡ c → Declines a r
      on-job p none q = past-job p q
      on-job p (some s) q = alike (told r (rw (p, q) (rw (p, q) at chain)))

      on-first : (c : Check) → first a ≡ c → Declines a r
      on-first none p = on-job p (job a) refl
      on-first (some s) p = alike (told r (rw p (rw p at chain)))

  -- Where the real call is refused with its 5, which looks at buffers that are not lent here, none of 1 to 4 is told here.
  pub needs-past-5 : (r : Refusal) → (correct_batch g).answer ≡ refused r → r.number ≡ 5 → (q : Refusal) → (needs a).answer ≡ refused q → 5 ≤ q.number
  unfolding all_checks ◌or_else◌
  needs-past-5 r e n5 q b =
      let chain : first a or_else (job a or_else (five or_else (six a or_else real-state))) ≡ some r = sym real-checks ∙ batch-refused-by g r e (λ n. omega arith) in
      let p = not_first (first a) _ 1 1 r (unless-tells (leb (length a.batch) max_read) 1) (λ l m. omega arith) chain in
      let j = not_first (job a) _ 2 4 r (job-tells a.job) (λ l m. omega arith) p.1 in
      (tells-or 5 17 (seventeen a) _ (tells-unless 5 17 (eqb (entry_count a.job) 1) 17 (omega arith) (omega arith))
      (tells-or 5 17 (own-five a) _ (tells-unless 5 17 (leb (length a.batch) (length a.work)) 5 (omega arith) (omega arith))
      (λ s f. let w = from-six-tells a a.index a.counts s f in (omega arith, omega arith)))
      q (rw (p.0, j.0) at (refused-by a q b))).0
