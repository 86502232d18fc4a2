-- Document 02, W11 and W14: a report is put together from the shares of its reads, and what is offered changes no share but for its support.
use Prim.Native.Nat.{ℕ, ◌+◌}
use mathlib.Core.Path.{◌≡◌, refl, sym, ap, ap₂, ◌∙◌, subst}
use mathlib.Core.Option.{Option, none}
use mathlib.Core.List.{List, [], ◌∷◌, ◌++◌, map, flat_map, append_assoc}
use Rattle.rules.specs.Refusal.{accepted}
use Rattle.rules.specs.Set.{KmerSet, offering, set_of, opened}
use Rattle.rules.specs.Index.{index_check}
use Rattle.rules.specs.Driver.{weaker}
use Rattle.rules.specs.Job.{Entry, entries_of, result}
use Rattle.rules.specs.Report.{Report, yield_of, quotient_of, remainder_of}
use Rattle.rules.specs.Counts.{Fed, sum, passes_of, all_passes, turns, lookups, attempts, corrections, support_over, w_of}
use Rattle.rules.specs.Calls.{Given, longest, report}
use Rattle.rules_laws.proofs.Offered.{same-result as result-indexed, same-longest as longest-indexed, same-report as report-indexed}
use Rattle.rules_laws.proofs.Told.{unsupported, same-result as result-counted, same-longest as longest-counted, same-report as report-counted}
use Rattle.rules_laws.proofs.Calls.{sum-append, support-append}
use Rattle.rules_fasta.specs.Shares.{given_set, SameJob, share, share_in, total, least_of, SumOf, SameCounts}

-- ---- sums over reads

-- Parts joined, and a part of one read.
abbrev pub joined_up : {A : Type 0} → List (List A) → List A
joined_up parts = flat_map (λ p. p) parts

abbrev single : List ℕ → List (List ℕ)
single read = read ∷ []

-- What is told of a support: none where no counts are offered.
abbrev told : List ℕ → Option ℕ → Option ℕ
told counts o = elim counts [ [] ↦ none | c ∷ cs ↦ o ]

told_none : (counts : List ℕ) → told counts none ≡ none
told_none [] = refl
told_none (c ∷ cs) = refl

told-weaker : (counts : List ℕ) (o p : Option ℕ) → told counts (weaker o p) ≡ weaker (told counts o) (told counts p)
unfolding weaker
told-weaker [] o p = refl
told-weaker (c ∷ cs) o p = refl

module _ (set : KmerSet) (es : List Entry) where
  pub passes_append : (ls ms : List (List ℕ)) → all_passes set es (ls ++ ms) ≡ all_passes set es ls ++ all_passes set es ms
  unfolding all_passes
  passes_append [] ms = refl
  passes_append (l ∷ ls) ms =
      ap (λ (t : List Fed). passes_of set es l ++ t) (passes_append ls ms) ∙ sym (append_assoc (passes_of set es l) (all_passes set es ls) (all_passes set es ms))

  -- A list of reads in parts, whatever stands behind each read of the whole, and of a part.
  module _ (ending own : List ℕ) where
    -- A number that a report has from its passes.
    total_of : (f : Fed → ℕ) (number : Report → ℕ) → ((reads : List (List ℕ)) → number (report set es own reads) ≡ sum f (all_passes set es reads))
        → (parts : List (List (List ℕ))) → sum f (all_passes set es (joined_up parts)) ≡ total number (map (report set es own) parts)
    unfolding sum all_passes total flat_map
    total_of f number h [] = refl
    total_of f number h (p ∷ ps) =
        ap (sum f) (passes_append p (joined_up ps)) ∙ sum-append f (all_passes set es p) (all_passes set es (joined_up ps))
        ∙ ap₂ (λ (m n : ℕ). m + n) (sym (h p)) (total_of f number h ps)

    least-of : (parts : List (List (List ℕ)))
        → told set.counts (support_over set (all_passes set es (joined_up parts))) ≡ least_of (map (report set es own) parts)
    unfolding all_passes support_over least_of report flat_map
    least-of [] = told_none set.counts
    least-of (p ∷ ps) =
        ap (told set.counts) (ap (support_over set) (passes_append p (joined_up ps)) ∙ support-append set (all_passes set es p) (all_passes set es (joined_up ps)))
        ∙ told-weaker set.counts (support_over set (all_passes set es p)) (support_over set (all_passes set es (joined_up ps)))
        ∙ ap (weaker (told set.counts (support_over set (all_passes set es p)))) (least-of ps)

    -- The report of the whole is put together from those of the parts.
    pub sum-of-parts : (parts : List (List (List ℕ))) → SumOf (report set es ending (joined_up parts)) (map (report set es own) parts)
    unfolding report
    sum-of-parts parts =
        let qs : List Report = map (report set es own) parts in
        let ps : List Fed = all_passes set es (joined_up parts) in
        let a : sum (attempts set) ps ≡ total (λ q. q.attempts) qs = total_of (attempts set) (λ q. q.attempts) (λ reads. refl) parts in
        let c : sum (corrections set) ps ≡ total (λ q. q.accepted) qs = total_of (corrections set) (λ q. q.accepted) (λ reads. refl) parts in
        let l : sum (lookups set) ps ≡ total (λ q. q.lookups) qs = total_of (lookups set) (λ q. q.lookups) (λ reads. refl) parts in
        let w : sum (w_of set) ps ≡ total (λ q. q.bases) qs = total_of (w_of set) (λ q. q.bases) (λ reads. refl) parts in
        record {
          adds = record {
            turns = total_of (turns set) (λ q. q.turns) (λ reads. refl) parts;
            lookups = l;
            attempts = a;
            accepted = c;
            yield = ap₂ yield_of c a;
            quotient = ap₂ quotient_of l w;
            remainder = ap₂ remainder_of l w;
            bases = w;
          };
          support = least-of parts;
        }

  -- Each read a part: the report of a list of reads is put together from their shares.
  pub sum-of-shares : (ending : List ℕ) (reads : List (List ℕ)) → SumOf (report set es ending reads) (map (share set es) reads)
  unfolding flat_map share
  sum-of-shares ending reads =
      subst (λ (rs : List (List ℕ)). SumOf (report set es ending rs) (map (share set es) reads)) (all-single reads)
      (subst (SumOf (report set es ending (joined_up (map single reads)))) (each-single reads) (sum-of-parts ending (10 ∷ []) (map single reads)))
    where
      all-single : (rs : List (List ℕ)) → joined_up (map single rs) ≡ rs
      all-single [] = refl
      all-single (r ∷ rs) = ap (λ (t : List (List ℕ)). r ∷ t) (all-single rs)

      each-single : (rs : List (List ℕ)) → map (report set es (10 ∷ [])) (map single rs) ≡ map (share set es) rs
      each-single [] = refl
      each-single (r ∷ rs) = ap (λ (t : List Report). share set es r ∷ t) (each-single rs)

-- ---- whatever is offered

-- A set that opens, an index that passes 15, and any counts.
module _ (bytes : List ℕ) (set : KmerSet) (o : opened bytes ≡ accepted set) (index counts : List ℕ) (passes : index_check set index ≡ none) where
  pub result-any : (es : List Entry) (read : List ℕ) → result (offering index counts set) es read ≡ result (offering [] [] set) es read
  result-any es read = result-indexed bytes set o index counts passes es read ∙ result-counted set [] counts es read

  pub longest-any : (es : List Entry) (read : List ℕ) → longest (offering index counts set) es read ≡ longest (offering [] [] set) es read
  longest-any es read = longest-indexed bytes set o index counts passes es read ∙ longest-counted set [] counts es read

  -- A report, but for its support.
  pub report-any : (es : List Entry) (ending : List ℕ) (reads : List (List ℕ))
      → unsupported (report (offering index counts set) es ending reads) ≡ report (offering [] [] set) es ending reads
  report-any es ending reads =
      ap unsupported (report-indexed bytes set o index counts passes es ending reads) ∙ report-counted set [] counts es ending reads

pub same-counts : (r q : Report) → unsupported r ≡ unsupported q → SameCounts r q
unfolding unsupported
same-counts r q e =
    record {
      turns = ap (λ (t : Report). t.turns) e;
      lookups = ap (λ (t : Report). t.lookups) e;
      attempts = ap (λ (t : Report). t.attempts) e;
      accepted = ap (λ (t : Report). t.accepted) e;
      yield = ap (λ (t : Report). t.yield) e;
      quotient = ap (λ (t : Report). t.quotient) e;
      remainder = ap (λ (t : Report). t.remainder) e;
      bases = ap (λ (t : Report). t.bases) e;
    }

-- A call's set opens, and its index passes 15.
pub record Opens (g : Given) : Type 0 where
  pub opens : opened g.set ≡ accepted (set_of g.set)
  pub index_passes : index_check (set_of g.set) g.index ≡ none

-- Two calls with the same set and job.
module _ (g h : Given) (same : SameJob g h) (og : Opens g) (oh : Opens h) where
  abbrev plain : Given → KmerSet
  plain f = offering [] [] (set_of f.set)

  pub result-same : (read : List ℕ) → result (given_set g) (entries_of g.job) read ≡ result (given_set h) (entries_of h.job) read
  unfolding given_set
  result-same read =
      result-any g.set (set_of g.set) og.opens g.index g.counts og.index_passes (entries_of g.job) read
      ∙ ap₂ (λ (s j : List ℕ). result (offering [] [] (set_of s)) (entries_of j) read) same.set same.job
      ∙ sym (result-any h.set (set_of h.set) oh.opens h.index h.counts oh.index_passes (entries_of h.job) read)

  pub longest-same : (read : List ℕ) → longest (given_set g) (entries_of g.job) read ≡ longest (given_set h) (entries_of h.job) read
  unfolding given_set
  longest-same read =
      longest-any g.set (set_of g.set) og.opens g.index g.counts og.index_passes (entries_of g.job) read
      ∙ ap₂ (λ (s j : List ℕ). longest (offering [] [] (set_of s)) (entries_of j) read) same.set same.job
      ∙ sym (longest-any h.set (set_of h.set) oh.opens h.index h.counts oh.index_passes (entries_of h.job) read)

  -- Any list of reads is reported on alike, and with the same support where the counts are the same.
  pub report-same : (ending : List ℕ) (reads : List (List ℕ))
      → unsupported (report (given_set g) (entries_of g.job) ending reads) ≡ unsupported (report (given_set h) (entries_of h.job) ending reads)
  unfolding given_set
  report-same ending reads =
      report-any g.set (set_of g.set) og.opens g.index g.counts og.index_passes (entries_of g.job) ending reads
      ∙ ap₂ (λ (s j : List ℕ). report (offering [] [] (set_of s)) (entries_of j) ending reads) same.set same.job
      ∙ sym (report-any h.set (set_of h.set) oh.opens h.index h.counts oh.index_passes (entries_of h.job) ending reads)

  pub report-supported : g.counts ≡ h.counts → (ending : List ℕ) (reads : List (List ℕ))
      → report (given_set g) (entries_of g.job) ending reads ≡ report (given_set h) (entries_of h.job) ending reads
  unfolding given_set
  report-supported c ending reads =
      report-indexed g.set (set_of g.set) og.opens g.index g.counts og.index_passes (entries_of g.job) ending reads
      ∙ (λ i. report (offering [] (c i) (set_of (same.set i))) (entries_of (same.job i)) ending reads)
      ∙ sym (report-indexed h.set (set_of h.set) oh.opens h.index h.counts oh.index_passes (entries_of h.job) ending reads)

  -- A read's share.
  pub share-same : (read : List ℕ) → SameCounts (share_in g read) (share_in h read)
  unfolding share_in share
  share-same read = same-counts (share_in g read) (share_in h read) (report-same (10 ∷ []) (read ∷ []))
