-- Document 02, W8, of passes, reports and calls: what corrections rest on is solid, counts change nothing but the support, and where there is a support.
use Prim.Native.Nat.{ℕ, zero, suc, ◌+◌, ◌-◌, ◌≤◌, ◌<◌}
use native.Mathlib.Omega.{arith}
use mathlib.Core.Path.{◌≡◌, refl, sym, ap, ap₂, ◌∙◌, fun_ext}
use mathlib.Core.Bool.{true, false}
use mathlib.Core.Option.{Option, none, some}
use mathlib.Core.List.{List, [], ◌∷◌, ◌++◌}
use lib.ListN.{length, replicate}
use lib.Dec.{ltb}
use Rattle.rules.specs.Letters.{Kmer}
use Rattle.rules.specs.Refusal.{Outcome, accepted, refused, Check, ◌or_else◌, unless}
use Rattle.rules.specs.Set.{KmerSet, offering, first_for, keys_for, lookup, solid, count_of, opened}
use Rattle.rules.specs.Index.{index_check}
use Rattle.rules.specs.Exist.{Mend, exist, one, two}
use Rattle.rules.specs.Graph.{All, end, also, graph}
use Rattle.rules.specs.GapSize.{gap_size}
use Rattle.rules.specs.Driver.{Pass, drive}
use Rattle.rules.specs.Job.{Method, One, Two, Graph, GapSize, Entry, Confirmed, entries_of, lines, correct_error, pass, result}
use Rattle.rules.specs.Report.{Report, yield_of, quotient_of, remainder_of}
use Rattle.rules.specs.Counts.{Fed, sum, passes_of, all_passes, turns, lookups, attempts, corrections, support, support_over, w_of}
use Rattle.rules.specs.Calls.{Given, without_counts, After, unchanged, no_room, longest, too_long, results, report, corrected, counts_check, offer_check, call_by, call, given_check, batch_right, correct_read, correct_batch}
use Rattle.rules_laws.proofs.Few.{few}
use Rattle.rules_laws.proofs.Job.{all-confirmed}
use Rattle.rules_laws.proofs.Support.{Rests, exist-rests, graph-rests, gap_size-rests, supported, counts-any, Weighed, weaker-weighed, drive-weighed}

-- ---- what corrections rest on

-- Every k-mer that a correction rests on is solid: it has a key and, where counts are offered, a count.
pub rests : (set : KmerSet) (c : ℕ) → 1 ≤ c → (m : Method) (s : List ℕ) (y : Kmer) (md : Mend)
    → (correct_error set c m s y).answer ≡ some md → Rests (solid set) md
unfolding correct_error
rests set zero lc m s y md e = absurd (omega arith)
rests set (suc c') lc One s y md e = exist-rests set.k (solid set) c' s (one set.k (solid set)) y md e
rests set (suc c') lc Two s y md e = exist-rests set.k (solid set) c' s (two set.k (solid set)) y md e
rests set (suc c') lc Graph s y md e = graph-rests set.k (length set.keys) (solid set) (few set) s y md e
rests set (suc c') lc GapSize s y md e = gap_size-rests set.k (length set.keys) (solid set) (few set) s y c' md e

-- ---- where there is a support

-- Of a list of passes: where a correction was accepted, and nowhere else.
pub all-weighed : (set : KmerSet) (ps : List Fed) → All (λ p. 1 ≤ p.entry.confirm) ps → Weighed (sum (corrections set) ps) (support_over set ps)
unfolding sum support_over corrections support pass
all-weighed set [] end = record { of_none = λ z. refl; of_some = λ l. absurd (omega arith) }
all-weighed set (p ∷ ps) (also q a) =
    weaker-weighed (corrections set p) (sum (corrections set) ps) (support set p) (support_over set ps)
    (drive-weighed set.k (solid set) (count_of set) (correct_error set p.entry.confirm p.entry.method)
    (rests set p.entry.confirm q p.entry.method) p.bytes)
    (all-weighed set ps a)

-- What a report tells: none without counts, none where nothing was accepted, else a count.
pub record ToldSupport (set : KmerSet) (r : Report) : Type 0 where
  pub not_offered : set.counts ≡ [] → r.support ≡ none
  pub nothing_accepted : r.accepted ≡ 0 → r.support ≡ none
  pub told : 0 < length set.counts → 1 ≤ r.accepted → (v : ℕ) × (r.support ≡ some v)

pub told-support : (set : KmerSet) (es : List Entry) (ending : List ℕ) (reads : List (List ℕ)) → Confirmed es
    → ToldSupport set (report set es ending reads)
unfolding report
told-support set es ending reads pos = go set.counts refl
  where
    ps : List Fed
    ps = all_passes set es reads

    w : Weighed (sum (corrections set) ps) (support_over set ps)
    w = all-weighed set ps (all-confirmed set es pos reads)

    go : (counts : List ℕ) → set.counts ≡ counts → ToldSupport set (report set es ending reads)
    go [] e =
        record {
          not_offered = λ f. rw (e, report);
          nothing_accepted = λ f. rw (e, report);
          told = λ l a. absurd (let z : 0 < 0 = rw e at l in omega arith);
        }
    go (c ∷ cs) e =
        record {
          not_offered = λ f. absurd (let z : length (c ∷ cs) ≡ 0 = ap length (sym e ∙ f) in omega arith);
          nothing_accepted = λ f. rw (e, report) (w.of_none f);
          told = λ l a. (let q = w.of_some a in (q.0, is q.0 q.1));
        }
      where
        is : (v : ℕ) → support_over set ps ≡ some v → (report set es ending reads).support ≡ some v
        is v h = rw (e, report) h

-- ---- counts change nothing but the support

module _ (set : KmerSet) (index counts : List ℕ) where
  abbrev counted : KmerSet
  counted = offering index counts set

  abbrev bare : KmerSet
  bare = offering index [] set

  same-solid : solid counted ≡ solid bare
  unfolding solid lookup first_for keys_for offering
  same-solid = refl

  same_attempt : (c : ℕ) (m : Method) → correct_error counted c m ≡ correct_error bare c m
  unfolding correct_error offering
  same_attempt c One = λ i s y. exist set.k (same-solid i) c s (one set.k (same-solid i)) y
  same_attempt c Two = λ i s y. exist set.k (same-solid i) c s (two set.k (same-solid i)) y
  same_attempt c Graph = λ i s y. graph set.k (length set.keys) (same-solid i) s y
  same_attempt c GapSize = λ i s y. gap_size set.k (length set.keys) (same-solid i) c s y

  same-pass : (e : Entry) (fed : List ℕ) → supported (pass counted e fed) none ≡ supported (pass bare e fed) none
  unfolding pass offering
  same-pass e fed =
      (λ i. supported (drive set.k (same-solid i) (count_of counted) (same_attempt e.confirm e.method i) fed) none)
      ∙ counts-any set.k (solid bare) (count_of counted) (count_of bare) (correct_error bare e.confirm e.method) fed

  same_bytes_lem : (e : Entry) (fed : List ℕ) → (pass counted e fed).bytes ≡ (pass bare e fed).bytes
  unfolding supported
  same_bytes_lem e fed = ap (λ (p : Pass). p.bytes) (same-pass e fed)

  pub same-result : (es : List Entry) (read : List ℕ) → result counted es read ≡ result bare es read
  unfolding result
  same-result [] read = refl
  same-result (e ∷ es) read = rw (same_bytes_lem e read) (same-result es (pass bare e read).bytes)

  pub same-longest : (es : List Entry) (read : List ℕ) → longest counted es read ≡ longest bare es read
  unfolding longest
  same-longest [] read = refl
  same-longest (e ∷ es) read = rw (same_bytes_lem e read, same-longest es (pass bare e read).bytes)

  same-passes : (es : List Entry) (read : List ℕ) → passes_of counted es read ≡ passes_of bare es read
  unfolding passes_of
  same-passes [] read = refl
  same-passes (e ∷ es) read = rw (same_bytes_lem e read, same-passes es (pass bare e read).bytes)

  pub same-all : (es : List Entry) (reads : List (List ℕ)) → all_passes counted es reads ≡ all_passes bare es reads
  unfolding all_passes
  same-all es [] = refl
  same-all es (read ∷ reads) = rw (same-passes es read, same-all es reads)

  -- What one pass counts.
  pub same-turns : turns counted ≡ turns bare
  unfolding turns supported
  same-turns = fun_ext (λ p. ap (λ (q : Pass). q.turns) (same-pass p.entry p.bytes))

  pub same-lookups : lookups counted ≡ lookups bare
  unfolding lookups supported
  same-lookups = fun_ext (λ p. ap (λ (q : Pass). q.lookups) (same-pass p.entry p.bytes))

  pub same-attempts : attempts counted ≡ attempts bare
  unfolding attempts supported
  same-attempts = fun_ext (λ p. ap (λ (q : Pass). q.attempts) (same-pass p.entry p.bytes))

  pub same-corrections : corrections counted ≡ corrections bare
  unfolding corrections supported
  same-corrections = fun_ext (λ p. ap (λ (q : Pass). q.accepted) (same-pass p.entry p.bytes))

  module _ (es : List Entry) (ending : List ℕ) where
    pub same-results : (reads : List (List ℕ)) → results counted es ending reads ≡ results bare es ending reads
    unfolding results
    same-results [] = refl
    same-results (read ∷ reads) = rw (same-result es read, same-results reads)

    pub same-too-long : (i left : ℕ) (reads : List (List ℕ)) → too_long counted es ending i left reads ≡ too_long bare es ending i left reads
    unfolding too_long
    same-too-long i left [] = refl
    same-too-long i left (read ∷ reads) =
        ap₂ (λ (l : ℕ) (o : Option ℕ). elim (ltb left (l + length ending)) [ true ↦ some i | false ↦ o ])
        (same-longest es read)
        (ap (λ (r : List ℕ). too_long counted es ending (suc i) (left - (length r + length ending)) reads) (same-result es read)
        ∙ same-too-long (suc i) (left - (length (result bare es read) + length ending)) reads)

-- ---- the calls

-- A report, an answer and what a call leaves, without the support.
unfoldable pub unsupported : Report → Report
unsupported r =
    record {
      written = r.written;
      turns = r.turns;
      lookups = r.lookups;
      attempts = r.attempts;
      accepted = r.accepted;
      yield = r.yield;
      support = none;
      quotient = r.quotient;
      remainder = r.remainder;
      bases = r.bases;
    }

unfoldable pub answered : Outcome Report → Outcome Report
unfolding unsupported
answered (accepted r) = accepted (unsupported r)
answered (refused r) = refused r

unfoldable pub uncounted : After → After
unfolding answered
uncounted a = record { answer = answered a.answer; output = a.output; work = a.work }

module _ (set : KmerSet) (index counts : List ℕ) (es : List Entry) (ending : List ℕ) where
  pub same-report : (reads : List (List ℕ)) → unsupported (report (offering index counts set) es ending reads) ≡ report (offering index [] set) es ending reads
  unfolding unsupported report w_of offering
  same-report reads =
      let s : KmerSet = offering index counts set in
      let t : KmerSet = offering index [] set in
      let a : sum (attempts s) (all_passes s es reads) ≡ sum (attempts t) (all_passes t es reads) =
      ap₂ sum (same-attempts set index counts) (same-all set index counts es reads) in
      let c : sum (corrections s) (all_passes s es reads) ≡ sum (corrections t) (all_passes t es reads) =
      ap₂ sum (same-corrections set index counts) (same-all set index counts es reads) in
      let l : sum (lookups s) (all_passes s es reads) ≡ sum (lookups t) (all_passes t es reads) =
      ap₂ sum (same-lookups set index counts) (same-all set index counts es reads) in
      let w : sum (w_of s) (all_passes s es reads) ≡ sum (w_of t) (all_passes t es reads) = ap (sum (w_of t)) (same-all set index counts es reads) in
      λ i. record {
        written = length (same-results set index counts es ending reads i);
        turns = sum (same-turns set index counts i) (same-all set index counts es reads i);
        lookups = l i;
        attempts = a i;
        accepted = c i;
        yield = yield_of (c i) (a i);
        support = none;
        quotient = quotient_of (l i) (w i);
        remainder = remainder_of (l i) (w i);
        bases = w i;
      }

  same-corrected : (g : Given) (reads : List (List ℕ))
      → uncounted (corrected (offering index counts set) es ending g reads) ≡ corrected (offering index [] set) es ending g reads
  unfolding uncounted answered corrected no_room
  same-corrected g reads = at (too_long s es ending 0 (length g.output) reads) refl
    where
      s : KmerSet
      s = offering index counts set

      t : KmerSet
      t = offering index [] set

      at : (o : Option ℕ) → too_long s es ending 0 (length g.output) reads ≡ o → uncounted (corrected s es ending g reads) ≡ corrected t es ending g reads
      at o e = on o e (sym (same-too-long set index counts es ending 0 (length g.output) reads) ∙ e)
        where
          on : (o : Option ℕ) → too_long s es ending 0 (length g.output) reads ≡ o → too_long t es ending 0 (length g.output) reads ≡ o
              → uncounted (corrected s es ending g reads) ≡ corrected t es ending g reads
          on (some line) e f = rw (e, f, corrected)
          on none e f =
              rw (e, f, corrected)
              (λ i. record {
                answer = accepted (same-report reads i);
                output = same-results set index counts es ending reads i
                    ++ replicate (length g.output - length (same-results set index counts es ending reads i)) 0;
                work = replicate (length g.work) 0;
              })

-- The counts pass 16, if the set opens.
abbrev pub Passes16 : Given → Type 0
Passes16 g = (set : KmerSet) → opened g.set ≡ accepted set → counts_check set g.counts ≡ none

-- With counts that pass 16 any call answers and leaves in every byte what it does without, but for the support.
pub counted-call : (ending : List ℕ) (reads : List (List ℕ)) (refusal : Check) (g : Given) → Passes16 g
    → uncounted (call ending reads refusal g) ≡ call ending reads refusal (without_counts g)
unfolding call unchanged without_counts offer_check counts_check uncounted answered corrected no_room
counted-call ending reads (some r) g p = refl
counted-call ending reads none g p = go (opened g.set) refl
  where
    go : (a : Outcome KmerSet) → opened g.set ≡ a → uncounted (call ending reads none g) ≡ call ending reads none (without_counts g)
    go (refused r) e = rw (e, call)
    go (accepted set) e = at (index_check set g.index) refl
      where
        at : (c : Check) → index_check set g.index ≡ c → uncounted (call ending reads none g) ≡ call ending reads none (without_counts g)
        at none f =
            rw (e, call_by, offer_check, f, p set e)
            (same-corrected set g.index g.counts (entries_of g.job) ending g reads)
        at (some r) f = rw (e, call_by, offer_check, f)

pub read-uncounted : (g : Given) → Passes16 g → uncounted (correct_read g) ≡ correct_read (without_counts g)
unfolding correct_read without_counts
read-uncounted g p = counted-call [] (g.input ∷ []) (given_check g) g p

pub batch-uncounted : (g : Given) → Passes16 g → uncounted (correct_batch g) ≡ correct_batch (without_counts g)
unfolding correct_batch without_counts
batch-uncounted g p = counted-call (10 ∷ []) (lines g.input) (given_check g or_else unless (batch_right g.input) 6) g p
