-- Document 02, W14, of two accepted batch calls with the same set and job, whatever index and counts each offers.
use Prim.Native.Nat.{ℕ, zero, suc, ◌+◌, ◌-◌, ◌<◌}
use native.Mathlib.Omega.{arith}
use mathlib.Core.Path.{◌≡◌, refl, sym, ap, ap₂, ◌∙◌}
use mathlib.Core.Option.{none}
use mathlib.Core.List.{List, [], ◌∷◌, ◌++◌, map, append-nil, append_assoc}
use lib.ListN.{length, get_or, take, drop, replicate, length-append}
use lib.Seq.{take-append_seam, drop-append_seam, take_at}
use Rattle.rules.specs.Letters.{code}
use Rattle.rules.specs.Refusal.{accepted}
use Rattle.rules.specs.Set.{KmerSet, offering, set_of, opened}
use Rattle.rules.specs.Index.{index_check}
use Rattle.rules.specs.Graph.{All, end, also}
use Rattle.rules.specs.Job.{Entry, entries_of, lines_from, lines, result}
use Rattle.rules.specs.Report.{Report}
use Rattle.rules.specs.Counts.{passes_of, all_passes}
use Rattle.rules.specs.Calls.{Given, results, report, correct_batch}
use Rattle.rules_laws.proofs.Offered.{same-all as passes-indexed}
use Rattle.rules_laws.proofs.Told.{same-all as passes-counted}
use Rattle.rules_fasta.specs.Shares.{given_set, SameJob, share, share_in, SameCounts}
use Rattle.rules_fasta.proofs.Lines.{No, line_read, lines-free}
use Rattle.rules_fasta.proofs.Written.{result-free}
use Rattle.rules_fasta.proofs.Shares.{Opens, result-same, share-same, report-supported}
use Rattle.rules_fasta.proofs.Batch.{Accepted, batch-accepted}
use Rattle.rules_batches.specs.Batches.{line_at, result_in, place_in, place_at, bytes_at, passes_at, share_at, text_by, Tells, SameLine}
use Rattle.rules_batches.proofs.Lists.{results_at, passes-in, own_share}
use Rattle.rules_fasta.proofs.Calls.{regroup}

-- ---- passes, whatever is offered

passes-any : (bytes : List ℕ) (set : KmerSet) → opened bytes ≡ accepted set → (index counts : List ℕ) → index_check set index ≡ none
    → (es : List Entry) (reads : List (List ℕ)) → all_passes (offering index counts set) es reads ≡ all_passes (offering [] [] set) es reads
passes-any bytes set o index counts passes es reads = passes-indexed bytes set o index counts passes es reads ∙ passes-counted set [] counts es reads

-- Two calls with the same set and job.
passes_same : (g h : Given) → SameJob g h → Opens g → Opens h → (read : List ℕ)
    → passes_of (given_set g) (entries_of g.job) read ≡ passes_of (given_set h) (entries_of h.job) read
unfolding given_set all_passes
passes_same g h same og oh read =
    sym (append-nil (passes_of (given_set g) (entries_of g.job) read))
    ∙ passes-any g.set (set_of g.set) og.opens g.index g.counts og.index_passes (entries_of g.job) (read ∷ [])
    ∙ ap₂ (λ (s j : List ℕ). all_passes (offering [] [] (set_of s)) (entries_of j) (read ∷ [])) same.set same.job
    ∙ sym (passes-any h.set (set_of h.set) oh.opens h.index h.counts oh.index_passes (entries_of h.job) (read ∷ []))
    ∙ append-nil (passes_of (given_set h) (entries_of h.job) read)

-- ---- an accepted call

get_d_map : {A B : Type 0} (f : A → B) (l : List A) (i : ℕ) (a : A) (b : B) → i < length l → get_or (map f l) i b ≡ f (get_or l i a)
get_d_map f [] i a b h = absurd (omega arith)
get_d_map f (x ∷ l) zero a b h = refl
get_d_map f (x ∷ l) (suc i) a b h = get_d_map f l i a b (omega arith)

module _ (g : Given) where
  abbrev set : KmerSet
  set = given_set g

  abbrev es : List Entry
  es = entries_of g.job

  abbrev ls : List (List ℕ)
  ls = lines g.input

  abbrev all : List ℕ
  all = results set es (10 ∷ []) ls

  -- The results, each with byte 10, read as lines again: no pass writes byte 10.
  lines-again : (ms : List (List ℕ)) → All (No 10) ms → lines (results set es (10 ∷ []) ms) ≡ map (result_in g) ms
  unfolding lines lines_from results result_in code
  lines-again [] end = refl
  lines-again (l ∷ ms) (also h hs) =
      line_read [] (result set es l) (results set es (10 ∷ []) ms) (result-free 10 refl set es l h)
      ∙ ap (λ (t : List (List ℕ)). result set es l ∷ t) (lines-again ms hs)

  module _ (r : Report) (a : (correct_batch g).answer ≡ accepted r) where
    how : Accepted g r
    how = batch-accepted g r a

    -- The text written is the results.
    pub text-is : text_by correct_batch g r ≡ all
    unfolding text_by report
    text-is =
        ap₂ (λ (n : ℕ) (l : List ℕ). take n l) (ap (λ (q : Report). q.written) how.reported) how.output
        ∙ take-append_seam all (replicate (length g.output - length all) 0)

    module _ (i : ℕ) (l : i < length ls) where
      -- At its place in the output stand the line's own result and byte 10.
      pub own_bytes : bytes_at g i ≡ result_in g (line_at g i) ++ (10 ∷ [])
      unfolding bytes_at place_at place_in line_at result_in
      own_bytes =
          let front : List ℕ = results set es (10 ∷ []) (take i ls) in
          let own : List ℕ = result set es (get_or ls i []) in
          let behind : List ℕ = results set es (10 ∷ []) (drop (suc i) ls) in
          let zeros : List ℕ = replicate (length g.output - length all) 0 in
          let is : (correct_batch g).output ≡ front ++ ((own ++ (10 ∷ [])) ++ (behind ++ zeros)) =
          how.output ∙ ap (λ (t : List ℕ). t ++ zeros) (results_at set es (10 ∷ []) ls i l) ∙ regroup front (own ++ (10 ∷ [])) behind zeros in
          ap (λ (t : List ℕ). take (length own + 1) (drop (length front) t)) is
          ∙ ap (take (length own + 1)) (drop-append_seam front ((own ++ (10 ∷ [])) ++ (behind ++ zeros)))
          ∙ take_at (own ++ (10 ∷ [])) (behind ++ zeros) (length own + 1) (length-append own (10 ∷ []))

      -- Line i of the text written is its own result.
      pub keeper-line : get_or (lines (text_by correct_batch g r)) i [] ≡ result_in g (line_at g i)
      unfolding line_at
      keeper-line =
          ap (λ (t : List ℕ). get_or (lines t) i []) text-is
          ∙ ap (λ (t : List (List ℕ)). get_or t i []) (lines-again ls (lines-free g.input))
          ∙ get_d_map (result_in g) ls i [] [] l

      share-told : Tells (share_in g (line_at g i)) (share_at g i)
      unfolding share_in share_at line_at
      share-told = own_share set es ls i l

-- ---- two accepted calls

-- For any two accepted batches with the same set and job, and a line with equal bytes in both.
pub own-business : (g h : Given) → SameJob g h → (r q : Report) → (correct_batch g).answer ≡ accepted r → (correct_batch h).answer ≡ accepted q
    → (i j : ℕ) → i < length (lines g.input) → j < length (lines h.input) → line_at g i ≡ line_at h j → SameLine g h r q i j
unfolding passes_at line_at result_in share_in share
own-business g h same r q a b i j li lj e =
    let og : Opens g = (batch-accepted g r a).opens in
    let oh : Opens h = (batch-accepted h q b).opens in
    let same-result : result_in g (line_at g i) ≡ result_in h (line_at h j) = ap (result_in g) e ∙ result-same g h same og oh (line_at h j) in
    let s = share-told g r a i li in
    let t = share-told h q b j lj in
    let own : share_in g (line_at g i) ≡ share_in g (line_at h j) = ap (share_in g) e in
    let c : SameCounts (share_in g (line_at h j)) (share_in h (line_at h j)) = share-same g h same og oh (line_at h j) in
    record {
      bytes = own_bytes g r a i li ∙ ap (λ (l : List ℕ). l ++ (10 ∷ [])) same-result ∙ sym (own_bytes h q b j lj);
      own_bytes = own_bytes g r a i li;
      line = keeper-line g r a i li ∙ same-result ∙ sym (keeper-line h q b j lj);
      passes =
          passes-in (given_set g) (entries_of g.job) (lines g.input) i li
          ∙ ap (passes_of (given_set g) (entries_of g.job)) e
          ∙ passes_same g h same og oh (line_at h j)
          ∙ sym (passes-in (given_set h) (entries_of h.job) (lines h.input) j lj);
      turns = s.turns ∙ ap (λ (x : Report). x.turns) own ∙ c.turns ∙ sym t.turns;
      lookups = s.lookups ∙ ap (λ (x : Report). x.lookups) own ∙ c.lookups ∙ sym t.lookups;
      attempts = s.attempts ∙ ap (λ (x : Report). x.attempts) own ∙ c.attempts ∙ sym t.attempts;
      accepted = s.accepted ∙ ap (λ (x : Report). x.accepted) own ∙ c.accepted ∙ sym t.accepted;
      bases = s.bases ∙ ap (λ (x : Report). x.bases) own ∙ c.bases ∙ sym t.bases;
      support = λ k.
          s.support ∙ ap (λ (x : Report). x.support) (own ∙ report-supported g h same og oh k (10 ∷ []) (line_at h j ∷ [])) ∙ sym t.support;
    }
