-- Document 02, W14 for FASTA records: a record minds its own business, and a file is split before name lines.
use Prim.Native.Nat.{ℕ, suc, ◌+◌, ◌-◌, ◌≤◌, ◌<◌}
use native.Mathlib.Omega.{arith}
use borrow.Author.Tests.{leb-true, le-leb}
use mathlib.Core.Path.{◌≡◌, refl, sym, ap, ap₂, ◌∙◌, subst}
use mathlib.Core.Bool.{Bool, true, false, ◌||◌, false≢true}
use mathlib.Core.Option.{none}
use mathlib.Core.List.{List, [], ◌∷◌, ◌++◌, flat_map}
use lib.ListN.{length, get_or, take, length-append}
use lib.Seq.{take-append_seam}
use lib.Dec.{eqb, leb}
use Rattle.rules.specs.Refusal.{accepted, ◌or_else◌, unless, at_place}
use Rattle.rules.specs.Set.{KmerSet, set_of, opened}
use Rattle.rules.specs.Job.{Entry, entries_of, lines}
use Rattle.rules.specs.Report.{Report}
use Rattle.rules.specs.Calls.{Given, After, max_read, buffers_right, job_check, offer_check}
use Rattle.rules_laws.proofs.Opened.{both, passed-15, opened-check}
use Rattle.rules_laws.proofs.Upward.{state_check}
use Rattle.rules_fasta.specs.Fasta.{is_name, Record, joined, records_of, records, reads_of, max_records, file_right, line_right, first_wrong, with_written, text, texts, no_room_at, fasta_report, correct_fasta}
use Rattle.rules_fasta.specs.Shares.{given_set, SameJob, share, share_in, SameCounts}
use Rattle.rules_fasta.specs.Promised.{record_at, text_place}
use Rattle.rules_fasta.proofs.Shares.{Opens, result-same, longest-same, share-same, report-supported}
use Rattle.rules_fasta.proofs.Text.{Ended, right-step, texts-append, room-later, room_next}
use Rattle.rules_fasta.proofs.Batch.{input-short}
use Rattle.rules_fasta.proofs.Calls.{text-alike, texts-alike, no-room-alike, records-fit, fasta_checks, fasta-passed, accepted-is, text-is, text-stands}
use Rattle.rules_batches.specs.Batches.{text_by, Part, input_of, Joined, SameRecord}
use Rattle.rules_batches.proofs.Parts.{flat-alike, flat-through, lines-append, Reports, parts-joined}

-- ---- two calls with the same set and job

module _ (g h : Given) (same : SameJob g h) (og : Opens g) (oh : Opens h) where
  text_same : (r : Record) → text (given_set g) (entries_of g.job) r ≡ text (given_set h) (entries_of h.job) r
  text_same = text-alike (given_set g) (given_set h) (entries_of g.job) (entries_of h.job) (result-same g h same og oh) (longest-same g h same og oh)

  texts-same : (rs : List Record) → texts (given_set g) (entries_of g.job) rs ≡ texts (given_set h) (entries_of h.job) rs
  texts-same = texts-alike (given_set g) (given_set h) (entries_of g.job) (entries_of h.job) (result-same g h same og oh) (longest-same g h same og oh)

  no-room-same : (i left : ℕ) (rs : List Record)
      → no_room_at (given_set g) (entries_of g.job) i left rs ≡ no_room_at (given_set h) (entries_of h.job) i left rs
  no-room-same = no-room-alike (given_set g) (given_set h) (entries_of g.job) (entries_of h.job) (result-same g h same og oh) (longest-same g h same og oh)

-- A record with equal name line and read in two accepted files: the same text at its place, the same share.
pub own-record : (g h : Given) → SameJob g h → (r q : Report) → (correct_fasta g).answer ≡ accepted r → (correct_fasta h).answer ≡ accepted q
    → (i j : ℕ) → i < length (records g.input) → j < length (records h.input) → record_at g i ≡ record_at h j → SameRecord g h i j
unfolding share_in share
own-record g h same r q a b i j li lj e =
    let og : Opens g = (accepted-is g r a).opens in
    let oh : Opens h = (accepted-is h q b).opens in
    record {
      text = text-stands g r a i li ∙ ap (text (given_set g) (entries_of g.job)) e ∙ text_same g h same og oh (record_at h j) ∙ sym (text-stands h q b j lj);
      counts = subst (λ (x : Record). SameCounts (share_in g x.read) (share_in h (record_at h j).read)) (sym e) (share-same g h same og oh (record_at h j).read);
      support = λ c.
          ap (λ (x : Record). (share_in g x.read).support) e
          ∙ ap (λ (x : Report). x.support) (report-supported g h same og oh c (10 ∷ []) ((record_at h j).read ∷ []));
    }

-- ---- the text of a file and of its parts

abbrev reads_in : Given → List (List ℕ)
reads_in g = reads_of (records g.input)

-- The text written is the records' texts.
fasta-text : (g : Given) (r : Report) → (correct_fasta g).answer ≡ accepted r → text_by correct_fasta g r ≡ texts (given_set g) (entries_of g.job) (records g.input)
unfolding text_by
fasta-text g r a = text-is g r a

fasta-reports : (g : Given) (r : Report) → (correct_fasta g).answer ≡ accepted r → Reports correct_fasta [] reads_in g r
unfolding fasta_report with_written
fasta-reports g r a =
    let h = accepted-is g r a in
    record {
      opens = h.opens;
      counts = rw h.reported (record { turns = refl; lookups = refl; attempts = refl; accepted = refl; yield = refl; quotient = refl; remainder = refl; bases = refl });
      support = ap (λ (q : Report). q.support) h.reported;
      written = ap length (fasta-text g r a) ∙ sym (ap (λ (q : Report). q.written) h.reported);
    }

-- A right file is empty or ends with byte 10, and has few records.
ended-file : (bytes : List ℕ) → file_right bytes ≡ true → Ended bytes
unfolding file_right
ended-file bytes h = (both (eqb (length bytes) 0 || eqb (get_or bytes (length bytes - 1) 0) 10) (leb (length (records bytes)) max_records) h).0

few-records : (bytes : List ℕ) → file_right bytes ≡ true → length (records bytes) ≤ max_records
unfolding file_right
few-records bytes h =
    leb-true (length (records bytes)) max_records
    (both (eqb (length bytes) 0 || eqb (get_or bytes (length bytes - 1) 0) 10) (leb (length (records bytes)) max_records) h).1

-- 18 passed from the start on: no sequence line stands before the first name line.
none_before : (i : ℕ) (ls : List (List ℕ)) → first_wrong false i ls ≡ none → joined ls ≡ []
unfolding joined line_right is_name
none_before i [] h = refl
none_before i ([] ∷ ls) h = none_before (suc i) ls (right-step false i [] ls h).1
none_before i ((b ∷ bs) ∷ ls) h = go (is_name (b ∷ bs)) refl (right-step false i (b ∷ bs) ls h).0
  where
    go : (t : Bool) → is_name (b ∷ bs) ≡ t → line_right false (b ∷ bs) ≡ true → joined ((b ∷ bs) ∷ ls) ≡ []
    go true e r = rw (joined, e)
    go false e r = absurd (false≢true (rw (line_right, e) at r))

module _ (ms : List (List ℕ)) (starts : joined ms ≡ []) where
  joined-append : (ls : List (List ℕ)) → joined (ls ++ ms) ≡ joined ls
  unfolding joined
  joined-append [] = starts
  joined-append (l ∷ ls) = ap (λ (t : List ℕ). elim (is_name l) [ true ↦ [] | false ↦ l ++ t ]) (joined-append ls)

  records_of-append : (ls : List (List ℕ)) → records_of (ls ++ ms) ≡ records_of ls ++ records_of ms
  unfolding records_of
  records_of-append [] = refl
  records_of-append (l ∷ ls) = go (is_name l) (joined-append ls) (records_of-append ls)
    where
      go : (t : Bool) → joined (ls ++ ms) ≡ joined ls → records_of (ls ++ ms) ≡ records_of ls ++ records_of ms
          → ◌≡◌ {A = List Record} (elim t [ true ↦ record { name = l; read = joined (ls ++ ms) } ∷ records_of (ls ++ ms) | false ↦ records_of (ls ++ ms) ])
          (elim t [ true ↦ record { name = l; read = joined ls } ∷ records_of ls | false ↦ records_of ls ] ++ records_of ms)
      go true j i = ap₂ (λ (x : List ℕ) (y : List Record). record { name = l; read = x } ∷ y) j i
      go false j i = i

-- A file that is empty or ends with byte 10, and behind it one that begins with a name line.
records-append : (a b : List ℕ) → Ended a → joined (lines b) ≡ [] → (records (a ++ b) ≡ records a ++ records b) × (joined (lines (a ++ b)) ≡ joined (lines a))
unfolding records
records-append a b e j = (
  ap records_of (lines-append a b e) ∙ records_of-append (lines b) j (lines a),
  ap joined (lines-append a b e) ∙ joined-append (lines b) j (lines a),
)

reads-append : (rs qs : List Record) → reads_of (rs ++ qs) ≡ reads_of rs ++ reads_of qs
unfolding reads_of
reads-append [] qs = refl
reads-append (r ∷ rs) qs = ap (λ (t : List (List ℕ)). r.read ∷ t) (reads-append rs qs)

module _ (g : Given) (r : Report) (a : (correct_fasta g).answer ≡ accepted r) where
  records-parts : (ps : List (Part correct_fasta g)) → (records (input_of ps) ≡ flat_map (λ p. records p.call.input) ps) × (joined (lines (input_of ps)) ≡ [])
  unfolding input_of flat_map lines records
  records-parts [] = (refl, refl)
  records-parts (p ∷ ps) =
      let i = records-parts ps in
      let k = accepted-is p.call p.report p.is_accepted in
      let w = records-append p.call.input (input_of ps) (ended-file p.call.input k.right_file) i.1 in (
        w.0 ∙ ap (λ (t : List Record). records p.call.input ++ t) i.0,
        w.1 ∙ none_before 0 (lines p.call.input) k.lines_right,
      )

  -- An accepted file that is made of accepted files, one behind the other.
  pub fasta-split : (ps : List (Part correct_fasta g)) → g.input ≡ input_of ps → Joined correct_fasta g r ps
  unfolding texts reads_of
  fasta-split ps parted =
      let all : records g.input ≡ flat_map (λ p. records p.call.input) ps = ap records parted ∙ (records-parts ps).0 in
      let reads : reads_in g ≡ flat_map (λ p. reads_in p.call) ps =
      ap reads_of all ∙ flat-through reads_of refl reads-append (λ p. records p.call.input) ps in
      let k : List Record → List ℕ = texts (given_set g) (entries_of g.job) in
      let joined : text_by correct_fasta g r ≡ flat_map (λ p. text_by correct_fasta p.call p.report) ps =
      fasta-text g r a
      ∙ ap k all
      ∙ flat-through k refl (texts-append (given_set g) (entries_of g.job)) (λ p. records p.call.input) ps
      ∙ flat-alike (λ p. k (records p.call.input)) (λ p. text_by correct_fasta p.call p.report)
      (λ p.
      texts-same g p.call p.same (accepted-is g r a).opens (accepted-is p.call p.report p.is_accepted).opens (records p.call.input)
      ∙ sym (fasta-text p.call p.report p.is_accepted)) ps in
      parts-joined correct_fasta [] reads_in fasta-reports g r a ps reads joined

-- ---- a part is accepted

module _ (set : KmerSet) (es : List Entry) where
  -- The records behind some others.
  room-behind : (i left : ℕ) (rs qs : List Record) → no_room_at set es i left (rs ++ qs) ≡ none
      → no_room_at set es (i + length rs) (left - length (texts set es rs)) qs ≡ none
  unfolding texts
  room-behind i left [] qs h =
      let e : i + length {A = Record} [] ≡ i = omega arith in
      let f : left - length {A = ℕ} [] ≡ left = omega arith in
      rw (e, f) h
  room-behind i left (r ∷ rs) qs h =
      let n = length-append (text set es r) (texts set es rs) in
      let x : suc i + length rs ≡ i + length (r ∷ rs) = omega arith in
      let y : left - length (text set es r) - length (texts set es rs) ≡ left - length (text set es r ++ texts set es rs) = omega arith in
      subst (λ (j : ℕ). no_room_at set es j (left - length (texts set es (r ∷ rs))) qs ≡ none) x
      (subst (λ (j : ℕ). no_room_at set es (suc i + length rs) j qs ≡ none) y
      (room-behind (suc i) (left - length (text set es r)) rs qs (room_next set es i left r (rs ++ qs) h).2))

  -- Some records of more, whatever number the first has, where no less is left.
  room-before : (i j left more : ℕ) (rs qs : List Record) → left ≤ more → no_room_at set es i left (rs ++ qs) ≡ none → no_room_at set es j more rs ≡ none
  unfolding no_room_at
  room-before i j left more [] qs le h = refl
  room-before i j left more (r ∷ rs) qs le h =
      let w = room_next set es i left r (rs ++ qs) h in
      room-later set es j more r rs (omega (arith, w.0)) (omega (arith, w.1))
      ∙ room-before (suc i) (suc j) (left - length (text set es r)) (more - length (text set es r)) rs qs (omega arith) w.2

-- A file that stands between two others in an accepted one, the first empty or with a final byte 10, itself and what stands behind it passed by 18, so
-- that each begins with a name line: accepted where its buffers are within the limits, what it offers passes 15 and 16, and its output is no shorter
-- than what was left before its first name line.
pub fasta-part-accepted : (g : Given) (r : Report) → (correct_fasta g).answer ≡ accepted r → (h : Given) → SameJob g h
    → (front behind : List ℕ) → g.input ≡ front ++ (h.input ++ behind) → Ended front → Ended h.input
    → first_wrong false 0 (lines h.input) ≡ none → first_wrong false 0 (lines behind) ≡ none
    → buffers_right (length h.input) (length h.output) (length h.work) ≡ true → offer_check (set_of h.set) h.index h.counts ≡ none
    → length g.output - text_place g (length (records front)) ≤ length h.output → (q : Report) × ((correct_fasta h).answer ≡ accepted q)
unfolding file_right text_place fasta_checks state_check unless at_place ◌or_else◌
fasta-part-accepted g r a h same front behind input ef eh starts next fine offers room =
    let k = accepted-is g r a in
    let gs : KmerSet = given_set g in
    let ge : List Entry = entries_of g.job in
    let inner = records-append h.input behind eh (none_before 0 (lines behind) next) in
    let all : records g.input ≡ records front ++ (records h.input ++ records behind) =
    ap records input ∙ (records-append front (h.input ++ behind) ef (inner.1 ∙ none_before 0 (lines h.input) starts)).0
    ∙ ap (λ (t : List Record). records front ++ t) inner.0 in
    let oh : Opens h =
    record {
      opens = subst (λ (s : List ℕ). opened s ≡ accepted (set_of s)) same.set k.opens.opens;
      index_passes = passed-15 (set_of h.set) h.index h.counts offers;
    } in
    let few : length (records h.input) ≤ max_records =
    omega (
      arith,
      few-records g.input k.right_file,
      ap length all,
      length-append (records front) (records h.input ++ records behind),
      length-append (records h.input) (records behind),
    ) in
    let right : file_right h.input ≡ true = rw (eh, le-leb (length (records h.input)) max_records few) in
    let short : leb (length h.input) max_read ≡ true =
    le-leb (length h.input) max_read (input-short (length h.input) (length h.output) (length h.work) fine) in
    let job : job_check h.job ≡ none = subst (λ (j : List ℕ). job_check j ≡ none) same.job k.job_passed in
    let passes : fasta_checks h ≡ none = rw (short, job, fine, right, starts, opened-check h.set (set_of h.set) oh.opens, offers) in
    let before : text_place g (length (records front)) ≡ length (texts gs ge (records front)) =
    ap (λ (t : List Record). length (texts gs ge (take (length (records front)) t))) all
    ∙ ap (λ (t : List Record). length (texts gs ge t)) (take-append_seam (records front) (records h.input ++ records behind)) in
    let fits : no_room_at gs ge 0 (length h.output) (records h.input) ≡ none =
    room-before gs ge (0 + length (records front)) 0 (length g.output - length (texts gs ge (records front))) (length h.output)
    (records h.input) (records behind) (omega (arith, before, room))
    (room-behind gs ge 0 (length g.output) (records front) (records h.input ++ records behind)
    (subst (λ (t : List Record). no_room_at gs ge 0 (length g.output) t ≡ none) all k.fits)) in
    let has_room = sym (no-room-same g h same k.opens oh 0 (length h.output) (records h.input)) ∙ fits in (
      fasta_report (given_set h) (entries_of h.job) (records h.input),
      ap (λ (t : After). t.answer) (fasta-passed h passes ∙ records-fit (given_set h) (entries_of h.job) h (records h.input) has_room),
    )
