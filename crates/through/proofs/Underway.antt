-- Where a read stands on its way through the entries, pass by pass.
use Prim.Native.Nat.{ℕ, ◌+◌, ◌-◌, ◌≤◌, ◌<◌, max}
use native.Mathlib.Omega.{arith}
use mathlib.Core.Path.{◌≡◌, refl, sym, ap, ◌∙◌, subst}
use mathlib.Core.Bool.{false≢true}
use mathlib.Core.List.{List, [], ◌∷◌}
use lib.ListN.{length, take}
use lib.Seq.{length-take-le}
use Rattle.rules.specs.Set.{KmerSet}
use Rattle.rules.specs.Job.{Entry, entry_at, entry_count, entries_of, result}
use Rattle.rules.specs.Counts.{sum, passes_of, support_over}
use Rattle.rules.specs.Calls.{max_read, longest}
use Rattle.rules_laws.proofs.Job.{entries_of-length}
use Rattle.std.specs.Prelude.{Result, Ok, Err, IsErr}
use Rattle.turn.specs.declared.Counts.{Counts}
use Rattle.turn.specs.declared.Full.{Full}
use Rattle.turn.specs.Turn.{summed, Summed}
use Rattle.correct.specs.Pass.{Tally, with_bases, one_pass, tally_of, returned, PassIs, Small}
use Rattle.through.specs.Through.{through, held, ThroughIs, entries_left, both, go_on, GoneOn}
use Rattle.through.proofs.InTurn.{held-even, held-length, entries-all, entries_next, entries_over, add_small, begun, next, over, fits, long, longest-end}

-- ---- passes that do not fit

pub gone-full : (set : KmerSet) (job : List ℕ) (p : Tally) (room : ℕ) (out : List ℕ) (r : Result Counts Full) → IsErr r
    → room < longest set (entries_left job 1) p.bytes → GoneOn set job p room out r
gone-full set job p room out (Err e) is h = h
gone-full set job p room out (Ok r) is h = absurd (false≢true is)

pub through-full : (set : KmerSet) (es : List Entry) (read : List ℕ) (room : ℕ) (out : List ℕ) (r : Result Counts Full) → IsErr r
    → room < longest set es read → ThroughIs set es read room out r
through-full set es read room out (Err e) is h = h
through-full set es read room out (Ok r) is h = absurd (false≢true is)

-- ---- the passes behind the first

-- what r wrote, and the sums s
abbrev pub behind : Counts → Counts → Counts
behind r s =
    record {
      written = r.written;
      turns = s.turns;
      lookups = s.lookups;
      attempts = s.attempts;
      accepted = s.accepted;
      support = s.support;
      bases = s.bases;
    }

module _ (set : KmerSet) (job : List ℕ) where
  abbrev n : ℕ
  n = entry_count job

  -- i passes are done, p what they wrote and counted; whole is what all passes come to, and most the longest result of a later one.
  pub record Underway (whole : Tally) (most : ℕ) (output work : List ℕ) (p : Counts) (i : ℕ) : Type 0 where
    pub low : 1 ≤ i
    pub high : i ≤ n
    pub rooms : length work ≡ length output
    pub short : length output ≤ max_read
    pub written : p.written ≤ length output
    pub counts : go_on set (tally_of p (held (n - i) output work)) (entries_left job i) ≡ whole
    pub longs : max (length output) (longest set (entries_left job i) (take p.written (held (n - i) output work))) ≡ max (length output) most
    pub small : Small i (tally_of p (held (n - i) output work))

  -- what all passes come to by the first's counts and bytes
  abbrev pub whole_of : List ℕ → List ℕ → Counts → Tally
  whole_of output work first = go_on set (tally_of first (held (n - 1) output work)) (entries_left job 1)

  abbrev pub most_of : List ℕ → List ℕ → Counts → ℕ
  most_of output work first = longest set (entries_left job 1) (take first.written (held (n - 1) output work))

  -- small counts stay small whatever a buffer holds
  pub small-there : (q : Tally) (first : Counts) (h out : List ℕ) → tally_of first h ≡ q → Small 1 q → Small 1 (tally_of first out)
  small-there q first h out e s =
      let t = subst (Small 1) (sym e) s in
      record { turns = t.turns; lookups = t.lookups; attempts = t.attempts; accepted = t.accepted; bases = t.bases }

  module _ (whole : Tally) (most : ℕ) where
    module _ (output work : List ℕ) (p : Counts) (i : ℕ) (u : Underway whole most output work p i) (more : i < n) where
      abbrev e : Entry
      e = entry_at job i

      abbrev h : List ℕ
      h = held (n - i) output work

      abbrev fed : List ℕ
      fed = take p.written h

      -- what one pass more counts
      pub next_small : (out : List ℕ) (r : Counts) → Small 1 (one_pass set e fed) → tally_of r out ≡ one_pass set e fed
          → Small (i + 1) (both (tally_of p h) (tally_of r out))
      next_small out r one d = add_small i 1 (tally_of p h) (tally_of r out) u.small (subst (Small 1) (sym d) one)

      -- one pass more
      pub next-done : (output' work' : List ℕ) (r s : Counts) → Summed p r s → length output' ≡ length output → length work' ≡ length work
          → Small 1 (one_pass set e fed)
          → PassIs (length output) (held (n - i - 1) output' work') (one_pass set e fed) (Ok r)
          → Underway whole most output' work' (behind r s) (i + 1)
      next-done output' work' r s sum o w one told =
          let l = entries_left job (i + 1) in
          let split = entries_next job i more in
          let one_less : n - i - 1 ≡ n - (i + 1) = omega arith in
          let d = subst (λ (j : ℕ). PassIs (length output) (held j output' work') (one_pass set e fed) (Ok r)) one_less told in
          let h' = held (n - (i + 1)) output' work' in
          let rooms : length work' ≡ length output' = w ∙ u.rooms ∙ sym o in
          let room = held-length (n - i) output work u.rooms in
          let room' = held-length (n - (i + 1)) output' work' rooms in
          let bytes = ap (λ (q : Tally). q.bytes) d.0 in
          let len : length (one_pass set e fed).bytes ≤ length output = omega (arith, ap length bytes, length-take-le r.written h' d.1, d.1) in
          let joint : tally_of (behind r (summed p r s.support)) h' ≡ both (tally_of p h) (tally_of r h') =
          λ v. record {
            bytes = take r.written h';
            turns = p.turns + r.turns;
            lookups = p.lookups + r.lookups;
            attempts = p.attempts + r.attempts;
            accepted = p.accepted + r.accepted;
            support = sum.weaker_is v;
            bases = p.bases + r.bases;
          } in
          subst (λ (q : Counts). Underway whole most output' work' (behind r q) (i + 1)) (sym sum.is)
          (record {
            low = omega arith;
            high = omega arith;
            rooms = rooms;
            short = omega (arith, u.short);
            written = omega (arith, d.1);
            counts = ap (λ (q : Tally). go_on set q l) joint
                ∙ ap (λ (q : Tally). go_on set (both (tally_of p h) q) l) d.0
                ∙ next set (tally_of p h) e l
                ∙ ap (go_on set (tally_of p h)) (sym split)
                ∙ u.counts;
            longs = rw o
                (ap (λ (x : List ℕ). max (length output) (longest set l x)) bytes
                ∙ fits set (length output) e l fed len
                ∙ ap (λ (x : List Entry). max (length output) (longest set x fed)) (sym split)
                ∙ u.longs);
            small = subst (Small (i + 1)) (sym joint) (next_small h' r one d.0);
          })

      -- a pass that does not fit
      pub next-full : length output < length (one_pass set e fed).bytes → length output < most
      next-full g =
          let here = long set (length output) e (entries_left job (i + 1)) fed g in
          let later = subst (λ (x : List Entry). length output < longest set x fed) (sym (entries_next job i more)) here in
          omega (arith, u.longs)

    -- all passes are done
    pub all_done : (output work : List ℕ) (p : Counts) (i : ℕ) → Underway whole most output work p i → n ≤ i
        → (tally_of p output ≡ whole) × (p.written ≤ length output) × (most ≤ length output) × Small n (tally_of p output)
    all_done output work p i u h =
        let none_left : n - i ≡ 0 = omega arith in
        let at : held (n - i) output work ≡ output = ap (λ (j : ℕ). held j output work) none_left ∙ held-even 0 output work refl in
        let end = entries_over job i h in
        let counts = rw (at, end) at u.counts in
        let longs = rw (at, end) at u.longs in
        let i-is : i ≡ n = omega (arith, u.high) in (
          sym (over set (tally_of p output)) ∙ counts,
          u.written,
          omega (arith, longs, longest-end set (take p.written output), length-take-le p.written output u.written, u.written),
          subst (λ (j : ℕ). Small j (tally_of p output)) i-is (rw at at u.small),
        )

-- ---- a read through all entries

module _ (set : KmerSet) (job read : List ℕ) where
  abbrev es : List Entry
  es = entries_of job

  abbrev entries : ℕ
  entries = entry_count job

  -- without entries
  pub none_done : (output output' : List ℕ) (r : Result Counts Full) → entries ≡ 0 → length output' ≡ length output
      → PassIs (length output) output' (with_bases (returned read) 0) r → ThroughIs set es read (length output) output' r
  unfolding through passes_of sum support_over result longest
  none_done output output' (Ok r) none o d =
      let end : es ≡ [] = entries-all job ∙ entries_over job 0 (omega arith) in
      let len = ap (λ (p : Tally). length p.bytes) d.0 in
      rw end (
        d.0,
        d.1,
        omega (arith, len, length-take-le r.written output' d.1, d.1),
        subst (Small 0) (sym d.0) (record { turns = omega arith; lookups = omega arith; attempts = omega arith; accepted = omega arith; bases = omega arith }),
      )
  none_done output output' (Err full) none o d =
      let end : es ≡ [] = entries-all job ∙ entries_over job 0 (omega arith) in
      rw end d

  module _ (some : 0 < entries) where
    abbrev p : Tally
    p = one_pass set (entry_at job 0) read

    abbrev l : List Entry
    l = entries_left job 1

    split : es ≡ entry_at job 0 ∷ l
    split = entries-all job ∙ entries_next job 0 some

    pub first-full : (room : ℕ) → room < length p.bytes → room < longest set es read
    first-full room g = subst (λ (x : List Entry). room < longest set x read) (sym split) (long set room (entry_at job 0) l read g)

    -- The first pass, held by a buffer with that room, and those behind it.
    pub all-through : (room : ℕ) (h out : List ℕ) (first : Counts) (r : Result Counts Full) → tally_of first h ≡ p → first.written ≤ length h → length h ≡ room
        → GoneOn set job (tally_of first h) room out r → ThroughIs set es read room out r
    all-through room h out first r e w same g = go r (subst (λ (q : Tally). GoneOn set job q room out r) e g)
      where
        len : length p.bytes ≤ room
        len = omega (arith, ap (λ (q : Tally). length q.bytes) e, length-take-le first.written h w, w)

        longs : max room (longest set l p.bytes) ≡ max room (longest set es read)
        longs = fits set room (entry_at job 0) l read len ∙ ap (λ (x : List Entry). max room (longest set x read)) (sym split)

        go : (r : Result Counts Full) → GoneOn set job p room out r → ThroughIs set es read room out r
        go (Ok r) d = (
          d.0 ∙ begun set (entry_at job 0) l read ∙ ap (λ (x : List Entry). through set x read) (sym split),
          d.1,
          omega (arith, longs, d.2),
          subst (λ (j : ℕ). Small j (tally_of r out)) (sym (entries_of-length job)) d.3,
        )
        go (Err full) d = omega (arith, longs, d)
