-- Document 02, W14: the report of a call beside those of its parts, whatever each offers. Of batches and of FASTA files alike.
use Prim.Native.Nat.{ℕ, ◌+◌, ◌-◌}
use native.Mathlib.Omega.{arith}
use borrow.Author.Tests.{eq-eqb, ne_eqb, eqb-true}
use mathlib.Core.Path.{◌≡◌, refl, sym, ap, ap₂, ◌∙◌, subst}
use mathlib.Core.Bool.{Bool, true, false}
use mathlib.Core.List.{List, [], ◌∷◌, ◌++◌, map, flat_map}
use lib.ListN.{length, get_or, length-append}
use lib.Dec.{eqb}
use Rattle.rules.specs.Refusal.{accepted}
use Rattle.rules.specs.Driver.{weaker}
use Rattle.rules.specs.Graph.{All, end, also}
use Rattle.rules.specs.Job.{entries_of, lines_from, lines}
use Rattle.rules.specs.Report.{Report, yield_of, quotient_of, remainder_of}
use Rattle.rules.specs.Calls.{Given, After, report}
use Rattle.rules_fasta.specs.Shares.{given_set, total, least_of, Adds, SumOf, SameCounts}
use Rattle.rules_fasta.proofs.Shares.{joined_up, sum-of-parts, same-counts, Opens, report-same, report-supported}
use Rattle.rules_fasta.proofs.Text.{Ended}
use Rattle.rules_batches.specs.Batches.{text_by, Part, reports_of, Joined}

-- ---- lists in parts

module _ {A B : Type 0} where
  pub flat-alike : (f g : A → List B) → ((a : A) → f a ≡ g a) → (l : List A) → flat_map f l ≡ flat_map g l
  unfolding flat_map
  flat-alike f g h [] = refl
  flat-alike f g h (a ∷ l) = ap₂ (λ (x y : List B). x ++ y) (h a) (flat-alike f g h l)

  flat-map : (f : A → List B) (l : List A) → joined_up (map f l) ≡ flat_map f l
  unfolding flat_map
  flat-map f [] = refl
  flat-map f (a ∷ l) = ap (λ (t : List B). f a ++ t) (flat-map f l)

  -- What goes over a list and its parts alike.
  pub flat-through : {C : Type 0} (k : List B → List C) → k [] ≡ [] → ((x y : List B) → k (x ++ y) ≡ k x ++ k y)
      → (f : A → List B) (l : List A) → k (flat_map f l) ≡ flat_map (λ a. k (f a)) l
  unfolding flat_map
  flat-through k z h f [] = z
  flat-through {C} k z h f (a ∷ l) = h (f a) (flat_map f l) ∙ ap (λ (t : List C). k (f a) ++ t) (flat-through k z h f l)

map-through : {A B C : Type 0} (f : A → B) (k : B → C) (l : List A) → map k (map f l) ≡ map (λ a. k (f a)) l
map-through f k [] = refl
map-through f k (a ∷ l) = ap (λ t. k (f a) ∷ t) (map-through f k l)

-- The lengths of parts.
lengths : {A : Type 0} (f : A → List ℕ) (g : A → Report) → ((a : A) → length (f a) ≡ (g a).written)
    → (l : List A) → length (flat_map f l) ≡ total (λ q. q.written) (map g l)
unfolding flat_map total
lengths f g h [] = refl
lengths f g h (a ∷ l) = length-append (f a) (flat_map f l) ∙ ap₂ (λ (m n : ℕ). m + n) (h a) (lengths f g h l)

-- A text that is empty or ends with byte 10, and another behind it: its lines, then the other's.
lines-append-from : (line : List ℕ) (x : ℕ) (a b : List ℕ) → get_or (x ∷ a) (length a) 0 ≡ 10
    → lines_from line ((x ∷ a) ++ b) ≡ lines_from line (x ∷ a) ++ lines_from [] b
unfolding lines_from
lines-append-from line x [] b h = rw (lines_from, eq-eqb x 10 h)
lines-append-from line x (y ∷ a) b h = go (eqb x 10) (lines-append-from [] y a b h) (lines-append-from (line ++ (x ∷ [])) y a b h)
  where
    go : (t : Bool) → lines_from [] ((y ∷ a) ++ b) ≡ lines_from [] (y ∷ a) ++ lines_from [] b
        → lines_from (line ++ (x ∷ [])) ((y ∷ a) ++ b) ≡ lines_from (line ++ (x ∷ [])) (y ∷ a) ++ lines_from [] b
        → elim t [ true ↦ line ∷ lines_from [] ((y ∷ a) ++ b) | false ↦ lines_from (line ++ (x ∷ [])) ((y ∷ a) ++ b) ]
        ≡ elim t [ true ↦ line ∷ lines_from [] (y ∷ a) | false ↦ lines_from (line ++ (x ∷ [])) (y ∷ a) ] ++ lines_from [] b
    go true i j = ap (λ (t : List (List ℕ)). line ∷ t) i
    go false i j = j

pub lines-append : (a b : List ℕ) → Ended a → lines (a ++ b) ≡ lines a ++ lines b
unfolding lines lines_from
lines-append [] b h = refl
lines-append (x ∷ a) b h =
    let n : length (x ∷ a) - 1 ≡ length a = omega arith in
    let e : eqb (get_or (x ∷ a) (length (x ∷ a) - 1) 0) 10 ≡ true = rw (ne_eqb (length (x ∷ a)) 0 (λ z. omega arith)) at h in
    lines-append-from [] x a b (sym (ap (λ (m : ℕ). get_or (x ∷ a) m 0) n) ∙ eqb-true (get_or (x ∷ a) (length (x ∷ a) - 1) 0) 10 e)

-- ---- numbers that are the same in two lists of reports

same-through : (r q s : Report) → SameCounts r q → SameCounts s q → SameCounts r s
same-through r q s a b =
    record {
      turns = a.turns ∙ sym b.turns;
      lookups = a.lookups ∙ sym b.lookups;
      attempts = a.attempts ∙ sym b.attempts;
      accepted = a.accepted ∙ sym b.accepted;
      yield = a.yield ∙ sym b.yield;
      quotient = a.quotient ∙ sym b.quotient;
      remainder = a.remainder ∙ sym b.remainder;
      bases = a.bases ∙ sym b.bases;
    }

module _ {A : Type 0} (F G : A → Report) where
  total-alike : (number : Report → ℕ) → ((a : A) → number (F a) ≡ number (G a)) → (l : List A) → total number (map F l) ≡ total number (map G l)
  unfolding total
  total-alike number h [] = refl
  total-alike number h (a ∷ l) = ap₂ (λ (m n : ℕ). m + n) (h a) (total-alike number h l)

  adds-alike : (r s : Report) → SameCounts r s → ((a : A) → SameCounts (F a) (G a)) → (l : List A) → Adds s (map F l) → Adds r (map G l)
  adds-alike r s c h l a =
      let t = total-alike (λ q. q.attempts) (λ x. (h x).attempts) l in
      let u = total-alike (λ q. q.accepted) (λ x. (h x).accepted) l in
      let v = total-alike (λ q. q.lookups) (λ x. (h x).lookups) l in
      let w = total-alike (λ q. q.bases) (λ x. (h x).bases) l in
      record {
        turns = c.turns ∙ a.turns ∙ total-alike (λ q. q.turns) (λ x. (h x).turns) l;
        lookups = c.lookups ∙ a.lookups ∙ v;
        attempts = c.attempts ∙ a.attempts ∙ t;
        accepted = c.accepted ∙ a.accepted ∙ u;
        yield = c.yield ∙ a.yield ∙ ap₂ yield_of u t;
        quotient = c.quotient ∙ a.quotient ∙ ap₂ quotient_of v w;
        remainder = c.remainder ∙ a.remainder ∙ ap₂ remainder_of v w;
        bases = c.bases ∙ a.bases ∙ w;
      }

  least-alike : (P : A → Type 0) → ((a : A) → P a → (F a).support ≡ (G a).support) → (l : List A) → All P l → least_of (map F l) ≡ least_of (map G l)
  unfolding least_of
  least-alike P h [] end = refl
  least-alike P h (a ∷ l) (also p ps) = ap₂ weaker (h a p) (least-alike P h l ps)

-- ---- calls

-- A kind of call, what stands behind each read, and the reads that it corrects.
module _ (correct : Given → After) (ending : List ℕ) (reads : Given → List (List ℕ)) where
  -- What the call's set and job report of its reads.
  abbrev whole : Given → Report
  whole g = report (given_set g) (entries_of g.job) ending (reads g)

  -- An accepted call reports on its reads by its set and job, and how long its text is.
  pub record Reports (g : Given) (r : Report) : Type 0 where
    pub opens : Opens g
    pub counts : SameCounts r (whole g)
    pub support : r.support ≡ (whole g).support
    pub written : length (text_by correct g r) ≡ r.written

  module _ (reporting : (g : Given) (r : Report) → (correct g).answer ≡ accepted r → Reports g r)
      (g : Given) (r : Report) (a : (correct g).answer ≡ accepted r) (ps : List (Part correct g)) (parted : reads g ≡ flat_map (λ p. reads p.call) ps) where
    known : Reports g r
    known = reporting g r a

    part : (p : Part correct g) → Reports p.call p.report
    part p = reporting p.call p.report p.is_accepted

    -- A part under the whole call's set and job.
    under : Part correct g → Report
    under p = report (given_set g) (entries_of g.job) ending (reads p.call)

    sums : SumOf (whole g) (map under ps)
    unfolding under
    sums =
        let f : Part correct g → List (List ℕ) = λ p. reads p.call in
        subst (λ (rs : List (List ℕ)). SumOf (report (given_set g) (entries_of g.job) ending rs) (map under ps)) (flat-map f ps ∙ sym parted)
        (subst (SumOf (report (given_set g) (entries_of g.job) ending (joined_up (map f ps)))) (map-through f (report (given_set g) (entries_of g.job) ending) ps)
        (sum-of-parts (given_set g) (entries_of g.job) ending ending (map f ps)))

    parts_add : Adds r (reports_of ps)
    unfolding reports_of under
    parts_add =
        adds-alike under (λ p. p.report) r (whole g) known.counts
        (λ p. same-through (under p) (whole p.call) p.report
        (same-counts (under p) (whole p.call) (report-same g p.call p.same known.opens (part p).opens ending (reads p.call))) (part p).counts)
        ps sums.adds

    parts-least : All (λ p. g.counts ≡ p.call.counts) ps → r.support ≡ least_of (reports_of ps)
    unfolding reports_of under
    parts-least all =
        known.support ∙ sums.support
        ∙ least-alike under (λ p. p.report) (λ p. g.counts ≡ p.call.counts)
        (λ p c.
        ap (λ (q : Report). q.support) (report-supported g p.call p.same known.opens (part p).opens c ending (reads p.call)) ∙ sym (part p).support)
        ps all

    -- Where the text is the parts', one behind the other, all of it is theirs.
    pub parts-joined : text_by correct g r ≡ flat_map (λ p. text_by correct p.call p.report) ps → Joined correct g r ps
    unfolding reports_of
    parts-joined texts =
        record {
          text = texts;
          written = sym known.written ∙ ap length texts ∙ lengths (λ p. text_by correct p.call p.report) (λ p. p.report) (λ p. (part p).written) ps;
          adds = parts_add;
          support = parts-least;
        }
