-- What the papers ask to be proved of the rules: of every set that opens, every index and counts offered with it, every list of entries with confirms from 1, every list of reads.
use Prim.Native.Nat.{ℕ, zero, suc, ◌*◌, ◌-◌, ◌≤◌, ◌<◌}
use native.Mathlib.Omega.{arith}
use borrow.Author.Tests.{ltb-true, ltb-false}
use mathlib.Core.Path.{◌≡◌, refl, sym, subst}
use mathlib.Core.Bool.{Bool, true, false}
use mathlib.Core.Option.{none, some}
use mathlib.Core.List.{List, [], ◌∷◌, ◌++◌}
use lib.ListN.{length, take}
use lib.Dec.{ltb}
use Rattle.rules.specs.Letters.{Kmer, all_known, same, add_base}
use Rattle.rules.specs.Refusal.{accepted}
use Rattle.rules.specs.Set.{KmerSet, offering, solid, count_of, opened}
use Rattle.rules.specs.Counted.{Try, refuse}
use Rattle.rules.specs.Scan.{ask, alternative, error_len}
use Rattle.rules.specs.Exist.{Mend}
use Rattle.rules.specs.Graph.{All, also, start, walk, walk_from, Exactly}
use Rattle.rules.specs.Driver.{State, turn, turns_of, begin}
use Rattle.rules.specs.Job.{Method, One, Two, Graph, GapSize, Entry, Confirmed, correct_error, pass}
use Rattle.rules.specs.Counts.{Fed, sum, all_passes, turns, lookups, w_of}
use Rattle.rules_ceiling.specs.Ceiling.{F, ceiling, Demand3}
use Rattle.rules_laws.proofs.Opened.{opened-pos}
use Rattle.rules_laws.proofs.Job.{all-confirmed}
use Rattle.rules_laws.proofs.Few.{few}
use Rattle.rules_laws.proofs.Driver.{Steady, drive-turns, turns-fuel, takes-base, turns_of-grows, refused-kept}
use Rattle.rules_laws.proofs.Lookups.{Fair, fair-steady, drive-lookups, drive-short}
use Rattle.rules_laws.proofs.Walk.{walk-cost, walk-fuel}
use Rattle.rules_laws.proofs.Correctors.{one-fair, two-fair, graph-fair, gap-fair}
use Rattle.rules_laws.proofs.Exactly.{no-chain, x-good, graph-exactly, gap_size-exactly}

-- ---- every method is fair to its F

fair-at : (j : ℕ) (keys index counts : List ℕ) (c' : ℕ) (m : Method)
    → (let set : KmerSet = record { k = suc j; keys = keys; index = index; counts = counts } in Fair (suc j) (solid set) (correct_error set (suc c') m) (F set (suc c') m))
unfolding F correct_error
fair-at j keys index counts c' One = one-fair j (solid (record { k = suc j; keys = keys; index = index; counts = counts })) c' _ (omega arith)
fair-at j keys index counts c' Two = two-fair j (solid (record { k = suc j; keys = keys; index = index; counts = counts })) c' _ (omega arith)
fair-at j keys index counts c' Graph = graph-fair (suc j) (length keys) (solid (record { k = suc j; keys = keys; index = index; counts = counts })) _ (omega arith)
fair-at j keys index counts c' GapSize =
    gap-fair j (length keys) (solid (record { k = suc j; keys = keys; index = index; counts = counts })) c' (few (record { k = suc j; keys = keys; index = index; counts = counts })) _ (omega arith)

pub fair : (set : KmerSet) → 1 ≤ set.k → (c : ℕ) → 1 ≤ c → (m : Method) → Fair set.k (solid set) (correct_error set c m) (F set c m)
fair set lk c lc m = go set.k c refl refl lk lc
  where
    go : (k' c₁ : ℕ) → set.k ≡ k' → c ≡ c₁ → 1 ≤ k' → 1 ≤ c₁ → Fair set.k (solid set) (correct_error set c m) (F set c m)
    go zero c₁ e f p q = absurd (omega arith)
    go (suc j) zero e f p q = absurd (omega arith)
    go (suc j) (suc c') e f p q =
        let same : set ≡ record { k = suc j; keys = set.keys; index = set.index; counts = set.counts } = λ i. record { k = e i; keys = set.keys; index = set.index; counts = set.counts } in
        subst (λ (s : KmerSet). Fair s.k (solid s) (correct_error s c m) (F s c m)) (sym same)
        (subst (λ (d : ℕ). Fair (suc j) (solid (record { k = suc j; keys = set.keys; index = set.index; counts = set.counts })) (correct_error (record { k = suc j; keys = set.keys; index = set.index; counts = set.counts }) d m)
        (F (record { k = suc j; keys = set.keys; index = set.index; counts = set.counts }) d m)) (sym f) (fair-at j set.keys set.index set.counts c' m))

pub steady : (set : KmerSet) → 1 ≤ set.k → (c : ℕ) → 1 ≤ c → (m : Method) → Steady set.k (solid set) (correct_error set c m)
steady set lk c lc m = fair-steady set.k (solid set) (correct_error set c m) (F set c m) (fair set lk c lc m)

sum-le : (f g : Fed → ℕ) → ((p : Fed) → 1 ≤ p.entry.confirm → f p ≤ g p) → (ps : List Fed) → All (λ p. 1 ≤ p.entry.confirm) ps → sum f ps ≤ sum g ps
unfolding sum
sum-le f g h [] a = omega arith
sum-le f g h (p ∷ ps) (also q a) = omega (arith, h p q, sum-le f g h ps a)

sum_twice : (f : Fed → ℕ) (ps : List Fed) → sum (λ p. 2 * f p) ps ≡ 2 * sum f ps
unfolding sum
sum_twice f [] = refl
sum_twice f (p ∷ ps) = let i = sum_twice f ps in omega arith

-- A set that opens, with whatever index and counts are offered.
module _ (bytes : List ℕ) (file : KmerSet) (o : opened bytes ≡ accepted file) (index counts : List ℕ) where
  abbrev set : KmerSet
  set = offering index counts file

  abbrev k : ℕ
  k = set.k

  abbrev n : ℕ
  n = length set.keys

  k-pos : 1 ≤ k
  unfolding offering
  k-pos = opened-pos bytes file o

  -- ---- the theorem `ceilings`: demand 3

  pass-turns : (p : Fed) → 1 ≤ p.entry.confirm → turns set p ≤ 2 * w_of set p
  unfolding turns pass w_of
  pass-turns p pos =
      let c = p.entry.confirm in
      let m = p.entry.method in
      drive-turns k (solid set) (count_of set) (correct_error set c m) (steady set k-pos c pos m) p.bytes

  pass-lookups : (p : Fed) → 1 ≤ p.entry.confirm → lookups set p ≤ ceiling set p
  unfolding lookups pass ceiling w_of
  pass-lookups p pos = go (ltb (length p.bytes) k) refl
    where
      c : ℕ
      c = p.entry.confirm

      m : Method
      m = p.entry.method

      ce : List ℕ → Kmer → Try Mend
      ce = correct_error set c m

      go : (b : Bool) → ltb (length p.bytes) k ≡ b → lookups set p ≤ ceiling set p
      go true e = rw (e, ceiling) (omega (arith, drive-short k (solid set) (count_of set) ce (F set c m) p.bytes (ltb-true _ _ e)))
      go false e = rw (e, ceiling) (drive-lookups k (solid set) (count_of set) ce (F set c m) (fair set k-pos c pos m) p.bytes (ltb-false _ _ e))

  pub ceilings : (es : List Entry) → Confirmed es → (reads : List (List ℕ))
      → (let ps : List Fed = all_passes set es reads in Demand3 set es reads (sum (turns set) ps) (sum (lookups set) ps))
  ceilings es pos reads =
      let ps = all_passes set es reads in
      let a = all-confirmed set es pos reads in
      record {
        turns_are = refl;
        lookups_are = refl;
        turns_under = subst (λ (l : ℕ). sum (turns set) ps ≤ l) (sum_twice (w_of set) ps) (sum-le (turns set) (λ p. 2 * w_of set p) pass-turns ps a);
        lookups_under = sum-le (lookups set) (ceiling set) pass-lookups ps a;
      }

  -- ---- the theorem `exactly`: demand 2, at each attempt, s the rest of the read and y the bad k-mer

  pub graph-exactly-chain : (c : ℕ) (s : List ℕ) (y : Kmer) → Exactly k (solid set) s y (correct_error set c Graph s y)
  unfolding correct_error
  graph-exactly-chain c s y = graph-exactly k n (solid set) (few set) s y

  pub gap_size-exactly-chain : (c : ℕ) (s : List ℕ) (y : Kmer) → (error_len k (solid set) y s).index < k → Exactly k (solid set) s y (correct_error set c GapSize s y)
  unfolding correct_error
  gap_size-exactly-chain c s y lt = gap_size-exactly k n (solid set) (few set) s y c lt

  -- No chain leads to a T that holds an unknown letter: neither Graph nor GapSize with index below k then gives a mend.
  pub graph-unknown-end : (c : ℕ) (s : List ℕ) (y : Kmer) → all_known (error_len k (solid set) y s).end ≡ false → (correct_error set c Graph s y).answer ≡ none
  graph-unknown-end c s y u = no-chain k (solid set) s y (correct_error set c Graph s y) (graph-exactly-chain c s y) u

  pub gap_size-unknown-end : (c : ℕ) (s : List ℕ) (y : Kmer) → (error_len k (solid set) y s).index < k
      → all_known (error_len k (solid set) y s).end ≡ false → (correct_error set c GapSize s y).answer ≡ none
  gap_size-unknown-end c s y lt u = no-chain k (solid set) s y (correct_error set c GapSize s y) (gap_size-exactly-chain c s y lt) u

  -- ---- the theorem `fuel`: no fuel of the rules ever runs out. Serves demand 1

  -- From x, the alternative at a bad k-mer: any larger fuel gives the same walk.
  pub walk-fuel-enough : (y x : Kmer) → (alternative k (solid set) y).answer ≡ some x → (t : Kmer) (f : ℕ) → 6 * n ≤ f
      → walk k (solid set) f t (start x) ≡ walk k (solid set) (6 * n) t (start x)
  walk-fuel-enough y x a t f le = walk-fuel k n (solid set) (few set) x (x-good k (solid set) y x a) f t (omega arith)

  -- A walk makes fewer than 6n moves.
  pub walk-moves : (y x : Kmer) → (alternative k (solid set) y).answer ≡ some x → (t : Kmer)
      → (walk_from k n (solid set) t x).lookups ≤ 4 * (6 * n - 1)
  unfolding walk_from refuse start
  walk-moves y x a t = go (same x t) refl
    where
      go : (q : Bool) → same x t ≡ q → (walk_from k n (solid set) t x).lookups ≤ 4 * (6 * n - 1)
      go true e = rw (e, walk_from) (omega arith)
      go false e =
          let same = walk-fuel k n (solid set) (few set) x (x-good k (solid set) y x a) (6 * n - 1) t (omega arith) in
          rw (e, walk_from, ← same) (omega (arith, walk-cost k (solid set) (6 * n - 1) t (start x)))

  module _ (c : ℕ) (c_pos : 1 ≤ c) (m : Method) where
    abbrev ce : List ℕ → Kmer → Try Mend
    ce = correct_error set c m

    -- Any larger fuel gives the same pass.
    pub pass-fuel-enough : (read : List ℕ) (f : ℕ) → 2 * (length read - k) ≤ f
        → turns_of k (solid set) (count_of set) ce f (begin k (solid set) (count_of set) ce read) ≡ turns_of k (solid set) (count_of set) ce (2 * (length read - k)) (begin k (solid set) (count_of set) ce read)
    pass-fuel-enough = turns-fuel k (solid set) (count_of set) ce (steady set k-pos c c_pos m)

    -- ---- the theorem `driver`

    -- A turn that takes no base is followed by one that does. Serves demands 1 and 3.
    pub driver-takes : (st : State) (b : ℕ) (s : List ℕ) → (turn k (solid set) (count_of set) ce st b s).rest ≡ b ∷ s
        → (turn k (solid set) (count_of set) ce (turn k (solid set) (count_of set) ce st b s) b s).rest ≡ s
    driver-takes = takes-base k (solid set) (count_of set) ce (steady set k-pos c c_pos m)

    -- Bytes put out only grow. Serves refusal 11: what has no room now has none at the end.
    pub driver-grows : (f : ℕ) (st : State) → (more : List ℕ) × ((turns_of k (solid set) (count_of set) ce f st).done.bytes ≡ st.done.bytes ++ more)
    driver-grows = turns_of-grows k (solid set) (count_of set) ce

    -- A refused attempt with scan index i is followed by i kept bytes, the bad base b among them. Serves refusal 11 under GapSize.
    pub driver-keeps : (st : State) (b : ℕ) (s : List ℕ) → st.rest ≡ b ∷ s
        → (ask (solid set) (add_base k st.kmer b)).answer ≡ false → st.previous ≡ true → (ce (b ∷ s) (add_base k st.kmer b)).answer ≡ none
        → (let i : ℕ = (error_len k (solid set) (add_base k st.kmer b) (b ∷ s)).index in
        (turns_of k (solid set) (count_of set) ce i st).done.bytes ≡ st.done.bytes ++ take i (b ∷ s))
    driver-keeps = refused-kept k (solid set) (count_of set) ce
