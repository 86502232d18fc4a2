-- What the answer promises: the theorem `find-promised`.
use Prim.Native.Nat.{ℕ, zero, suc, ◌+◌, ◌-◌, ◌%◌, ◌≤◌, ◌<◌}
use native.Mathlib.Omega.{arith}
use mathlib.Core.Path.{◌≡◌, refl, ap, ◌∙◌, subst}
use mathlib.Core.Bool.{Bool, true, false, true≢false, false≢true}
use mathlib.Core.Option.{none, some, some-injective}
use mathlib.Core.List.{List, [], ◌∷◌}
use lib.ListN.{length, get_or, take, replicate}
use lib.Seq.{take-append_seam}
use Rattle.rules.specs.Refusal.{Outcome, accepted, refused, Check, at_place, first_failing}
use Rattle.rules.specs.Set.{KmerSet, solid, opened}
use Rattle.rules_bridge.specs.Bridge.{max_moves, cost, Chain, End, found, tried, stopped, from_kmer, Bridge, bridge_by, rounds, bridge, solid_code, ends_check, find_bridge, moves_of, letters_of, told}
use Rattle.rules_bridge.specs.Promises.{NoneBelow, Promised, FindPromised}
use Rattle.rules_bridge.proofs.Search.{chain_length, spent, sound, complete}

none-some : (bs : List ℕ) → none ≡ some bs → ⊥
none-some bs e = let z : ◌≡◌ {A = ℕ} 0 1 = cc in omega arith

some-none : (bs : List ℕ) → some bs ≡ none → ⊥
some-none bs e = let z : ◌≡◌ {A = ℕ} 0 1 = cc in omega arith

-- ---- what is told

letters-told : (b : Bridge) (bs : List ℕ) → b.chain ≡ some bs → ((told b).moves ≡ length bs) × (take (told b).moves (told b).letters ≡ bs)
unfolding told moves_of letters_of
letters-told b bs e = rw (told, e) (refl, take-append_seam bs (replicate (max_moves - length bs) 0))

nothing-told : (b : Bridge) → b.chain ≡ none → (told b).moves ≡ 0
unfolding told moves_of
nothing-told b e = rw (told, e)

-- ---- the search

module _ (k : ℕ) (sol : ℕ → Bool) (from to budget : ℕ) where
  -- a chain of no fewer than d moves, where there is none of fewer
  with-chain : (bs : List ℕ) (l d : ℕ) (stop : Bool) → l ≤ budget → l % 4 ≡ 0 → Chain k sol from bs to → length bs ≤ max_moves → 1 ≤ d → d ≤ length bs
      → NoneBelow k sol from to d → (stop ≡ false → length bs ≡ d) → (stop ≡ true → (budget - l < cost) × (d < length bs))
      → Promised k sol from to budget (bridge_by (some bs) l d stop)
  with-chain bs l d stop b q c m p s n whole short =
      record {
        within = b;
        fours = q;
        is_chain = λ cs e.
            subst (λ (x : List ℕ). Chain k sol from x to × (1 ≤ length x) × (length x ≤ max_moves) × (d ≤ length x))
            (some-injective bs cs e) (c, chain_length c, m, s);
        floor_holds = n;
        near_best = λ cs best e w. near cs best (ap length (some-injective bs cs e)) (λ lt. n best w lt);
        floor_range = (p, omega arith);
        seventeen = λ e. absurd (omega arith);
        best = λ f.
            record {
              shortest = λ cs e. least cs (ap length (some-injective bs cs e)) (whole f);
              there_is_none = λ e. absurd (some-none bs e);
            };
        spent_up = λ f. (short f).0;
        stopped_none = λ f e. absurd (some-none bs e);
        stopped_chain = λ f cs e. subst (λ (x : List ℕ). d < length x) (some-injective bs cs e) (short f).1;
        moves_told = λ cs e. letters-told (bridge_by (some bs) l d stop) cs e;
        none_told = λ e. absurd (some-none bs e);
      }
    where
      near : (cs best : List ℕ) → length bs ≡ length cs → (length best < d → ⊥) → length cs ≤ length best + (length cs - d)
      near cs best e h = let w : d ≤ length best = omega arith in omega arith

      least : (cs : List ℕ) → length bs ≡ length cs → length bs ≡ d
          → (length cs ≡ d) × ((other : List ℕ) → Chain k sol from other to → length cs ≤ length other)
      least cs e f = (omega arith, λ other w. not_below other (n other w) (omega arith))
        where
          not_below : (other : List ℕ) → (length other < d → ⊥) → length cs ≡ d → length cs ≤ length other
          not_below other h g = omega arith

  without : (l d : ℕ) (stop : Bool) → l ≤ budget → l % 4 ≡ 0 → 1 ≤ d → d ≤ suc max_moves → NoneBelow k sol from to d
      → (stop ≡ false → d ≡ suc max_moves) → (stop ≡ true → (budget - l < cost) × (d ≡ 1)) → Promised k sol from to budget (bridge_by none l d stop)
  without l d stop b q p s n whole short =
      record {
        within = b;
        fours = q;
        is_chain = λ cs e. absurd (none-some cs e);
        floor_holds = n;
        near_best = λ cs best e w. absurd (none-some cs e);
        floor_range = (p, s);
        seventeen = λ e. (refl, up_to e);
        best = λ f.
            record {
              shortest = λ cs e. absurd (none-some cs e);
              there_is_none = λ e. (whole f, up_to (whole f));
            };
        spent_up = λ f. (short f).0;
        stopped_none = λ f e. (short f).1;
        stopped_chain = λ f cs e. absurd (none-some cs e);
        moves_told = λ cs e. absurd (none-some cs e);
        none_told = nothing-told (bridge_by none l d stop);
      }
    where
      up_to : d ≡ suc max_moves → NoneBelow k sol from to (suc max_moves)
      up_to e bs c m = n bs c (omega arith)

  -- The lookups after a search of d moves.
  abbrev made : ℕ → ℕ → ℕ
  made d l = (from_kmer k sol to budget d from l).lookups

  one_more : (d l : ℕ) → (from_kmer k sol to budget d from l).answer ≡ tried → NoneBelow k sol from to (suc d)
  one_more d l h bs c lt = complete k sol to budget d from l h bs c (omega arith)

  rounds-right : (deep : List ℕ) (n d l : ℕ) → l ≤ budget → l % 4 ≡ 0 → Chain k sol from deep to → length deep ≤ max_moves
      → 1 ≤ d → d + n ≡ length deep → NoneBelow k sol from to d → Promised k sol from to budget (rounds k sol to budget from deep n d l)
  unfolding rounds
  rounds-right deep zero d l b q c m p s w =
      with-chain deep l d false b q c m p (omega arith) w (λ f. omega arith) (λ f. absurd (false≢true f))
  rounds-right deep (suc n) d l b q c m p s w =
      go (λ u b' q' w'. rounds-right deep n (suc d) u b' q' c m (omega arith) (omega arith) w') (from_kmer k sol to budget d from l).answer refl
    where
      u-le : made d l ≤ budget
      u-le = (spent k sol to budget d from l).within b

      u-fours : made d l % 4 ≡ 0
      u-fours = (spent k sol to budget d from l).fours ∙ q

      shortest : (bs : List ℕ) → (from_kmer k sol to budget d from l).answer ≡ found bs
          → Promised k sol from to budget (bridge_by (some bs) (made d l) d false)
      shortest bs e =
          let f = sound k sol to budget d from l bs e in
          let h : length bs < d → ⊥ = w bs f.0 in
          let le : d ≤ length bs = omega arith in
          let ge : length bs ≤ d = f.1 in
          with-chain bs (made d l) d false u-le u-fours f.0 (omega (arith, f.1)) p le w (λ g. omega arith) (λ g. absurd (false≢true g))

      go : ((v : ℕ) → v ≤ budget → v % 4 ≡ 0 → NoneBelow k sol from to (suc d) → Promised k sol from to budget (rounds k sol to budget from deep n (suc d) v))
          → (e : End) → (from_kmer k sol to budget d from l).answer ≡ e → Promised k sol from to budget (rounds k sol to budget from deep (suc n) d l)
      go i (found bs) e = rw (e, rounds) (shortest bs e)
      go i tried e = rw (e, rounds) (i (made d l) u-le u-fours (one_more d l e))
      go i stopped e =
          rw (e, rounds)
          (with-chain deep (made d l) d true u-le u-fours c m p (omega arith) w (λ g. absurd (true≢false g))
          (λ g. ((spent k sol to budget d from l).stops e, omega arith)))

  pub bridge-promised : Promised k sol from to budget (bridge k sol to budget from)
  unfolding bridge
  bridge-promised = go (from_kmer k sol to budget max_moves from 0).answer refl
    where
      u-le : made max_moves 0 ≤ budget
      u-le = (spent k sol to budget max_moves from 0).within (omega arith)

      u-fours : made max_moves 0 % 4 ≡ 0
      u-fours = (spent k sol to budget max_moves from 0).fours

      none_below_one : NoneBelow k sol from to 1
      none_below_one bs c lt = omega (arith, chain_length c)

      go : (e : End) → (from_kmer k sol to budget max_moves from 0).answer ≡ e → Promised k sol from to budget (bridge k sol to budget from)
      go (found bs) e =
          let f = sound k sol to budget max_moves from 0 bs e in
          let one = chain_length f.0 in
          rw (e, bridge)
          (rounds-right bs (length bs - 1) 1 (made max_moves 0) u-le u-fours f.0 f.1 (omega arith) (omega arith) none_below_one)
      go tried e =
          rw (e, bridge)
          (without (made max_moves 0) (suc max_moves) false u-le u-fours (omega arith) (omega arith) (one_more max_moves 0 e) (λ g. refl)
          (λ g. absurd (false≢true g)))
      go stopped e =
          rw (e, bridge)
          (without (made max_moves 0) 1 true u-le u-fours (omega arith) (omega arith) none_below_one (λ g. absurd (true≢false g))
          (λ g. ((spent k sol to budget max_moves from 0).stops e, refl)))

-- ---- the call

all_two : (ok : ℕ → Bool) → at_place 20 (first_failing ok 0 2) ≡ none → (ok 0 ≡ true) × (ok 1 ≡ true)
unfolding at_place first_failing
all_two ok h = go (ok 0) refl (ok 1) refl
  where
    go : (p : Bool) → ok 0 ≡ p → (q : Bool) → ok 1 ≡ q → (ok 0 ≡ true) × (ok 1 ≡ true)
    go false e q f = absurd (let g = rw (e, first_failing) at h in let z : ◌≡◌ {A = ℕ} 0 1 = cc in omega arith)
    go true e false f = absurd (let g = rw (e, first_failing, f) at h in let z : ◌≡◌ {A = ℕ} 0 1 = cc in omega arith)
    go true e true f = (e, f)

ends-solid : (set : KmerSet) (from to : ℕ) → ends_check set from to ≡ none → (solid_code set from ≡ true) × (solid_code set to ≡ true)
unfolding ends_check
ends-solid set from to h = all_two (λ i. solid_code set (get_or (from ∷ to ∷ []) i 0)) h

-- What an accepted call goes by.
pub record Searched (bytes : List ℕ) (from to budget : ℕ) (b : Bridge) : Type 0 where
  pub set : KmerSet
  pub opens : opened bytes ≡ accepted set
  pub both : ends_check set from to ≡ none
  pub is : bridge set.k (solid set) to budget from ≡ b

module _ (bytes : List ℕ) (from to budget : ℕ) where
  pub searched : (b : Bridge) → find_bridge bytes from to budget ≡ accepted b → Searched bytes from to budget b
  unfolding find_bridge
  searched b h = go (opened bytes) refl
    where
      go : (o : Outcome KmerSet) → opened bytes ≡ o → Searched bytes from to budget b
      go (refused r) e = absurd (let f : refused r ≡ accepted b = rw (e, find_bridge) at h in let z : ◌≡◌ {A = ℕ} 0 1 = cc in omega arith)
      go (accepted set) e = by (ends_check set from to) refl
        where
          by : (c : Check) → ends_check set from to ≡ c → Searched bytes from to budget b
          by (some r) f = absurd (let g : refused r ≡ accepted b = rw (e, find_bridge, f) at h in let z : ◌≡◌ {A = ℕ} 0 1 = cc in omega arith)
          by none f =
              let g : accepted (bridge set.k (solid set) to budget from) ≡ accepted b = rw (e, find_bridge, f) at h in
              record { set = set; opens = e; both = f; is = cc }

  pub searched-back : (b : Bridge) → Searched bytes from to budget b → find_bridge bytes from to budget ≡ accepted b
  unfolding find_bridge
  searched-back b s = rw (find_bridge, s.opens, s.both, s.is)

pub find-promised : FindPromised
find-promised bytes from to budget b h =
    let s = searched bytes from to budget b h in
    let e = ends-solid s.set from to s.both in
    record {
      set = s.set;
      opens = s.opens;
      from_solid = e.0;
      to_solid = e.1;
      promised =
          subst (Promised s.set.k (solid s.set) from to budget) s.is
          (bridge-promised s.set.k (solid s.set) from to budget);
    }
