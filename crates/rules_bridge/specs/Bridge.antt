-- Document 02, W13: the shortest bridge, as far as lookups last (refusal 20).
use Prim.Native.Nat.{ℕ, zero, suc, ◌+◌, ◌-◌, ◌^◌, ◌<◌}
use Rattle.std.specs.Prelude.{◌≡◌, Bool, ◌&&◌, List, [], ◌∷◌, ◌++◌, length, get_or, replicate, eqb, ltb}
use Rattle.std.proofs.Math.Bool.{true, false}
use Rattle.std.proofs.Math.Option.{Option, none, some}
use Rattle.rules.specs.Letters.{Kmer, push, letter}
use Rattle.rules.specs.Refusal.{Outcome, accepted, refused, Check, at_place, first_failing}
use Rattle.rules.specs.Set.{KmerSet, solid, opened}
use Rattle.rules.specs.Counted.{Counted}

-- A chain has 1 to 16 moves.
abbrev pub max_moves : ℕ
max_moves = 16

-- A k-mer's 4 lookups.
abbrev pub cost : ℕ
cost = 4

-- ---- chains, of codes: the ends are codes, and so is what comes between (the theorem `add-known`)

-- The k-mer of a code: every letter is known.
abbrev pub known : ℕ → Kmer
known code = record { code = code; unknown = 0 }

module _ (k : ℕ) (sol : ℕ → Bool) where
  -- A move from y to a solid successor z, by the letter b.
  pub record Move (y b z : ℕ) : Type 0 where
    pub by : ℕ
    pub by_lt : by < 4
    pub spelt : b ≡ letter by
    pub is : z ≡ push 4 k y by
    pub solid_found : sol z ≡ true

  -- A chain from y to t, by its letters: each move to any solid successor; repeats are allowed.
  pub data Chain : ℕ → List ℕ → ℕ → Type 0 where
    arrive : {y b t : ℕ} → Move y b t → Chain y (b ∷ []) t
    further : {y b z t : ℕ} {bs : List ℕ} → Move y b z → Chain z bs t → Chain y (b ∷ bs) t

-- ---- the search

-- How a search ends: a chain is found, by its letters; all are tried; or it stops.
pub data End : Type 0 where
  found : List ℕ → End
  tried stopped : End

-- The letter of code a before what was found behind it.
unfoldable pub before : ℕ → End → End
unfolding letter
before a (found bs) = found (letter a ∷ bs)
before a tried = tried
before a stopped = stopped

-- An end, with l lookups made.
abbrev pub ends : End → ℕ → Counted End
ends e l = record { answer = e; lookups = l }

-- Until a chain is found or all are tried: on to the next only if all was tried so far. A stop ends it.
unfoldable pub go_on : Counted End → (ℕ → Counted End) → Counted End
go_on r more = elim r.answer [ found bs ↦ r | tried ↦ more r.lookups | stopped ↦ r ]

-- m letters from code a on: the order is A, C, T, G.
unfoldable pub in_order : (ℕ → ℕ → Counted End) → ℕ → ℕ → ℕ → Counted End
unfolding go_on
in_order look zero a l = ends tried l
in_order look (suc m) a l = go_on (look a l) (in_order look m (suc a))

module _ (k : ℕ) (sol : ℕ → Bool) (to budget : ℕ) where
  -- A letter looks at the k-mer behind it, if that is solid. Each k-mer is compared with the end on arrival.
  unfoldable pub from_letter : (ℕ → ℕ → Counted End) → ℕ → ℕ → ℕ → Counted End
  unfolding push before letter
  from_letter behind y a l =
      let z : ℕ = push 4 k y a in
      elim (sol z) [
        | false ↦ ends tried l
        | true ↦ elim (eqb z to) [
          | true ↦ ends (found (letter a ∷ [])) l
          | false ↦ (let r : Counted End = behind z l in ends (before a r.answer) r.lookups)
        ]
      ]

  -- A k-mer looks at its letters, with m moves left and l lookups made; a letter at the k-mer behind it, with one move fewer left.
  unfoldable pub from_kmer : ℕ → ℕ → ℕ → Counted End
  unfolding in_order from_letter
  -- With none left no lookups are made.
  from_kmer zero y l = ends tried l
  -- Before each k-mer's 4 lookups it stops if fewer than 4 remain.
  from_kmer (suc m) y l =
      elim (ltb (budget - l) cost) [ true ↦ ends stopped l | false ↦ in_order (from_letter (from_kmer m) y) 4 0 (l + cost) ]

-- ---- the bridge

-- The shortest chain found, or none, with the lookups made and the floor; and whether the search was stopped, which is not told.
pub record Bridge : Type 0 where
  pub chain : Option (List ℕ)
  pub lookups : ℕ
  pub floor : ℕ
  pub stop : Bool

abbrev pub bridge_by : Option (List ℕ) → ℕ → ℕ → Bool → Bridge
bridge_by chain l f stop = record { chain = chain; lookups = l; floor = f; stop = stop }

module _ (k : ℕ) (sol : ℕ → Bool) (to budget from : ℕ) where
  -- n rounds, of d moves and more, with l lookups made, up to the first that finds a chain; deep is the deep search's chain. The floor is one
  -- more than the moves of the last round finished without a chain, 1 if there was none.
  unfoldable pub rounds : List ℕ → ℕ → ℕ → ℕ → Bridge
  unfolding from_kmer
  rounds deep zero d l = bridge_by (some deep) l d false
  rounds deep (suc n) d l =
      let r : Counted End = from_kmer k sol to budget d from l in
      elim r.answer [
        | found bs ↦ bridge_by (some bs) r.lookups d false
        | tried ↦ rounds deep n (suc d) r.lookups
        | stopped ↦ bridge_by (some deep) r.lookups d true
      ]

  -- First it goes deep; only after a find, rounds of 1 move, 2 moves and so on, while shorter than that chain. 17 if the deep search tried all
  -- and found none.
  unfoldable pub bridge : Bridge
  unfolding from_kmer rounds
  bridge =
      let r : Counted End = from_kmer k sol to budget max_moves from 0 in
      elim r.answer [
        | found bs ↦ rounds bs (length bs - 1) 1 r.lookups
        | tried ↦ bridge_by none r.lookups (suc max_moves) false
        | stopped ↦ bridge_by none r.lookups 1 true
      ]

-- ---- the call

-- A code of 4^k or more never is solid.
unfoldable pub solid_code : KmerSet → ℕ → Bool
unfolding solid
solid_code set y = ltb y (4 ^ set.k) && solid set y

-- 20: either k-mer isn't solid, place 0 or 1, the first if both.
unfoldable pub ends_check : KmerSet → ℕ → ℕ → Check
unfolding solid_code at_place first_failing
ends_check set from to = at_place 20 (first_failing (λ i. solid_code set (get_or (from ∷ to ∷ []) i 0)) 0 2)

-- 20 is checked after 10. The check of both ends lies outside budget and count.
unfoldable pub find_bridge : List ℕ → ℕ → ℕ → ℕ → Outcome Bridge
unfolding opened ends_check bridge
find_bridge bytes from to budget =
    elim (opened bytes) [
      | refused r ↦ refused r
      | accepted set ↦ elim (ends_check set from to) [
        | some r ↦ refused r
        | none ↦ accepted (bridge set.k (solid set) to budget from)
      ]
    ]

-- ---- what is told

-- The number of the chain's moves, 0 if there is none; the lookups; the floor; and 16 bytes, the chain's letters and 0 behind the last.
pub record Told : Type 0 where
  pub moves : ℕ
  pub lookups : ℕ
  pub floor : ℕ
  pub letters : List ℕ

unfoldable pub moves_of : Option (List ℕ) → ℕ
moves_of none = 0
moves_of (some bs) = length bs

unfoldable pub letters_of : Option (List ℕ) → List ℕ
letters_of none = replicate max_moves 0
letters_of (some bs) = bs ++ replicate (max_moves - length bs) 0

unfoldable pub told : Bridge → Told
unfolding moves_of letters_of
told b = record { moves = moves_of b.chain; lookups = b.lookups; floor = b.floor; letters = letters_of b.chain }

unfoldable pub told_of : Outcome Bridge → Outcome Told
unfolding told
told_of (accepted b) = accepted (told b)
told_of (refused r) = refused r
