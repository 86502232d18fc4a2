-- Document 02, W13: what the answer promises, as statements. proofs/Promised and proofs/Suffice show them.
use Rattle.std.specs.Prelude.{ℕ, suc, ◌+◌, ◌-◌, ◌%◌, ◌≤◌, ◌<◌, ◌≡◌, Bool, true, false, List, length, take}
use Rattle.std.proofs.Math.Option.{none, some}
use Rattle.rules.specs.Refusal.{accepted}
use Rattle.rules.specs.Set.{KmerSet, solid, opened}
use Rattle.rules_bridge.specs.Bridge.{max_moves, cost, Chain, Bridge, solid_code, find_bridge, told}

-- No chain of fewer than m moves exists.
abbrev pub NoneBelow : (k : ℕ) → (ℕ → Bool) → ℕ → ℕ → ℕ → Type 0
NoneBelow k sol from to m = (bs : List ℕ) → Chain k sol from bs to → length bs < m → ⊥

-- The best that there is: a found chain is shortest and has f moves; where none is found there is none of up to 16 moves, and f is 17.
pub record Best (k : ℕ) (sol : ℕ → Bool) (from to : ℕ) (b : Bridge) : Type 0 where
  pub shortest : (bs : List ℕ) → b.chain ≡ some bs
      → (length bs ≡ b.floor) × ((other : List ℕ) → Chain k sol from other to → length bs ≤ length other)
  pub there_is_none : b.chain ≡ none → (b.floor ≡ suc max_moves) × NoneBelow k sol from to (suc max_moves)

-- Of every search.
pub record Promised (k : ℕ) (sol : ℕ → Bool) (from to budget : ℕ) (b : Bridge) : Type 0 where
  -- the lookups are at most the budget, and come in fours
  pub within : b.lookups ≤ budget
  pub fours : b.lookups % 4 ≡ 0
  -- a found chain is a chain from the one end to the other, of 1 to 16 moves and no fewer than f
  pub is_chain : (bs : List ℕ) → b.chain ≡ some bs
      → Chain k sol from bs to × (1 ≤ length bs) × (length bs ≤ max_moves) × (b.floor ≤ length bs)
  -- no chain of fewer than f moves exists
  pub floor_holds : NoneBelow k sol from to b.floor
  -- a found chain is at most its length less f moves from the best
  pub near_best : (bs best : List ℕ) → b.chain ≡ some bs → Chain k sol from best to → length bs ≤ length best + (length bs - b.floor)
  -- f is 1 to 17, and 17 means that none was found and none of up to 16 moves exists
  pub floor_range : (1 ≤ b.floor) × (b.floor ≤ suc max_moves)
  pub seventeen : b.floor ≡ suc max_moves → (b.chain ≡ none) × NoneBelow k sol from to (suc max_moves)
  -- not stopped, it is the best that there is
  pub best : b.stop ≡ false → Best k sol from to b
  -- stopped, fewer than 4 lookups remain, and the answer shows it: none was found and f is 1, or f is less than the moves
  pub spent_up : b.stop ≡ true → budget - b.lookups < cost
  pub stopped_none : b.stop ≡ true → b.chain ≡ none → b.floor ≡ 1
  pub stopped_chain : b.stop ≡ true → (bs : List ℕ) → b.chain ≡ some bs → b.floor < length bs
  -- the moves told are the chain's length, and the letters told are its letters
  pub moves_told : (bs : List ℕ) → b.chain ≡ some bs → ((told b).moves ≡ length bs) × (take (told b).moves (told b).letters ≡ bs)
  pub none_told : b.chain ≡ none → (told b).moves ≡ 0

-- An accepted call: the set opens, both ends are solid, and the answer keeps its promises.
pub record Accepted (bytes : List ℕ) (from to budget : ℕ) (b : Bridge) : Type 0 where
  pub set : KmerSet
  pub opens : opened bytes ≡ accepted set
  pub from_solid : solid_code set from ≡ true
  pub to_solid : solid_code set to ≡ true
  pub promised : Promised set.k (solid set) from to budget b

-- The theorem `find-promised`.
abbrev pub FindPromised : Type 0
FindPromised = (bytes : List ℕ) (from to budget : ℕ) (b : Bridge) → find_bridge bytes from to budget ≡ accepted b → Accepted bytes from to budget b

-- The theorem `lookups-suffice`: not stopped, the lookups made are enough, for every budget of at least so many gives the same answer.
abbrev pub LookupsSuffice : Type 0
LookupsSuffice =
    (bytes : List ℕ) (from to budget other : ℕ) (b : Bridge) → find_bridge bytes from to budget ≡ accepted b → b.stop ≡ false
    → b.lookups ≤ other → find_bridge bytes from to other ≡ accepted b
