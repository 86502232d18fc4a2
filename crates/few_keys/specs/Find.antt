-- A search among keys that rise, in a part of a set's bytes: where key x can stand, and what is answered.
use Rattle.std.specs.Prelude.{ℕ, ◌+◌, ◌*◌, ◌-◌, ◌/◌, ◌≤◌, ◌<◌, ◌≡◌, List, length, drop}
use Rattle.rules.specs.Set.{max_keys, little}
use Rattle.std.specs.Prelude.{Option, Some, None}

-- The byte of the set at which key i stands: one word in 64 is a check word.
abbrev pub place : ℕ → ℕ
place i = 512 + 8 * (i + i / 63)

-- Key i of the set, read in the part that begins at byte `skip`.
unfoldable pub key_in : ℕ → List ℕ → ℕ → ℕ
unfolding little
key_in skip part i = little 8 (drop (place i - skip) part)

-- The part holds the keys from `first` on and before `last`, with the check word behind them where one stands there, and these keys rise strictly.
pub record Sorted (skip : ℕ) (part : List ℕ) (first last : ℕ) : Type 0 where
  pub few : last ≤ max_keys
  pub room : first < last → (skip ≤ place first) × (place last ≤ skip + length part)
  pub rising : (i j : ℕ) → first ≤ i → i < j → j < last → key_in skip part i < key_in skip part j

-- Of the keys from `first` on and before `last`, every one before i is below x.
abbrev pub LowerBefore : ℕ → List ℕ → ℕ → ℕ → ℕ → ℕ → Type 0
LowerBefore skip part first last x i = (j : ℕ) → first ≤ j → j < last → j < i → key_in skip part j < x

-- Of these keys, every one from i on is above x.
abbrev pub HigherFrom : ℕ → List ℕ → ℕ → ℕ → ℕ → ℕ → Type 0
HigherFrom skip part first last x i = (j : ℕ) → first ≤ j → j < last → i ≤ j → x < key_in skip part j

-- Among these keys x can stand only from lo on and before hi.
pub record Bracket (skip : ℕ) (part : List ℕ) (first last x lo hi : ℕ) : Type 0 where
  pub within : (first ≤ lo) × (hi ≤ last)
  pub below : LowerBefore skip part first last x lo
  pub above : HigherFrom skip part first last x hi

-- What is answered about x among the keys from lo on and before hi.
abbrev pub Answers : ℕ → List ℕ → ℕ → ℕ → ℕ → Option ℕ → Type 0
Answers skip part x lo hi (Some i) = (lo ≤ i) × (i < hi) × (key_in skip part i ≡ x)
Answers skip part x lo hi None = (i : ℕ) → lo ≤ i → i < hi → key_in skip part i ≡ x → ⊥
