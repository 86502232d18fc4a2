-- Document 01, "Records", Set, the other way round: a list of words as blocks; and what a maker of blocks answers (document 02).
use Rattle.std.specs.Prelude.{ℕ, zero, suc, ◌+◌, ◌*◌, ◌-◌, ◌/◌, ◌%◌, ◌^◌, ◌≤◌, ◌<◌, ◌≡◌, Bool, true, false, List, [], ◌∷◌, ◌++◌, length, get_or, replicate, leb}
use Rattle.rules.specs.Letters.{canonical}
use Rattle.rules.specs.Refusal.{Refusal, Outcome, accepted, refused}
use Rattle.rules.specs.Set.{max_k, max_keys}

-- ---- words as bytes

-- The m bytes of a little-endian number.
unfoldable pub bytes_of : ℕ → ℕ → List ℕ
bytes_of zero x = []
bytes_of (suc m) x = x % 256 ∷ bytes_of m (x / 256)

-- m words of a list from word i on, 64 bits each; spare words, those behind the list's end, are zero.
unfoldable pub words_from : List ℕ → ℕ → ℕ → List ℕ
unfolding bytes_of
words_from words i zero = []
words_from words i (suc m) = bytes_of 8 (get_or words i 0) ++ words_from words (suc i) m

-- m words of a list from word i on, added.
unfoldable pub sum_of : List ℕ → ℕ → ℕ → ℕ
sum_of words i zero = 0
sum_of words i (suc m) = sum_of words i m + get_or words (i + m) 0

-- The check word of block b: its 63 words plus its number plus 1, the sum wrapping at 2^64.
unfoldable pub check_of : List ℕ → ℕ → ℕ
unfolding sum_of
check_of words b = (sum_of words (63 * b) 63 + b + 1) % 2 ^ 64

-- Block b: 63 words, then its check word.
unfoldable pub block_of : List ℕ → ℕ → List ℕ
unfolding words_from bytes_of check_of
block_of words b = words_from words (63 * b) 63 ++ bytes_of 8 (check_of words b)

-- m blocks of a list of words, from block b on.
unfoldable pub blocks_from : List ℕ → ℕ → ℕ → List ℕ
unfolding block_of
blocks_from words b zero = []
blocks_from words b (suc m) = block_of words b ++ blocks_from words (suc b) m

-- The blocks that m words need.
abbrev pub blocks_for : ℕ → ℕ
blocks_for m = (m + 62) / 63

-- ---- a set's blocks

-- Keys as document 01 wants them: canonical, below 4^k and strictly rising; and k and their number within its limits.
pub record Keys (k : ℕ) (keys : List ℕ) : Type 0 where
  pub k_odd : k % 2 ≡ 1
  pub k_high : k ≤ max_k
  pub few : length keys ≤ max_keys
  pub same : (i : ℕ) → i < length keys → canonical k (get_or keys i 0) ≡ get_or keys i 0
  pub small : (i : ℕ) → i < length keys → get_or keys i 0 < 4 ^ k
  pub rising : (i : ℕ) → suc i < length keys → get_or keys i 0 < get_or keys (suc i) 0

-- Block 0: word 0 is k, word 1 is n, the rest zero; then the keys.
unfoldable pub set_words : ℕ → List ℕ → List ℕ
set_words k keys = k ∷ length keys ∷ (replicate 61 0 ++ keys)

unfoldable pub set_blocks : ℕ → List ℕ → List ℕ
unfolding set_words blocks_from
set_blocks k keys = blocks_from (set_words k keys) 0 (1 + blocks_for (length keys))

-- ---- makers of blocks

-- What a maker answers, the length of the blocks in bytes or a refusal, and every byte of the lent buffer afterwards.
pub record Made : Type 0 where
  pub answer : Outcome ℕ
  pub buffer : List ℕ

-- A refusal leaves the buffer unchanged.
unfoldable pub unmade : List ℕ → Refusal → Made
unmade buffer r = record { answer = refused r; buffer = buffer }

-- A buffer is long enough for a list.
unfoldable pub fits : List ℕ → List ℕ → Bool
fits buffer list = leb (length list) (length buffer)

-- The list laid into the buffer, the buffer's rest zeroed.
unfoldable pub filled : List ℕ → List ℕ → List ℕ
filled buffer list = list ++ replicate (length buffer - length list) 0

-- The blocks laid into the buffer; 14 when it is too short for them, checked last.
unfoldable pub laid_into : List ℕ → List ℕ → Made
unfolding unmade fits filled
laid_into buffer bytes =
    elim (fits buffer bytes) [
      | true ↦ record { answer = accepted (length bytes); buffer = filled buffer bytes }
      | false ↦ unmade buffer (record { number = 14; place = 0 })
    ]
