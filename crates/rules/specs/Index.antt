-- Document 02, W7: the index by first letters, its maker, and refusal 15. A lookup with it is `solid` of Set.
use Rattle.std.specs.Prelude.{ℕ, zero, suc, ◌+◌, ◌^◌, Bool, true, false, ◌&&◌, List, [], ◌∷◌, eqb, ltb}
use Rattle.std.proofs.Math.Option.{none}
use Rattle.rules.specs.Refusal.{accepted, refused, Check, unless}
use Rattle.rules.specs.Set.{KmerSet, first_letters, first_code, opened}
use Rattle.rules.specs.Blocks.{blocks_from, blocks_for, Made, unmade, laid_into}

-- ---- the list

-- How many of a list have first m letters with a code below v.
unfoldable pub count_below : ℕ → ℕ → List ℕ → ℕ
unfolding first_code
count_below k v [] = 0
count_below k v (y ∷ ys) = elim (ltb (first_code k y) v) [ true ↦ suc (count_below k v ys) | false ↦ count_below k v ys ]

-- Entry v is the number of keys whose first m letters have a code below v.
unfoldable pub index_entry : KmerSet → ℕ → ℕ
unfolding count_below
index_entry set v = count_below set.k v set.keys

-- n entries from entry v on.
unfoldable pub entries_from : KmerSet → ℕ → ℕ → List ℕ
unfolding index_entry
entries_from set v zero = []
entries_from set v (suc n) = index_entry set v ∷ entries_from set (suc v) n

-- How many entries there are: v goes from 0 to 4^m.
unfoldable pub index_entries : ℕ → ℕ
index_entries k = 4 ^ first_letters k + 1

unfoldable pub index_list : KmerSet → List ℕ
unfolding entries_from index_entries
index_list set = entries_from set 0 (index_entries set.k)

-- Its blocks are 01's, numbered from 0 with the same check word, entries from block 0 on, spare words zero.
unfoldable pub index_blocks : KmerSet → List ℕ
unfolding index_list index_entries blocks_from
index_blocks set = blocks_from (index_list set) 0 (blocks_for (index_entries set.k))

-- ---- the call

-- The index made from a set's bytes in a lent buffer: 7 to 10 of the set, then 14.
unfoldable pub make_index : List ℕ → List ℕ → Made
unfolding opened index_blocks unmade laid_into
make_index bytes buffer = elim (opened bytes) [ refused r ↦ unmade buffer r | accepted set ↦ laid_into buffer (index_blocks set) ]

-- ---- an index offered with a set

-- Byte for byte the same.
unfoldable pub same_bytes : List ℕ → List ℕ → Bool
same_bytes [] [] = true
same_bytes [] (y ∷ ys) = false
same_bytes (x ∷ xs) [] = false
same_bytes (x ∷ xs) (y ∷ ys) = eqb x y && same_bytes xs ys

-- 15 when an offered index isn't byte for byte the blocks built from the set; an empty one counts as not offered.
unfoldable pub index_check : KmerSet → List ℕ → Check
unfolding same_bytes index_blocks unless
index_check set [] = none
index_check set (b ∷ bs) = unless (same_bytes (b ∷ bs) (index_blocks set)) 15
