-- The blocks of a list of keys open as that set; and back, bytes that open are the blocks of their own k and keys.
use Prim.Native.Nat.{ℕ, zero, suc, ◌+◌, ◌*◌, ◌-◌, ◌/◌, ◌%◌, ◌^◌, ◌≤◌, ◌<◌}
use native.Mathlib.Omega.{arith}
use native.Mathlib.Nat.{pow-le-pow_right}
use native.Mathlib.Decide.{dec_lt}
use borrow.Author.Tests.{eq-eqb, lt-ltb, le-ltb, le-leb, eqb-true, ne_eqb}
use mathlib.Core.Path.{◌≡◌, refl, sym, ap, ap₂, ◌∙◌}
use mathlib.Core.Bool.{true, ◌||◌}
use mathlib.Core.Option.{none}
use mathlib.Core.List.{List, [], ◌∷◌, ◌++◌}
use lib.Dec.{eqb, ltb, lit<, lit≤}
use lib.ListN.{length, get_or, drop, replicate, length-append, get_or-append, get_or-eq_default, drop_of_length-le}
use lib.Seq.{get_or-append-add, drop-cons}
use Rattle.rules.specs.Refusal.{accepted, unless, at_place, first_failing}
use Rattle.rules.specs.Set.{KmerSet, block_word, blocks, header_k, header_n, key_word, keys_from, set_of, length_right, check_right, is_none, header_right, key_right, set_check, opened}
use Rattle.rules.specs.Blocks.{Keys, blocks_from, blocks_for, set_words, set_blocks}
use Rattle.rules_laws.proofs.Opened.{both, checked, opened-check, opened-set}
use Rattle.rules_laws.proofs.Keys.{none-fails, none-failing, keys_length, keys-at, the-header, spare-zero, checked-keys}
use Rattle.rules_laws.proofs.Blocks.{Bytes, Words, zeros-at, blocks-length, blocks_at, blocks-checked, blocks-are}

-- ---- the words of a set

pub set_word : (k : ℕ) (keys : List ℕ) (i : ℕ) → get_or (set_words k keys) (63 + i) 0 ≡ get_or keys i 0
unfolding set_words
set_word k keys i =
    let e : 63 + i ≡ suc (suc (61 + i)) = omega arith in
    rw e (get_or-append-add {A = ℕ} (replicate 61 0) keys i 0)

pub set-zero : (k : ℕ) (keys : List ℕ) (i : ℕ) → 2 ≤ i → i < 63 → get_or (set_words k keys) i 0 ≡ 0
unfolding set_words
set-zero k keys zero l h = absurd (omega arith)
set-zero k keys (suc zero) l h = absurd (omega arith)
set-zero k keys (suc (suc i)) l h =
    get_or-append {A = ℕ} (replicate 61 0) keys 0 i (omega arith) ∙ zeros-at 61 i

pub set-length : (k : ℕ) (keys : List ℕ) → length (set_words k keys) ≡ 63 + length keys
unfolding set_words
set-length k keys =
    let e : length (replicate {A = ℕ} 61 0 ++ keys) ≡ 61 + length keys = length-append (replicate {A = ℕ} 61 0) keys in
    omega arith

pub set_words_lem : (k : ℕ) (keys : List ℕ) → Keys k keys → Words (set_words k keys)
unfolding set_words
set_words_lem k keys h zero = omega (arith, h.k_high)
set_words_lem k keys h (suc zero) = omega (arith, h.few)
set_words_lem k keys h (suc (suc i)) = go (dec_lt i 61)
  where
    key : (j : ℕ) → Dec (j < length keys) → get_or keys j 0 < 2 ^ 64
    key j (yes l) =
        let bound : 4 ^ k ≤ 4 ^ 31 = pow-le-pow_right {n = 4} (lit≤ tt) {i = k} {j = 31} h.k_high in
        omega (arith, h.small j l)
    key j (no f) = rw (get_or-eq_default keys 0 {n = j} (omega arith)) (lit< tt)

    go : Dec (i < 61) → get_or (replicate 61 0 ++ keys) i 0 < 2 ^ 64
    go (yes l) = rw (get_or-append {A = ℕ} (replicate 61 0) keys 0 i l, zeros-at 61 i) (lit< tt)
    go (no f) =
        let e : i ≡ 61 + (i - 61) = omega arith in
        rw (e, get_or-append-add {A = ℕ} (replicate 61 0) keys (i - 61) 0) (key (i - 61) (dec_lt (i - 61) (length keys)))

-- ---- opening

keys-are : (bytes keys : List ℕ) → ((i : ℕ) → i < length keys → key_word bytes i ≡ get_or keys i 0)
    → (i n : ℕ) → i + n ≡ length keys → keys_from bytes i n ≡ drop i keys
unfolding keys_from
keys-are bytes keys f i zero e = sym (drop_of_length-le keys {i = i} (omega arith))
keys-are bytes keys f i (suc n) e =
    ap₂ (λ (x : ℕ) (xs : List ℕ). x ∷ xs) (f i (omega arith)) (keys-are bytes keys f (suc i) n (omega arith))
    ∙ sym (drop-cons keys i 0 (omega arith))

module _ (k : ℕ) (keys : List ℕ) (h : Keys k keys) where
  bytes : List ℕ
  bytes = set_blocks k keys

  n : ℕ
  n = length keys

  count : ℕ
  count = 1 + blocks_for n

  long : length (set_words k keys) ≤ 63 * count
  unfolding count n
  long = omega (arith, set-length k keys)

  listed : (c i : ℕ) → c < count → i < 63 → block_word bytes c i ≡ get_or (set_words k keys) (63 * c + i) 0
  unfolding bytes set_blocks count n
  listed = blocks_at (set_words k keys) (set_words_lem k keys h) count long

  size : blocks bytes ≡ count
  unfolding bytes set_blocks blocks count n
  size = rw (blocks-length (set_words k keys) 0 (1 + blocks_for (length keys))) (omega arith)

  size-right : length_right bytes ≡ true
  unfolding bytes set_blocks length_right
  size-right =
      let e = blocks-length (set_words k keys) 0 (1 + blocks_for (length keys)) in
      rw (
        lt-ltb 0 (length (blocks_from (set_words k keys) 0 (1 + blocks_for (length keys)))) (omega arith),
        eq-eqb (length (blocks_from (set_words k keys) 0 (1 + blocks_for (length keys))) % 512) 0 (omega arith),
      )

  checks : first_failing (check_right bytes) 0 (blocks bytes) ≡ none
  unfolding check_right bytes set_blocks count n
  checks =
      rw size
      (none-failing (check_right bytes) 0 count
      (λ b l g. eq-eqb _ _ (blocks-checked (set_words k keys) (set_words_lem k keys h) count long b (omega arith))))

  k_is : header_k bytes ≡ k
  unfolding header_k set_words count
  k_is = listed 0 0 (omega arith) (lit< tt)

  n_is : header_n bytes ≡ n
  unfolding header_n set_words count n
  n_is = listed 0 1 (omega arith) (lit< tt)

  rest-zero : first_failing (λ i. eqb (block_word bytes 0 i) 0) 2 61 ≡ none
  unfolding count
  rest-zero =
      none-failing (λ i. eqb (block_word bytes 0 i) 0) 2 61
      (λ i l g. eq-eqb _ _ (listed 0 i (omega arith) (omega arith) ∙ set-zero' i l (omega arith)))
    where
      set-zero' : (i : ℕ) → 2 ≤ i → i < 63 → get_or (set_words k keys) (63 * 0 + i) 0 ≡ 0
      set-zero' i l g = let e : 63 * 0 + i ≡ i = omega arith in rw e (set-zero k keys i l g)

  header : header_right bytes ≡ true
  unfolding header_right is_none count n
  header =
      rw (
        k_is,
        n_is,
        eq-eqb (k % 2) 1 h.k_odd,
        le-leb k 31 h.k_high,
        le-leb (length keys) 16777216 h.few,
        rest-zero,
        size,
        eq-eqb (1 + (length keys + 62) / 63) (1 + (length keys + 62) / 63) refl,
      )

  key-is : (i : ℕ) → i < 63 * blocks_for n → key_word bytes i ≡ get_or keys i 0
  unfolding key_word count
  key-is i l =
      let e : 63 * (1 + i / 63) + i % 63 ≡ 63 + i = omega arith in
      listed (1 + i / 63) (i % 63) (omega arith) (omega arith) ∙ rw e (set_word k keys i)

  right_key : (i : ℕ) → i < 63 * blocks_for n → key_right bytes i ≡ true
  unfolding key_right n
  right_key i l = go (dec_lt i (length keys))
    where
      rises : (j : ℕ) → j < length keys → key_word bytes j ≡ get_or keys j 0 → j < 63 * blocks_for (length keys)
          → (eqb j 0 || ltb (key_word bytes (j - 1)) (get_or keys j 0)) ≡ true
      rises zero g e l = refl
      rises (suc j) g e l =
          let d : suc j - 1 ≡ j = omega arith in
          rw (ne_eqb (suc j) 0 (λ q. omega arith), d, key-is j (omega arith), lt-ltb (get_or keys j 0) (get_or keys (suc j) 0) (h.rising j g))

      go : Dec (i < length keys) → key_right bytes i ≡ true
      go (yes g) =
          let inside : i < header_n bytes = rw n_is g in
          rw (
            lt-ltb i (header_n bytes) inside,
            key_right,
            k_is,
            key-is i l,
            eq-eqb _ _ (h.same i g),
            lt-ltb (get_or keys i 0) (4 ^ k) (h.small i g),
            rises i g (key-is i l) l,
          )
      go (no f) =
          let behind : header_n bytes ≤ i = rw n_is (omega arith) in
          rw (le-ltb i (header_n bytes) behind, key_right) (eq-eqb _ _ (key-is i l ∙ get_or-eq_default keys 0 {n = i} (omega arith)))

  right-keys : first_failing (key_right bytes) 0 (63 * (blocks bytes - 1)) ≡ none
  unfolding count
  right-keys =
      let e : 63 * (1 + blocks_for n - 1) ≡ 63 * blocks_for n = omega arith in
      rw (size, e) (none-failing (key_right bytes) 0 (63 * blocks_for n) (λ i l g. right_key i (omega arith)))

  set_is : set_of bytes ≡ record { k = k; keys = keys; index = []; counts = [] }
  unfolding set_of n
  set_is =
      rw (k_is, n_is, keys-are bytes keys (λ i l. key-is i (omega arith)) 0 (length keys) (omega arith))

  checks-none : set_check bytes ≡ none
  unfolding set_check unless at_place
  checks-none = rw (size-right, checks, header, right-keys)

  -- The blocks of rising canonical keys below 4^k open, with exactly that k and those keys.
  pub set-opens : opened (set_blocks k keys) ≡ accepted (record { k = k; keys = keys; index = []; counts = [] })
  unfolding bytes opened
  set-opens = rw (checks-none, opened) (ap accepted set_is)

-- ---- and back

-- Bytes that open are the blocks of their own k and keys.
module _ (bytes : List ℕ) (small : Bytes bytes) (h : set_check bytes ≡ none) where
  own_keys : List ℕ
  own_keys = keys_from bytes 0 (header_n bytes)

  own-count : ℕ
  own-count = 1 + blocks_for (header_n bytes)

  own-length : length bytes ≡ 512 * own-count
  unfolding own-count blocks length_right
  own-length =
      let l = both (ltb 0 (length bytes)) (eqb (length bytes % 512) 0) (checked bytes h).right_length in
      let whole : length bytes % 512 ≡ 0 = eqb-true _ _ l.1 in
      let count : length bytes / 512 ≡ 1 + (header_n bytes + 62) / 63 = (the-header bytes h).count in
      omega arith

  own-n : length own_keys ≡ header_n bytes
  unfolding own_keys
  own-n = keys_length bytes 0 (header_n bytes)

  own-words : Words (set_words (header_k bytes) own_keys)
  unfolding own_keys
  own-words = set_words_lem (header_k bytes) (keys_from bytes 0 (header_n bytes)) (checked-keys bytes h)

  own_key : (i : ℕ) → i < 63 * blocks_for (header_n bytes) → key_word bytes i ≡ get_or own_keys i 0
  unfolding own_keys
  own_key i l = go (dec_lt i (header_n bytes))
    where
      at : 0 + i ≡ i
      at = omega arith

      room : i < 63 * (blocks bytes - 1)
      room = omega (arith, (the-header bytes h).count)

      go : Dec (i < header_n bytes) → key_word bytes i ≡ get_or (keys_from bytes 0 (header_n bytes)) i 0
      go (yes g) = sym (keys-at bytes 0 (header_n bytes) i g ∙ ap (key_word bytes) at)
      go (no f) =
          spare-zero bytes h i (omega arith) room
          ∙ sym (get_or-eq_default (keys_from bytes 0 (header_n bytes)) 0 {n = i} (omega (arith, keys_length bytes 0 (header_n bytes))))

  own-listed : (b i : ℕ) → b < own-count → i < 63 → block_word bytes b i ≡ get_or (set_words (header_k bytes) own_keys) (63 * b + i) 0
  unfolding own-count key_word header_k header_n set_words
  own-listed zero zero l g = refl
  own-listed zero (suc zero) l g = sym own-n
  own-listed zero (suc (suc i)) l g =
      let e : 63 * 0 + suc (suc i) ≡ suc (suc i) = omega arith in
      (the-header bytes h).rest (suc (suc i)) (omega arith) g
      ∙ sym (ap (λ (j : ℕ). get_or (set_words (header_k bytes) own_keys) j 0) e ∙ set-zero (header_k bytes) own_keys (suc (suc i)) (omega arith) g)
  own-listed (suc b) i l g =
      let d : (63 * b + i) / 63 ≡ b = omega arith in
      let m : (63 * b + i) % 63 ≡ i = omega arith in
      let f : 1 + b ≡ suc b = omega arith in
      let e : 63 * suc b + i ≡ 63 + (63 * b + i) = omega arith in
      let w : key_word bytes (63 * b + i) ≡ block_word bytes (suc b) i = rw (d, m, f) in
      sym w ∙ own_key (63 * b + i) (omega arith) ∙ sym (ap (λ (j : ℕ). get_or (set_words (header_k bytes) own_keys) j 0) e ∙ set_word (header_k bytes) own_keys (63 * b + i))

  own-check : (b : ℕ) → b < own-count → check_right bytes b ≡ true
  unfolding own-count
  own-check b l = none-fails (check_right bytes) 0 (blocks bytes) (checked bytes h).checks_right b (omega arith) (omega (arith, (the-header bytes h).count))

  own-few : length (set_words (header_k bytes) own_keys) ≤ 63 * own-count
  unfolding own-count
  own-few = omega (arith, set-length (header_k bytes) own_keys, own-n)

  pub checked-blocks : bytes ≡ set_blocks (header_k bytes) (keys_from bytes 0 (header_n bytes))
  unfolding set_blocks own_keys own-count
  checked-blocks =
      blocks-are (set_words (header_k bytes) own_keys) own-words own-count own-few bytes small own-length own-listed own-check
      ∙ ap (λ (n : ℕ). blocks_from (set_words (header_k bytes) own_keys) 0 (1 + blocks_for n)) (sym own-n)

-- Bytes below 256 that open are the blocks of their own k and keys, so there is one set file for each set.
pub opened-blocks : (bytes : List ℕ) → Bytes bytes → (set : KmerSet) → opened bytes ≡ accepted set → bytes ≡ set_blocks set.k set.keys
unfolding set_of
opened-blocks bytes small set o =
    checked-blocks bytes small (opened-check bytes set o) ∙ ap (λ (s : KmerSet). set_blocks s.k s.keys) (sym (opened-set bytes set o))
