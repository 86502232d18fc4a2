-- Document 02, W7: where an entry stands among the keys, two keys that show it, lookups that go by entries, refusal 15, and the maker.
use Prim.Native.Nat.{ℕ, zero, suc, ◌+◌, ◌*◌, ◌-◌, ◌/◌, ◌%◌, ◌^◌, ◌≤◌, ◌<◌}
use native.Mathlib.Omega.{arith}
use native.Mathlib.Nat.{eq-or-lt_of_le, le_trans, div-mul-le_self, le-div_iff_mul-le, div-lt_iff_lt-mul}
use native.Mathlib.Decide.{dec_lt}
use borrow.Author.Tests.{lt-ltb, le-ltb, eq-eqb, ltb-true, ltb-false, eqb-true}
use mathlib.Core.Path.{◌≡◌, refl, sym, ap, ap₂, ◌∙◌}
use mathlib.Core.Bool.{Bool, true, false, false≢true}
use mathlib.Core.Logic.{◌↔◌, ◌⊎◌, inl, inr}
use mathlib.Core.Option.{none, some, some-injective, none-ne-some}
use mathlib.Core.List.{List, [], ◌∷◌}
use lib.Dec.{eqb, ltb, lit<}
use lib.ListN.{length, get_or, take, drop, replicate, length-drop, take-append-drop, get_or-eq_default}
use lib.Pow.{pow-add}
use lib.Seq.{slice, drop-nil, get_or-take, get_or-drop, take-take, length-take-le, take_at}
use Rattle.rules.specs.Letters.{canonical}
use Rattle.rules.specs.Refusal.{Refusal, Outcome, accepted, refused, unless}
use Rattle.rules.specs.Set.{KmerSet, offering, first_letters, first_code, entry_in, number_from, first_for, keys_for, lookup, block_word, check_right, set_of, opened}
use Rattle.rules.specs.Blocks.{blocks_for, unmade}
use Rattle.rules.specs.Blocks.{Keys}
use Rattle.rules.specs.Index.{count_below, index_entry, entries_from, index_entries, index_list, index_blocks, make_index, same_bytes, index_check}
use Rattle.rules_laws.proofs.Kmer.{four-pos}
use Rattle.rules_laws.proofs.Opened.{both, unless-passed, opened-set}
use Rattle.rules_laws.proofs.Keys.{opened-keys}
use Rattle.rules_laws.proofs.Lookup.{not-numbered, number_behind, number-before}
use Rattle.rules_laws.proofs.Blocks.{Bytes, Words, blocks-length, blocks-listed, blocks-checked, blocks-are, Into, into-accepted, into-refused}

-- ---- first letters

-- First letters below v: a code below v · 4^(k − m).
pub first_below : (k y v : ℕ) → (first_code k y < v) ↔ (y < v * 4 ^ (k - first_letters k))
unfolding first_code
first_below k y v = div-lt_iff_lt-mul (four-pos (k - first_letters k))

-- A lower code has no higher first letters.
first-le : (k a b : ℕ) → a ≤ b → first_code k a ≤ first_code k b
unfolding first_code
first-le k a b h = (le-div_iff_mul-le (four-pos (k - first_letters k))).1 (le_trans (div-mul-le_self a (4 ^ (k - first_letters k))) h)

first-split : (k : ℕ) → 4 ^ k ≡ 4 ^ first_letters k * 4 ^ (k - first_letters k)
first-split k =
    let e : first_letters k + (k - first_letters k) ≡ k = omega arith in
    ap (λ (n : ℕ). 4 ^ n) (sym e) ∙ pow-add 4 (first_letters k) (k - first_letters k)

-- Of k letters the first m have one of the 4^m codes.
pub first-lt : (k y : ℕ) → (y < 4 ^ k) ↔ (first_code k y < 4 ^ first_letters k)
first-lt k y = (λ h. (first_below k y (4 ^ first_letters k)).1 (rw (← (first-split k)) h), λ h. rw (first-split k) ((first_below k y (4 ^ first_letters k)).0 h))

-- ---- an entry is where its letters start

-- The keys before e have first letters below v, the others have not.
pub record Starts (k v : ℕ) (keys : List ℕ) (e : ℕ) : Type 0 where
  pub within : e ≤ length keys
  pub before : (i : ℕ) → i < e → first_code k (get_or keys i 0) < v
  pub after : (i : ℕ) → e ≤ i → i < length keys → v ≤ first_code k (get_or keys i 0)

-- No key has lower first letters than one before it.
abbrev Ordered : ℕ → List ℕ → Type 0
Ordered k keys = (i j : ℕ) → i ≤ j → j < length keys → first_code k (get_or keys i 0) ≤ first_code k (get_or keys j 0)

none_below : (k v : ℕ) (keys : List ℕ) → ((i : ℕ) → i < length keys → v ≤ first_code k (get_or keys i 0)) → count_below k v keys ≡ 0
unfolding count_below
none_below k v [] f = refl
none_below k v (y ∷ ys) f = rw (le-ltb (first_code k y) v (f 0 (omega arith)), count_below) (none_below k v ys (λ i h. f (suc i) (omega arith)))

count-starts : (k v : ℕ) (keys : List ℕ) → Ordered k keys → Starts k v keys (count_below k v keys)
unfolding count_below
count-starts k v [] o = record { within = omega arith; before = λ i h. absurd (omega arith); after = λ i l h. absurd (omega arith) }
count-starts k v (y ∷ ys) o = go (ltb (first_code k y) v) refl (count-starts k v ys (λ i j l h. o (suc i) (suc j) (omega arith) (omega arith)))
  where
    first : first_code k y < v → Starts k v ys (count_below k v ys) → Starts k v (y ∷ ys) (suc (count_below k v ys))
    first g s = record { within = omega (arith, s.within); before = before; after = after }
      where
        before : (i : ℕ) → i < suc (count_below k v ys) → first_code k (get_or (y ∷ ys) i 0) < v
        before zero h = g
        before (suc i) h = s.before i (omega arith)

        after : (i : ℕ) → suc (count_below k v ys) ≤ i → i < suc (length ys) → v ≤ first_code k (get_or (y ∷ ys) i 0)
        after zero h n = absurd (omega arith)
        after (suc i) h n = s.after i (omega arith) (omega arith)

    behind : v ≤ first_code k y → (i : ℕ) → i < suc (length ys) → v ≤ first_code k (get_or (y ∷ ys) i 0)
    behind g i h = omega (arith, o 0 i (omega arith) h)

    go : (t : Bool) → ltb (first_code k y) v ≡ t → Starts k v ys (count_below k v ys)
        → Starts k v (y ∷ ys) (elim t [ true ↦ suc (count_below k v ys) | false ↦ count_below k v ys ])
    go true e s = first (ltb-true (first_code k y) v e) s
    go false e s =
        let g = ltb-false (first_code k y) v e in
        rw (none_below k v ys (λ i h. behind g (suc i) (omega arith)))
        (record { within = omega arith; before = λ i h. absurd (omega arith); after = λ i l h. behind g i h })

keys-order : {k : ℕ} {keys : List ℕ} → Keys k keys → (i j : ℕ) → i ≤ j → j < length keys → get_or keys i 0 ≤ get_or keys j 0
keys-order {k} {keys} h i zero l g = let e : i ≡ 0 = omega arith in rw e (omega arith)
keys-order {k} {keys} h i (suc j) l g = go (eq-or-lt_of_le l) (λ m. keys-order h i j m (omega arith))
  where
    go : (i ≡ suc j) ⊎ (i < suc j) → (i ≤ j → get_or keys i 0 ≤ get_or keys j 0) → get_or keys i 0 ≤ get_or keys (suc j) 0
    go (inl e) before = rw e (omega arith)
    go (inr m) before = omega (arith, before (omega arith), h.rising j g)

-- The key before e has first letters below v, and the key at e has not; at either end there is no such key.
pub record Splits (set : KmerSet) (v e : ℕ) : Type 0 where
  pub within : e ≤ length set.keys
  pub before : 0 < e → first_code set.k (get_or set.keys (e - 1) 0) < v
  pub after : e < length set.keys → v ≤ first_code set.k (get_or set.keys e 0)

module _ (set : KmerSet) (h : Keys set.k set.keys) where
  pub entry-starts : (v : ℕ) → Starts set.k v set.keys (index_entry set v)
  unfolding index_entry
  entry-starts v = count-starts set.k v set.keys (λ i j l g. first-le set.k _ _ (keys-order h i j l g))

  pub entry-le : (v : ℕ) → index_entry set v ≤ length set.keys
  entry-le v = (entry-starts v).within

  -- Key i has first letters below v exactly when it is numbered below entry v.
  pub key_below : (v i : ℕ) → i < length set.keys → ltb (first_code set.k (get_or set.keys i 0)) v ≡ ltb i (index_entry set v)
  key_below v i g = go (dec_lt i (index_entry set v))
    where
      go : Dec (i < index_entry set v) → ltb (first_code set.k (get_or set.keys i 0)) v ≡ ltb i (index_entry set v)
      go (yes l) = lt-ltb _ v ((entry-starts v).before i l) ∙ sym (lt-ltb i _ l)
      go (no f) = le-ltb _ v ((entry-starts v).after i (omega arith) g) ∙ sym (le-ltb i (index_entry set v) (omega arith))

  -- Entries rise, from 0 to the number of keys.
  pub entries-rise : (v w : ℕ) → v ≤ w → index_entry set v ≤ index_entry set w
  entries-rise v w l = go (dec_lt (index_entry set w) (index_entry set v))
    where
      go : Dec (index_entry set w < index_entry set v) → index_entry set v ≤ index_entry set w
      go (yes g) =
          absurd (omega (arith, (entry-starts v).before (index_entry set w) g, (entry-starts w).after (index_entry set w) (omega arith) (omega (arith, entry-le v))))
      go (no f) = omega arith

  pub first_entry : index_entry set 0 ≡ 0
  first_entry = go (dec_lt 0 (index_entry set 0))
    where
      go : Dec (0 < index_entry set 0) → index_entry set 0 ≡ 0
      go (yes g) = absurd (omega (arith, (entry-starts 0).before 0 g))
      go (no f) = omega arith

  pub last_entry : index_entry set (4 ^ first_letters set.k) ≡ length set.keys
  last_entry = go (dec_lt (index_entry set m) (length set.keys))
    where
      m : ℕ
      m = 4 ^ first_letters set.k

      go : Dec (index_entry set m < length set.keys) → index_entry set m ≡ length set.keys
      go (yes g) =
          absurd (omega (arith, (entry-starts m).after (index_entry set m) (omega arith) g, (first-lt set.k _).0 (h.small (index_entry set m) g)))
      go (no f) = omega (arith, entry-le m)

  -- An entry is right exactly when the key before it has a smaller prefix and the key at it has not.
  pub entry-right : (v e : ℕ) → (e ≡ index_entry set v) ↔ Splits set v e
  entry-right v e = (splits, entry)
    where
      splits : e ≡ index_entry set v → Splits set v e
      splits q = record {
        within = omega (arith, entry-le v);
        before = λ l. (entry-starts v).before (e - 1) (omega arith);
        after = λ l. (entry-starts v).after e (omega arith) l;
      }

      entry : Splits set v e → e ≡ index_entry set v
      entry s = go (dec_lt e (index_entry set v)) (dec_lt (index_entry set v) e)
        where
          go : Dec (e < index_entry set v) → Dec (index_entry set v < e) → e ≡ index_entry set v
          go (yes l) b = absurd (omega (arith, (entry-starts v).before e l, s.after (omega (arith, entry-le v))))
          go (no a) (yes l) =
              absurd (omega (arith, s.before (omega arith), (entry-starts v).after (e - 1) (omega arith) (omega (arith, s.within))))
          go (no a) (no b) = omega arith

-- ---- a lookup with entries

-- A key that is neither before `lo` nor from `hi` on is looked for between them.
number-slice : (x : ℕ) (keys : List ℕ) (lo hi : ℕ) → lo ≤ hi → hi ≤ length keys → ((i : ℕ) → i < lo → get_or keys i 0 ≡ x → ⊥)
    → ((i : ℕ) → hi ≤ i → i < length keys → get_or keys i 0 ≡ x → ⊥) → number_from lo x (slice lo hi keys) ≡ number_from 0 x keys
number-slice x keys lo hi l g before after =
    let size : length (take lo (take hi keys)) ≡ lo = ap length (take-take lo hi keys l) ∙ length-take-le lo keys (omega arith) in
    let start : 0 + length (take lo (take hi keys)) ≡ lo = omega arith in
    sym (ap (number_from 0 x) (sym (take-append-drop hi keys))
    ∙ number-before 0 x (take hi keys) (drop hi keys) out-after
    ∙ ap (number_from 0 x) (sym (take-append-drop lo (take hi keys)))
    ∙ number_behind 0 x (take lo (take hi keys)) (slice lo hi keys) out-before
    ∙ ap (λ (n : ℕ). number_from n x (slice lo hi keys)) start)
  where
    out-before : (i : ℕ) → i < length (take lo (take hi keys)) → get_or (take lo (take hi keys)) i 0 ≡ x → ⊥
    out-before i h e =
        let size : length (take lo (take hi keys)) ≡ lo = ap length (take-take lo hi keys l) ∙ length-take-le lo keys (omega arith) in
        let at : get_or (take lo (take hi keys)) i 0 ≡ get_or keys i 0 =
        ap (λ (s : List ℕ). get_or s i 0) (take-take lo hi keys l) ∙ get_or-take lo keys i 0 (omega arith) in
        before i (omega arith) (sym at ∙ e)

    out-after : (i : ℕ) → i < length (drop hi keys) → get_or (drop hi keys) i 0 ≡ x → ⊥
    out-after i h e = after (hi + i) (omega arith) (omega (arith, length-drop hi keys)) (sym (get_or-drop hi keys i 0) ∙ e)

module _ (set : KmerSet) (h : Keys set.k set.keys) where
  -- A key is found among those of its first letters, and nowhere else.
  pub found_between : (x : ℕ) → (let v : ℕ = first_code set.k x in
      number_from (index_entry set v) x (slice (index_entry set v) (index_entry set (suc v)) set.keys) ≡ number_from 0 x set.keys)
  found_between x =
      let v : ℕ = first_code set.k x in
      number-slice x set.keys (index_entry set v) (index_entry set (suc v)) (entries-rise set h v (suc v) (omega arith)) (entry-le set h (suc v))
      (λ i l e. let g : v < v = rw e at ((entry-starts set h v).before i l) in omega arith)
      (λ i l g e. let b : suc v ≤ v = rw e at ((entry-starts set h (suc v)).after i l g) in omega arith)

-- ---- the entries that blocks hold

pub entries-length : (set : KmerSet) (v n : ℕ) → length (entries_from set v n) ≡ n
unfolding entries_from
entries-length set v zero = refl
entries-length set v (suc n) = ap suc (entries-length set (suc v) n)

entries_at : (set : KmerSet) (v n i : ℕ) → i < n → get_or (entries_from set v n) i 0 ≡ index_entry set (v + i)
unfolding entries_from
entries_at set v zero i l = absurd (omega arith)
entries_at set v (suc n) zero l = (let e : v ≡ v + 0 = omega arith in ap (index_entry set) e)
entries_at set v (suc n) (suc i) l = entries_at set (suc v) n i (omega arith) ∙ (let e : suc v + i ≡ v + suc i = omega arith in ap (index_entry set) e)

pub list_length : (set : KmerSet) → length (index_list set) ≡ index_entries set.k
unfolding index_list
list_length set = entries-length set 0 (index_entries set.k)

pub list_at : (set : KmerSet) (v : ℕ) → v < index_entries set.k → get_or (index_list set) v 0 ≡ index_entry set v
unfolding index_list
list_at set v l = entries_at set 0 (index_entries set.k) v l ∙ (let e : 0 + v ≡ v = omega arith in ap (index_entry set) e)

pub list-behind : (set : KmerSet) (v : ℕ) → index_entries set.k ≤ v → get_or (index_list set) v 0 ≡ 0
list-behind set v l = get_or-eq_default (index_list set) 0 {n = v} (omega (arith, list_length set))

module _ (set : KmerSet) (h : Keys set.k set.keys) where
  pub list-words : Words (index_list set)
  list-words i = go (dec_lt i (index_entries set.k))
    where
      go : Dec (i < index_entries set.k) → get_or (index_list set) i 0 < 2 ^ 64
      go (yes l) = rw (list_at set i l) (omega (arith, entry-le set h i, h.few))
      go (no f) = rw (list-behind set i (omega arith)) (lit< tt)

  listed : (v : ℕ) → entry_in (index_blocks set) v ≡ get_or (index_list set) v 0
  unfolding entry_in index_blocks
  listed v = blocks-listed (index_list set) list-words (blocks_for (index_entries set.k)) (omega (arith, list_length set)) v

  -- What is read from the blocks: the entries, and behind them zeros.
  pub entry_read : (v : ℕ) → v < index_entries set.k → entry_in (index_blocks set) v ≡ index_entry set v
  entry_read v l = listed v ∙ list_at set v l

  pub spare-read : (v : ℕ) → index_entries set.k ≤ v → entry_in (index_blocks set) v ≡ 0
  spare-read v l = listed v ∙ list-behind set v l

  -- Among the keys between the entries that are read: for a code of k letters those of its first letters, for a larger number none.
  read_between : (x : ℕ) → (let v : ℕ = first_code set.k x in let lo : ℕ = entry_in (index_blocks set) v in
      number_from lo x (slice lo (entry_in (index_blocks set) (suc v)) set.keys) ≡ number_from 0 x set.keys)
  unfolding number_from index_entries
  read_between x = go (dec_lt v (4 ^ first_letters set.k))
    where
      v : ℕ
      v = first_code set.k x

      lo : ℕ
      lo = entry_in (index_blocks set) v

      go : Dec (v < 4 ^ first_letters set.k) → number_from lo x (slice lo (entry_in (index_blocks set) (suc v)) set.keys) ≡ number_from 0 x set.keys
      go (yes l) = rw (entry_read v (omega arith), entry_read (suc v) (omega arith)) (found_between set h x)
      go (no f) =
          rw (spare-read (suc v) (omega arith), drop-nil {A = ℕ} lo)
          (sym (not-numbered 0 x set.keys (λ i l e. f ((first-lt set.k x).0 (rw e at (h.small i l))))))

  -- So a lookup that reads its entries there agrees with the direct one, whatever number it is asked for, and whatever counts are offered.
  pub blocks-agree : (counts : List ℕ) (y : ℕ) → lookup (offering (index_blocks set) counts set) y ≡ lookup (offering [] counts set) y
  unfolding lookup first_for keys_for offering
  blocks-agree counts y = go (index_blocks set) refl
    where
      key : ℕ
      key = canonical set.k y

      go : (index : List ℕ) → index_blocks set ≡ index → lookup (offering index counts set) y ≡ number_from 0 key set.keys
      go [] e = refl
      go (b ∷ bs) e = rw (← e) (read_between key)

-- ---- refusal 15

-- As many bytes as the blocks have, each word of the list right, spare words zero, and each check word right.
pub record ByWords (set : KmerSet) (index : List ℕ) : Type 0 where
  pub long : length index ≡ 512 * blocks_for (index_entries set.k)
  pub words : (v : ℕ) → v < 63 * blocks_for (index_entries set.k) → entry_in index v ≡ get_or (index_list set) v 0
  pub checks : (b : ℕ) → b < blocks_for (index_entries set.k) → check_right index b ≡ true

module _ (set : KmerSet) (h : Keys set.k set.keys) where
  count : ℕ
  count = blocks_for (index_entries set.k)

  few : length (index_list set) ≤ 63 * count
  unfolding count
  few = omega (arith, list_length set)

  -- Bytes are the blocks exactly when their words are.
  pub by-words : (index : List ℕ) → Bytes index → (index ≡ index_blocks set) ↔ ByWords set index
  unfolding count index_blocks check_right entry_in
  by-words index small = (there, back)
    where
      there : index ≡ index_blocks set → ByWords set index
      there e = rw e (record {
        long = blocks-length (index_list set) 0 count;
        words = λ v l. listed set h v;
        checks = λ b l. eq-eqb _ _ (blocks-checked (index_list set) (list-words set h) count few b l);
      })

      back : ByWords set index → index ≡ index_blocks set
      back w = blocks-are (index_list set) (list-words set h) count few index small w.long at w.checks
        where
          at : (b i : ℕ) → b < count → i < 63 → block_word index b i ≡ get_or (index_list set) (63 * b + i) 0
          at b i l g =
              let d : (63 * b + i) / 63 ≡ b = omega arith in
              let m : (63 * b + i) % 63 ≡ i = omega arith in
              rw (d, m) at (w.words (63 * b + i) (omega arith))

pub bytes_same : (a : List ℕ) → same_bytes a a ≡ true
unfolding same_bytes
bytes_same [] = refl
bytes_same (x ∷ xs) = rw (eq-eqb x x refl) (bytes_same xs)

pub bytes-are : (a b : List ℕ) → same_bytes a b ≡ true → a ≡ b
unfolding same_bytes
bytes-are [] [] e = refl
bytes-are [] (y ∷ ys) e = absurd (false≢true e)
bytes-are (x ∷ xs) [] e = absurd (false≢true e)
bytes-are (x ∷ xs) (y ∷ ys) e =
    let t = both (eqb x y) (same_bytes xs ys) e in
    ap₂ (λ (z : ℕ) (zs : List ℕ). z ∷ zs) (eqb-true x y t.0) (bytes-are xs ys t.1)

-- A test that holds exactly where two lists are the same.
pub same_bytes_lem : (t : Bool) (a b : List ℕ) → (t ≡ true) ↔ (a ≡ b) → t ≡ same_bytes a b
same_bytes_lem t a b f = go t refl (same_bytes a b) refl
  where
    go : (x : Bool) → t ≡ x → (y : Bool) → same_bytes a b ≡ y → t ≡ same_bytes a b
    go true e y g = e ∙ sym (ap (same_bytes a) (sym (f.0 e)) ∙ bytes_same a)
    go false e true g = absurd (false≢true (sym e ∙ f.1 (bytes-are a b g)))
    go false e false g = e ∙ sym g

module _ (set : KmerSet) where
  -- An index passes exactly when it is not offered or is the blocks built from the set.
  pub index_passes : (index : List ℕ) → (index_check set index ≡ none) ↔ ((index ≡ []) ⊎ (index ≡ index_blocks set))
  unfolding index_check unless
  index_passes [] = (λ e. inl refl, λ e. refl)
  index_passes (b ∷ bs) = (λ e. inr (bytes-are (b ∷ bs) (index_blocks set) (unless-passed _ 15 e)), back)
    where
      back : (b ∷ bs ≡ []) ⊎ (b ∷ bs ≡ index_blocks set) → index_check set (b ∷ bs) ≡ none
      back (inl e) = absurd (let z : ◌≡◌ {A = ℕ} 0 1 = cc in omega arith)
      back (inr e) = ap (λ (t : Bool). unless t 15) (ap (same_bytes (b ∷ bs)) (sym e) ∙ bytes_same (b ∷ bs))

  -- Otherwise the refusal is 15, without a place.
  pub index-refused : (index : List ℕ) (r : Refusal) → index_check set index ≡ some r → r ≡ record { number = 15; place = 0 }
  unfolding index_check unless
  index-refused [] r e = absurd (none-ne-some r e)
  index-refused (b ∷ bs) r e = go (same_bytes (b ∷ bs) (index_blocks set)) e
    where
      go : (t : Bool) → unless t 15 ≡ some r → r ≡ record { number = 15; place = 0 }
      go true f = absurd (none-ne-some r f)
      go false f = sym (some-injective (record { number = 15; place = 0 }) r f)

-- ---- of every set that opens

module _ (bytes : List ℕ) (set : KmerSet) (o : opened bytes ≡ accepted set) where
  -- Nothing is offered with it.
  pub offering-none : offering [] [] set ≡ set
  unfolding offering set_of
  offering-none = ap (offering [] []) (opened-set bytes set o) ∙ sym (opened-set bytes set o)

  -- Among the keys from entry v up to entry v + 1 a lookup finds what the direct one does: the key of the same index, or none.
  pub opened-agrees : (y : ℕ) → (let key : ℕ = canonical set.k y in let v : ℕ = first_code set.k key in
      number_from (index_entry set v) key (slice (index_entry set v) (index_entry set (suc v)) set.keys) ≡ lookup set y)
  unfolding lookup first_for keys_for offering
  opened-agrees y =
      found_between set (opened-keys bytes set o) (canonical set.k y) ∙ ap (λ (s : KmerSet). lookup s y) offering-none

  -- A lookup by an offered index that passes 15 answers what the direct one does.
  pub offered-agrees : (index counts : List ℕ) → index_check set index ≡ none → (y : ℕ) → lookup (offering index counts set) y ≡ lookup (offering [] counts set) y
  offered-agrees index counts passes y = go ((index_passes set index).0 passes)
    where
      go : (index ≡ []) ⊎ (index ≡ index_blocks set) → lookup (offering index counts set) y ≡ lookup (offering [] counts set) y
      go (inl e) = rw e
      go (inr e) = rw e (blocks-agree set (opened-keys bytes set o) counts y)

  -- An accepted call of the maker: what it leaves.
  pub index-made : (buffer : List ℕ) (size : ℕ) → (make_index bytes buffer).answer ≡ accepted size
      → Into buffer (index_blocks set) size (make_index bytes buffer).buffer
  unfolding make_index
  index-made buffer size h = rw (o, make_index) (into-accepted buffer (index_blocks set) size (rw (o, make_index) at h))

  -- What the maker leaves passes 15 with the set.
  pub made-passes : (buffer : List ℕ) (size : ℕ) → (make_index bytes buffer).answer ≡ accepted size
      → index_check set (take size (make_index bytes buffer).buffer) ≡ none
  made-passes buffer size h =
      let l = index-made buffer size h in
      (index_passes set _).1 (inr (rw l.buffer_is (take_at (index_blocks set) (replicate (length buffer - size) 0) size l.long)))

-- A refusal leaves the buffer unchanged.
pub index-unchanged : (bytes buffer : List ℕ) (r : Refusal) → (make_index bytes buffer).answer ≡ refused r → (make_index bytes buffer).buffer ≡ buffer
unfolding make_index unmade
index-unchanged bytes buffer r h = go (opened bytes) refl
  where
    go : (a : Outcome KmerSet) → opened bytes ≡ a → (make_index bytes buffer).buffer ≡ buffer
    go (refused q) e = rw (e, make_index)
    go (accepted set) e = rw (e, make_index) (into-refused buffer (index_blocks set) r (rw (e, make_index) at h))
