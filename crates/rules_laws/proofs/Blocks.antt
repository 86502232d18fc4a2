-- Laws of words laid out as blocks.
use Prim.Native.Nat.{ℕ, zero, suc, ◌+◌, ◌*◌, ◌-◌, ◌/◌, ◌%◌, ◌^◌, ◌≤◌, ◌<◌}
use native.Mathlib.Omega.{arith}
use native.Mathlib.Nat.{add-zero, mod-lt, pow-suc, div-lt_iff_lt-mul}
use native.Mathlib.Decide.{dec_lt}
use borrow.Author.Tests.{lt-ltb, ltb-true, ltb-false, leb-true, eqb-true}
use mathlib.Core.Path.{◌≡◌, refl, sym, ap, ap₂, ◌∙◌}
use mathlib.Core.Bool.{Bool, true, false}
use mathlib.Core.List.{List, [], ◌∷◌, ◌++◌, append_assoc, append-nil}
use lib.Dec.{ltb, leb, lit<}
use lib.ListN.{length, get_or, drop, replicate, length-append, get_or-eq_default}
use lib.Seq.{get_or-drop, drop-append-add, ext_get_or}
use Rattle.rules.specs.Refusal.{Refusal, accepted, refused}
use Rattle.rules.specs.Set.{little, word, block_word, sum_words, check, check_right}
use Rattle.rules.specs.Blocks.{bytes_of, words_from, sum_of, check_of, block_of, blocks_from, unmade, fits, filled, laid_into}

-- ---- numbers of bytes

-- Every element is a byte; every element is a word.
abbrev pub Bytes : List ℕ → Type 0
Bytes s = (i : ℕ) → get_or s i 0 < 256

abbrev pub Words : List ℕ → Type 0
Words s = (i : ℕ) → get_or s i 0 < 2 ^ 64

-- A number of m bytes goes by these bytes alone.
pub little-ext : (m : ℕ) (a b : List ℕ) → ((t : ℕ) → t < m → get_or a t 0 ≡ get_or b t 0) → little m a ≡ little m b
unfolding little
little-ext zero a b f = refl
little-ext (suc m) a b f =
    ap₂ (λ (x y : ℕ). x + 256 * y) (f 0 (omega arith))
    (little-ext m (drop 1 a) (drop 1 b) (λ t l. get_or-drop 1 a t 0 ∙ f (1 + t) (omega arith) ∙ sym (get_or-drop 1 b t 0)))

-- And it says what they are.
little-same : (m : ℕ) (a b : List ℕ) → Bytes a → Bytes b → little m a ≡ little m b → (t : ℕ) → t < m → get_or a t 0 ≡ get_or b t 0
unfolding little
little-same zero a b f g e t l = absurd (omega arith)
little-same (suc m) a b f g e zero l = omega (arith, f 0, g 0)
little-same (suc m) a b f g e (suc t) l =
    let rest : little m (drop 1 a) ≡ little m (drop 1 b) = omega (arith, f 0, g 0) in
    let at : suc t ≡ 1 + t = omega arith in
    rw (at, ← (get_or-drop 1 a t 0), ← (get_or-drop 1 b t 0))
    (little-same m (drop 1 a) (drop 1 b) (λ i. rw (get_or-drop 1 a i 0) (f (1 + i))) (λ i. rw (get_or-drop 1 b i 0) (g (1 + i))) rest t (omega arith))

-- Bytes that say the same words are the same.
pub ext-words : (a b : List ℕ) → length a ≡ length b → Bytes a → Bytes b → ((j : ℕ) → word a j ≡ word b j) → a ≡ b
unfolding word
ext-words a b e f g w = ext_get_or 0 a b e (λ i h. at i)
  where
    from : (s : List ℕ) (i : ℕ) → get_or (drop (8 * (i / 8)) s) (i % 8) 0 ≡ get_or s i 0
    from s i = let d : 8 * (i / 8) + i % 8 ≡ i = omega arith in get_or-drop (8 * (i / 8)) s (i % 8) 0 ∙ ap (λ (j : ℕ). get_or s j 0) d

    behind : (s : List ℕ) → Bytes s → (n : ℕ) → Bytes (drop n s)
    behind s h n i = rw (get_or-drop n s i 0) (h (n + i))

    at : (i : ℕ) → get_or a i 0 ≡ get_or b i 0
    at i =
        sym (from a i)
        ∙ little-same 8 (drop (8 * (i / 8)) a) (drop (8 * (i / 8)) b) (behind a f (8 * (i / 8))) (behind b g (8 * (i / 8))) (w (i / 8)) (i % 8) (mod-lt i (lit< tt))
        ∙ from b i

pub little-bytes : (m x : ℕ) (rest : List ℕ) → x < 256 ^ m → little m (bytes_of m x ++ rest) ≡ x
unfolding little bytes_of
little-bytes zero x rest h = omega arith
little-bytes (suc m) x rest h =
    let p : 256 ^ suc m ≡ 256 ^ m * 256 = pow-suc 256 m in
    rw (little-bytes m (x / 256) rest ((div-lt_iff_lt-mul (lit< tt)).1 (omega arith))) (omega arith)

-- ---- lengths, and that all are bytes

pub bytes-length : (m x : ℕ) → length (bytes_of m x) ≡ m
unfolding bytes_of
bytes-length zero x = refl
bytes-length (suc m) x = ap suc (bytes-length m (x / 256))

words-length : (words : List ℕ) (i m : ℕ) → length (words_from words i m) ≡ 8 * m
unfolding words_from
words-length words i zero = refl
words-length words i (suc m) =
    length-append (bytes_of 8 (get_or words i 0)) (words_from words (suc i) m)
    ∙ ap₂ (λ (x y : ℕ). x + y) (bytes-length 8 (get_or words i 0)) (words-length words (suc i) m)
    ∙ (let e : 8 + 8 * m ≡ 8 * suc m = omega arith in e)

block-length : (words : List ℕ) (b : ℕ) → length (block_of words b) ≡ 512
unfolding block_of
block-length words b =
    length-append (words_from words (63 * b) 63) (bytes_of 8 (check_of words b))
    ∙ ap₂ (λ (x y : ℕ). x + y) (words-length words (63 * b) 63) (bytes-length 8 (check_of words b))

pub blocks-length : (words : List ℕ) (b m : ℕ) → length (blocks_from words b m) ≡ 512 * m
unfolding blocks_from
blocks-length words b zero = refl
blocks-length words b (suc m) =
    length-append (block_of words b) (blocks_from words (suc b) m)
    ∙ ap₂ (λ (x y : ℕ). x + y) (block-length words b) (blocks-length words (suc b) m)
    ∙ (let e : 512 + 512 * m ≡ 512 * suc m = omega arith in e)

none-bytes : Bytes []
none-bytes i = lit< tt

pub append-bytes : (a b : List ℕ) → Bytes a → Bytes b → Bytes (a ++ b)
append-bytes [] b f g i = g i
append-bytes (x ∷ a) b f g zero = f 0
append-bytes (x ∷ a) b f g (suc i) = append-bytes a b (λ j. f (suc j)) g i

number-bytes : (m x : ℕ) → Bytes (bytes_of m x)
unfolding bytes_of
number-bytes zero x i = none-bytes i
number-bytes (suc m) x zero = mod-lt x (lit< tt)
number-bytes (suc m) x (suc i) = number-bytes m (x / 256) i

words-bytes : (words : List ℕ) (i m : ℕ) → Bytes (words_from words i m)
unfolding words_from
words-bytes words i zero = none-bytes
words-bytes words i (suc m) =
    append-bytes (bytes_of 8 (get_or words i 0)) (words_from words (suc i) m) (number-bytes 8 (get_or words i 0)) (words-bytes words (suc i) m)

pub blocks-bytes : (words : List ℕ) (b m : ℕ) → Bytes (blocks_from words b m)
unfolding blocks_from block_of
blocks-bytes words b zero = none-bytes
blocks-bytes words b (suc m) =
    append-bytes (block_of words b) (blocks_from words (suc b) m)
    (append-bytes (words_from words (63 * b) 63) (bytes_of 8 (check_of words b)) (words-bytes words (63 * b) 63) (number-bytes 8 (check_of words b)))
    (blocks-bytes words (suc b) m)

-- ---- zeros

pub zeros-at : (n i : ℕ) → get_or {A = ℕ} (replicate n 0) i 0 ≡ 0
zeros-at zero i = refl
zeros-at (suc n) zero = refl
zeros-at (suc n) (suc i) = zeros-at n i

pub zeros-bytes : (n : ℕ) → Bytes (replicate n 0)
zeros-bytes n i = rw (zeros-at n i) (lit< tt)

little-zero : (m : ℕ) (s : List ℕ) → ((i : ℕ) → get_or s i 0 ≡ 0) → little m s ≡ 0
unfolding little
little-zero zero s f = refl
little-zero (suc m) s f = rw (f 0, little-zero m (drop 1 s) (λ i. get_or-drop 1 s i 0 ∙ f (1 + i)))

pub zeros-word : (n j : ℕ) → word (replicate n 0) j ≡ 0
unfolding word
zeros-word n j = little-zero 8 (drop (8 * j) (replicate n 0)) (λ i. get_or-drop (8 * j) (replicate n 0) i 0 ∙ zeros-at n (8 * j + i))

-- Behind the end a word is zero.
pub word_after : (s : List ℕ) (j : ℕ) → length s ≤ 8 * j → word s j ≡ 0
unfolding word
word_after s j h = little-zero 8 (drop (8 * j) s) (λ i. get_or-drop (8 * j) s i 0 ∙ get_or-eq_default s 0 {n = 8 * j + i} (omega arith))

-- ---- the words of blocks

-- Behind c words.
pub word-behind : (p s : List ℕ) (c j : ℕ) → length p ≡ 8 * c → word (p ++ s) (c + j) ≡ word s j
unfolding word
word-behind p s c j e =
    let at : 8 * (c + j) ≡ length p + 8 * j = omega arith in
    ap (little 8) (ap (λ (n : ℕ). drop n (p ++ s)) at ∙ drop-append-add p s (8 * j))

pub word_first : (x : ℕ) (rest : List ℕ) → x < 2 ^ 64 → word (bytes_of 8 x ++ rest) 0 ≡ x
unfolding word
word_first x rest h = little-bytes 8 x rest h

words-word : (words : List ℕ) → Words words → (i m : ℕ) (rest : List ℕ) (j : ℕ) → j < m → word (words_from words i m ++ rest) j ≡ get_or words (i + j) 0
unfolding words_from
words-word words h i zero rest j l = absurd (omega arith)
words-word words h i (suc m) rest zero l =
    let e : i + 0 ≡ i = add-zero i in
    rw (append_assoc (bytes_of 8 (get_or words i 0)) (words_from words (suc i) m) rest, e) (word_first (get_or words i 0) _ (h i))
words-word words h i (suc m) rest (suc j) l =
    let e : i + suc j ≡ suc i + j = omega arith in
    let f : suc j ≡ 1 + j = omega arith in
    rw (append_assoc (bytes_of 8 (get_or words i 0)) (words_from words (suc i) m) rest, e, f)
    (word-behind (bytes_of 8 (get_or words i 0)) (words_from words (suc i) m ++ rest) 1 j (bytes-length 8 (get_or words i 0))
    ∙ words-word words h (suc i) m rest j (omega arith))

-- Word i of block b of a list of words.
unfoldable pub laid_word : List ℕ → ℕ → ℕ → ℕ
laid_word words b i = elim (ltb i 63) [ true ↦ get_or words (63 * b + i) 0 | false ↦ check_of words b ]

block-word : (words : List ℕ) → Words words → (b : ℕ) (rest : List ℕ) (i : ℕ) → i < 64 → word (block_of words b ++ rest) i ≡ laid_word words b i
unfolding block_of laid_word check_of
block-word words h b rest i l =
    rw (append_assoc (words_from words (63 * b) 63) (bytes_of 8 (check_of words b)) rest) (go (ltb i 63) refl)
  where
    go : (t : Bool) → ltb i 63 ≡ t
        → word (words_from words (63 * b) 63 ++ (bytes_of 8 (check_of words b) ++ rest)) i
        ≡ elim t [ true ↦ get_or words (63 * b + i) 0 | false ↦ check_of words b ]
    go true e = words-word words h (63 * b) 63 _ i (ltb-true i 63 e)
    go false e =
        let at : i ≡ 63 + 0 = omega (arith, ltb-false i 63 e) in
        rw at
        (word-behind (words_from words (63 * b) 63) (bytes_of 8 (check_of words b) ++ rest) 63 0 (words-length words (63 * b) 63)
        ∙ word_first (check_of words b) rest (mod-lt _ (lit< tt)))

pub blocks-word : (words : List ℕ) → Words words → (b m : ℕ) (rest : List ℕ) (c i : ℕ) → c < m → i < 64
    → block_word (blocks_from words b m ++ rest) c i ≡ laid_word words (b + c) i
unfolding blocks_from block_word
blocks-word words h b zero rest c i l g = absurd (omega arith)
blocks-word words h b (suc m) rest zero i l g =
    let e : 64 * 0 + i ≡ i = omega arith in
    rw (append_assoc (block_of words b) (blocks_from words (suc b) m) rest, e, add-zero b) (block-word words h b _ i g)
blocks-word words h b (suc m) rest (suc c) i l g =
    let e : 64 * suc c + i ≡ 64 + (64 * c + i) = omega arith in
    let f : b + suc c ≡ suc b + c = omega arith in
    rw (append_assoc (block_of words b) (blocks_from words (suc b) m) rest, e, f)
    (word-behind (block_of words b) (blocks_from words (suc b) m ++ rest) 64 (64 * c + i) (block-length words b)
    ∙ blocks-word words h (suc b) m rest c i (omega arith) g)

-- ---- check words

sum_is : (bytes words : List ℕ) (b m : ℕ) → ((i : ℕ) → i < m → block_word bytes b i ≡ get_or words (63 * b + i) 0) → sum_words bytes b m ≡ sum_of words (63 * b) m
unfolding sum_words sum_of
sum_is bytes words b zero f = refl
sum_is bytes words b (suc m) f = ap₂ (λ (x y : ℕ). x + y) (sum_is bytes words b m (λ i l. f i (omega arith))) (f m (omega arith))

-- A block with 63 words of a list has the check that they give.
pub check_is : (bytes words : List ℕ) (b : ℕ) → ((i : ℕ) → i < 63 → block_word bytes b i ≡ get_or words (63 * b + i) 0) → check bytes b ≡ check_of words b
unfolding check check_of
check_is bytes words b f = ap (λ (n : ℕ). (n + b + 1) % 2 ^ 64) (sum_is bytes words b 63 f)

-- ---- the blocks of a list of words

module _ (words : List ℕ) (w : Words words) (m : ℕ) (few : length words ≤ 63 * m) where
  laid-at : (b i : ℕ) → b < m → i < 64 → block_word (blocks_from words 0 m) b i ≡ laid_word words b i
  laid-at b i l g =
      let e : 0 + b ≡ b = omega arith in
      rw (append-nil (blocks_from words 0 m), e) at (blocks-word words w 0 m [] b i l g)

  pub blocks_at : (b i : ℕ) → b < m → i < 63 → block_word (blocks_from words 0 m) b i ≡ get_or words (63 * b + i) 0
  unfolding laid_word
  blocks_at b i l g = laid-at b i l (omega arith) ∙ rw (lt-ltb i 63 g, laid_word)

  -- The check words of blocks are right.
  pub blocks-checked : (b : ℕ) → b < m → block_word (blocks_from words 0 m) b 63 ≡ check (blocks_from words 0 m) b
  unfolding laid_word
  blocks-checked b l = laid-at b 63 l (lit< tt) ∙ sym (check_is (blocks_from words 0 m) words b (λ i g. blocks_at b i l g))

  -- Word v of the list; behind its end zero, and behind the blocks' end too.
  pub blocks-listed : (v : ℕ) → block_word (blocks_from words 0 m) (v / 63) (v % 63) ≡ get_or words v 0
  unfolding block_word
  blocks-listed v = go (dec_lt (v / 63) m)
    where
      go : Dec (v / 63 < m) → word (blocks_from words 0 m) (64 * (v / 63) + v % 63) ≡ get_or words v 0
      go (yes l) =
          let at : 63 * (v / 63) + v % 63 ≡ v = omega arith in
          blocks_at (v / 63) (v % 63) l (mod-lt v (lit< tt)) ∙ ap (λ (j : ℕ). get_or words j 0) at
      go (no f) =
          word_after (blocks_from words 0 m) (64 * (v / 63) + v % 63) (omega (arith, blocks-length words 0 m))
          ∙ sym (get_or-eq_default words 0 {n = v} (omega arith))

  -- Bytes as many as the blocks have, with their words and right check words, are the blocks.
  module _ (bytes : List ℕ) (small : Bytes bytes) (size : length bytes ≡ 512 * m)
      (listed : (b i : ℕ) → b < m → i < 63 → block_word bytes b i ≡ get_or words (63 * b + i) 0)
      (checked : (b : ℕ) → b < m → check_right bytes b ≡ true) where
    same_block : (b i : ℕ) → b < m → i < 64 → block_word bytes b i ≡ laid_word words b i
    unfolding laid_word check_right
    same_block b i l g = go (ltb i 63) refl
      where
        go : (t : Bool) → ltb i 63 ≡ t → block_word bytes b i ≡ elim t [ true ↦ get_or words (63 * b + i) 0 | false ↦ check_of words b ]
        go true e = listed b i l (ltb-true i 63 e)
        go false e =
            let at : i ≡ 63 = omega (arith, ltb-false i 63 e) in
            ap (block_word bytes b) at ∙ eqb-true _ _ (checked b l) ∙ check_is bytes words b (λ j n. listed b j l n)

    same_word : (j : ℕ) → word bytes j ≡ word (blocks_from words 0 m) j
    unfolding block_word
    same_word j = go (dec_lt (j / 64) m)
      where
        at : 64 * (j / 64) + j % 64 ≡ j
        at = omega arith

        go : Dec (j / 64 < m) → word bytes j ≡ word (blocks_from words 0 m) j
        go (yes l) =
            let in_block : j % 64 < 64 = mod-lt j (lit< tt) in
            rw at at (same_block (j / 64) (j % 64) l in_block ∙ sym (laid-at (j / 64) (j % 64) l in_block))
        go (no f) = word_after bytes j (omega arith) ∙ sym (word_after (blocks_from words 0 m) j (omega (arith, blocks-length words 0 m)))

    pub blocks-are : bytes ≡ blocks_from words 0 m
    blocks-are = ext-words bytes (blocks_from words 0 m) (size ∙ sym (blocks-length words 0 m)) small (blocks-bytes words 0 m) same_word

-- ---- what a maker leaves

-- Accepted: how long the blocks are, that there is room for them, and every byte of the buffer.
pub record Into (buffer bytes : List ℕ) (size : ℕ) (after : List ℕ) : Type 0 where
  pub long : length bytes ≡ size
  pub room : size ≤ length buffer
  pub buffer_is : after ≡ bytes ++ replicate (length buffer - size) 0

module _ (buffer bytes : List ℕ) where
  pub into-accepted : (size : ℕ) → (laid_into buffer bytes).answer ≡ accepted size → Into buffer bytes size (laid_into buffer bytes).buffer
  unfolding laid_into unmade fits filled
  into-accepted size h = go (leb (length bytes) (length buffer)) refl
    where
      go : (t : Bool) → leb (length bytes) (length buffer) ≡ t → Into buffer bytes size (laid_into buffer bytes).buffer
      go true e =
          let a : accepted (length bytes) ≡ accepted size = rw (e, laid_into) at h in
          let l : length bytes ≡ size = cc in
          record {
            long = l;
            room = omega (arith, leb-true (length bytes) (length buffer) e);
            buffer_is = rw (e, laid_into) (ap (λ (n : ℕ). bytes ++ replicate (length buffer - n) 0) l);
          }
      go false e =
          absurd (let a : refused (record { number = 14; place = 0 }) ≡ accepted size = rw (e, laid_into) at h in let z : ◌≡◌ {A = ℕ} 0 1 = cc in omega arith)

  -- A refusal leaves the buffer unchanged.
  pub into-refused : (r : Refusal) → (laid_into buffer bytes).answer ≡ refused r → (laid_into buffer bytes).buffer ≡ buffer
  unfolding laid_into unmade fits
  into-refused r h = go (leb (length bytes) (length buffer)) refl
    where
      go : (t : Bool) → leb (length bytes) (length buffer) ≡ t → (laid_into buffer bytes).buffer ≡ buffer
      go true e =
          absurd (let a : accepted (length bytes) ≡ refused r = rw (e, laid_into) at h in let z : ◌≡◌ {A = ℕ} 0 1 = cc in omega arith)
      go false e = rw (e, laid_into)
