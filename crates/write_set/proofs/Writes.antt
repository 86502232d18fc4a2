-- Laws of the second walk: the keys of the lines so far stand in the blocks, their counts in the list.
use Prim.Native.Nat.{ℕ, zero, suc, ◌+◌, ◌*◌, ◌-◌, ◌/◌, ◌≤◌, ◌<◌, min}
use native.Mathlib.Omega.{arith}
use native.Mathlib.Numerals.{add-one}
use borrow.Author.Tests.{le-leb, lt-leb}
use mathlib.Core.Path.{◌≡◌, refl, sym, ap, ap₂, ◌∙◌}
use mathlib.Core.Bool.{true, false}
use mathlib.Core.Option.{Option, none}
use mathlib.Core.List.{List, [], ◌∷◌, ◌++◌, append-nil}
use lib.ListN.{length, get_or, take, drop, set, replicate, length-replicate, length-take, length-set, length-drop, drop_of_length-le}
use lib.Seq.{drop-cons, take-suc, take_all, take_at, length-take-le, paste, paste-zero, paste-suc}
use borrow.Rule.Slice.PartMut.{put_mid}
use Rattle.rules.specs.Blocks.{blocks_for, blocks_from, set_words, set_blocks}
use Rattle.rules_make.specs.MakeSet.{text_check, text_lines, text_keys, text_counts, form_right, kept, line_count, line_key, max_count, lines_check, line_check, unless_at, last_kept, kept_lines, line_keys, line_counts}
use Rattle.rules_laws.proofs.Opened.{passed}
use Rattle.rules_laws.proofs.Blocks.{Bytes, zeros-at}
use Rattle.rules_laws.proofs.SetBlocks.{set-length, set_words_lem}
use Rattle.rules_make.proofs.MakeSet.{unless-at, text-keys, text-counts-length}
use Rattle.lay.specs.Lay.{Put, Sealed, Holds, Extended}
use Rattle.lay.proofs.Laws.{extended_none, extended-more, holds-none, holds_more, holds_same, sealed-is}
use Rattle.kmer_text.proofs.Keys.{keys_of, key-kept, key-passed}
use Rattle.kmer_text.proofs.Lines.{no-line}

-- Lines that all have the form.
pub data AllFormed (k : ℕ) : List (List ℕ) → Type 0 where
  no_line : AllFormed k []
  one_more : {line : List ℕ} {rest : List (List ℕ)} → form_right k line ≡ true → AllFormed k rest → AllFormed k (line ∷ rest)

all-formed : (k least place : ℕ) (before : Option ℕ) (ls : List (List ℕ)) → lines_check k least place before ls ≡ none → AllFormed k ls
unfolding lines_check line_check
all-formed k least place before [] h = no_line
all-formed k least place before (line ∷ ls) h =
    let both = passed (line_check k least place before line) (lines_check k least (suc place) (last_kept k least before line) ls) h in
    let tests = passed (unless_at (form_right k line) 12 place) _ both.0 in
    one_more (unless-at (form_right k line) 12 place tests.0) (all-formed k least (suc place) (last_kept k least before line) ls both.1)

first-formed : {k : ℕ} {line : List ℕ} {rest : List (List ℕ)} → AllFormed k (line ∷ rest) → form_right k line ≡ true
first-formed (one_more h r) = h

rest-formed : {k : ℕ} {line : List ℕ} {rest : List (List ℕ)} → AllFormed k (line ∷ rest) → AllFormed k rest
rest-formed (one_more h r) = r

-- The first of what is left of a list.
left-inside : (xs : List ℕ) (i x : ℕ) (ys : List ℕ) → drop i xs ≡ x ∷ ys → i < length xs
left-inside xs i x ys e = let n : length (drop i xs) ≡ suc (length ys) = ap length e in omega (arith, length-drop i xs)

left-first : (xs : List ℕ) (i x : ℕ) (ys : List ℕ) → drop i xs ≡ x ∷ ys → get_or xs i 0 ≡ x
left-first xs i x ys e = let f = sym (drop-cons xs i 0 (left-inside xs i x ys e)) ∙ e in cc

left-rest : (xs : List ℕ) (i x : ℕ) (ys : List ℕ) → drop i xs ≡ x ∷ ys → drop (i + 1) xs ≡ ys
left-rest xs i x ys e = let f = sym (drop-cons xs i 0 (left-inside xs i x ys e)) ∙ e in rw add-one (cc)

-- The counts of lines, a line at a time.
abbrev pub counts_of : ℕ → ℕ → List (List ℕ) → List ℕ
counts_of k least ls = line_counts k (kept_lines k least ls)

module _ (k least : ℕ) (line : List ℕ) (rest : List (List ℕ)) where
  count_kept : kept k least line ≡ true → counts_of k least (line ∷ rest) ≡ min (line_count k line) max_count ∷ counts_of k least rest
  unfolding kept_lines line_counts
  count_kept e = rw (e, kept_lines)

  count-passed : kept k least line ≡ false → counts_of k least (line ∷ rest) ≡ counts_of k least rest
  unfolding kept_lines
  count-passed e = rw (e, kept_lines)

-- Whether a line is kept, by its count.
module _ (k least count : ℕ) (line : List ℕ) (count_is : count ≡ line_count k line) where
  pub kept_by : least ≤ count → kept k least line ≡ true
  unfolding kept
  kept_by h = le-leb least (line_count k line) (rw count_is at h)

  pub passed-by : count < least → kept k least line ≡ false
  unfolding kept
  passed-by h = lt-leb least (line_count k line) (rw count_is at h)

-- The first i keys and counts are written, those of n lines, and the lines that are left give the others.
pub record Writing (text : List ℕ) (k least : ℕ) (before blocks old counts : List ℕ) (n i : ℕ) : Type 0 where
  pub few : i ≤ length (text_keys k least text)
  pub formed : AllFormed k (drop n (text_lines text))
  pub left : drop i (text_keys k least text) ≡ keys_of k least (drop n (text_lines text))
  pub counts_left : drop i (text_counts k least text) ≡ counts_of k least (drop n (text_lines text))
  pub written : Extended before 63 (take i (text_keys k least text)) blocks
  pub counts_long : length counts ≡ length old
  pub counted : counts ≡ paste old 0 (text_counts k least text) i

pub writing-starts : (text : List ℕ) (k least : ℕ) (before old : List ℕ) → lines_check k least 0 none (text_lines text) ≡ none
    → Writing text k least before before old old 0 0
unfolding text_keys text_counts
writing-starts text k least before old h = record {
  few = omega arith;
  formed = all-formed k least 0 none (text_lines text) h;
  left = refl;
  counts_left = refl;
  written = extended_none before 63;
  counts_long = refl;
  counted = paste-zero old 0 (text_counts k least text);
}

module _ {text : List ℕ} {k least : ℕ} {before blocks old counts : List ℕ} {n i : ℕ} (w : Writing text k least before blocks old counts n i) (h : n ≡ length (text_lines text)) where
  all_done : i ≡ length (text_keys k least text)
  unfolding kept_lines line_keys
  all_done =
      let none_left : drop i (text_keys k least text) ≡ [] = w.left ∙ ap (keys_of k least) (no-line (text_lines text) n h) in
      let size : length (drop i (text_keys k least text)) ≡ 0 = ap length none_left in
      omega (arith, w.few, length-drop i (text_keys k least text))

  pub writing-ends : Extended before 63 (text_keys k least text) blocks × (counts ≡ text_counts k least text ++ drop (length (text_keys k least text)) old)
  writing-ends =
      let all : ℕ = length (text_keys k least text) in
      let z : 0 + all ≡ all = omega arith in (
        rw (take_all i (text_keys k least text) (omega (arith, all_done))) at w.written,
        w.counted ∙ rw (all_done, z, take_all all (text_counts k least text) (omega (arith, text-counts-length k least text))),
      )

-- Line n.
module _ {text : List ℕ} {k least : ℕ} {before blocks old counts : List ℕ} {n i : ℕ} {line : List ℕ} (w : Writing text k least before blocks old counts n i)
    (t : drop n (text_lines text) ≡ line ∷ drop (n + 1) (text_lines text)) where
  abbrev rest : List (List ℕ)
  rest = drop (n + 1) (text_lines text)

  lines : AllFormed k (line ∷ rest)
  lines = rw t at w.formed

  -- It has the form.
  pub line-formed : form_right k line ≡ true
  line-formed = first-formed lines

  pub written-passed : kept k least line ≡ false → Writing text k least before blocks old counts (n + 1) i
  written-passed is-passed = record {
    few = w.few;
    formed = rest-formed lines;
    left = w.left ∙ ap (keys_of k least) t ∙ key-passed k least line rest is-passed;
    counts_left = w.counts_left ∙ ap (counts_of k least) t ∙ count-passed k least line rest is-passed;
    written = w.written;
    counts_long = w.counts_long;
    counted = w.counted;
  }

  module _ (is-kept : kept k least line ≡ true) where
    left-kept : drop i (text_keys k least text) ≡ line_key k line ∷ keys_of k least rest
    left-kept = w.left ∙ ap (keys_of k least) t ∙ key-kept k least line rest is-kept

    counts-kept : drop i (text_counts k least text) ≡ min (line_count k line) max_count ∷ counts_of k least rest
    counts-kept = w.counts_left ∙ ap (counts_of k least) t ∙ count_kept k least line rest is-kept

    pub written-inside : i < length (text_keys k least text)
    written-inside = left-inside (text_keys k least text) i _ _ left-kept

    pub written-kept : {key count : ℕ} {after : List ℕ} → key ≡ line_key k line → Put blocks (63 + i + (63 + i) / 63) key after
        → count ≡ min (line_count k line) max_count → length (text_keys k least text) ≤ length old
        → Writing text k least before after old (set counts i count) (n + 1) (i + 1)
    written-kept {key} {count} {after} key-is p count_is room =
        let keys : List ℕ = text_keys k least text in
        let cs : List ℕ = text_counts k least text in
        let z : 0 + i ≡ i = omega arith in
        let inside : i < length cs = left-inside cs i _ _ counts-kept in
        record {
          few = omega (arith, written-inside);
          formed = rest-formed lines;
          left = left-rest keys i _ _ left-kept;
          counts_left = left-rest cs i _ _ counts-kept;
          written =
              rw (add-one i, take-suc keys i 0 written-inside, left-first keys i _ _ left-kept, ← key-is)
              (extended-more before 63 (take i keys) blocks (63 + i) key after w.written (omega (arith, length-take-le i keys w.few)) p);
          counts_long = length-set counts i count ∙ w.counts_long;
          counted =
              rw (w.counted, add-one i, count_is, ← (left-first cs i _ _ counts-kept))
              (ap (λ (j : ℕ). set (paste old 0 cs i) j (get_or cs i 0)) (sym z) ∙ paste-suc old 0 cs i 0 (omega (arith, written-inside)) inside);
        }

-- The block of key i is there.
pub key-room : (i n : ℕ) (before blocks : List ℕ) → i < n → 512 * (1 + blocks_for n) ≤ length before → length blocks ≡ length before
    → 512 * (1 + (63 + i) / 63) ≤ length blocks
key-room i n before blocks l h e = omega arith

-- A buffer as long as one with room has room.
pub still-room : (n m a b : ℕ) → n ≡ m → 512 * (1 + blocks_for n) ≤ a → b ≡ a → 512 * (1 + blocks_for m) ≤ b
still-room n m a b e h l = omega arith

-- ---- both buffers whole

-- The counts, and zeros behind them.
pub counts-written : (text : List ℕ) (k least n : ℕ) (c₀ c₁ zeros : List ℕ) → n ≡ length (text_keys k least text) → n ≤ length c₀ → length c₁ ≡ length c₀
    → c₁ ≡ text_counts k least text ++ drop (length (text_keys k least text)) c₀ → zeros ≡ replicate (length (take (length c₁ - n) (drop n c₁))) 0
    → put_mid n (length c₁ - n) c₁ zeros ≡ text_counts k least text ++ replicate (length c₀ - n) 0
counts-written text k least n c₀ c₁ zeros n_is room long e z =
    let counts : take n c₁ ≡ text_counts k least text =
    ap (take n) e ∙ take_at (text_counts k least text) (drop (length (text_keys k least text)) c₀) n (text-counts-length k least text ∙ sym n_is) in
    let behind : drop (length c₁ - n) (drop n c₁) ≡ [] = drop_of_length-le (drop n c₁) {i = length c₁ - n} (omega (arith, length-drop n c₁)) in
    let size : length (take (length c₁ - n) (drop n c₁)) ≡ length c₀ - n = omega (arith, length-take (length c₁ - n) (drop n c₁), length-drop n c₁) in
    rw (counts, behind, z, size, append-nil)

module _ (text : List ℕ) (k least n : ℕ) (right : text_check text k least ≡ none) (n_is : n ≡ length (text_keys k least text)) where
  keys : List ℕ
  keys = text_keys k least text

  -- A cleared buffer, then k and n: a header of 63 words.
  pub header-held : (b₀ b₁ b₂ b₃ : List ℕ) → b₁ ≡ replicate (length b₀) 0 → Put b₁ (0 + 0 / 63) k b₂ → Put b₂ (1 + 1 / 63) n b₃
      → Holds b₃ (k ∷ n ∷ replicate 61 0)
  header-held b₀ b₁ b₂ b₃ e p q =
      let zeros : Holds b₁ [] = rw e (holds-none (length b₀)) in
      let one : Holds b₂ (k ∷ []) = holds_more b₁ [] 0 k b₂ zeros refl p in
      let two : Holds b₃ (k ∷ n ∷ []) = holds_more b₂ (k ∷ []) 1 n b₃ one refl q in
      holds_same b₃ (k ∷ n ∷ []) (k ∷ n ∷ replicate 61 0) two same
    where
      same : (i : ℕ) → get_or (k ∷ n ∷ replicate 61 0) i 0 ≡ get_or (k ∷ n ∷ []) i 0
      same zero = refl
      same (suc zero) = refl
      same (suc (suc i)) = zeros-at 61 i

  pub all-written : (b₀ b₁ b₂ b₃ b₄ b₅ : List ℕ) → 512 * (1 + blocks_for n) ≤ length b₀ → b₁ ≡ replicate (length b₀) 0
      → Put b₁ (0 + 0 / 63) k b₂ → Put b₂ (1 + 1 / 63) n b₃ → Extended b₃ 63 (text_keys k least text) b₄ → Sealed b₄ (1 + (n + 62) / 63) b₅ → Bytes b₅
      → b₅ ≡ set_blocks k (text_keys k least text) ++ replicate (length b₀ - 512 * (1 + blocks_for n)) 0
  unfolding set_blocks set_words
  all-written b₀ b₁ b₂ b₃ b₄ b₅ room e p q x y bytes =
      let size₁ : length b₁ ≡ length b₀ = ap length e ∙ length-replicate {A = ℕ} (length b₀) 0 in
      let size : length b₄ ≡ length b₀ = x.same_length ∙ q.same_length ∙ p.same_length ∙ size₁ in
      let words : List ℕ = set_words k (text_keys k least text) in
      let held : Holds b₄ words = rw n_is at (x.holds (k ∷ n ∷ replicate 61 0) refl (header-held b₀ b₁ b₂ b₃ e p q)) in
      sealed-is b₄ words (1 + (n + 62) / 63) b₅ held y (set_words_lem k (text_keys k least text) (text-keys text k least right))
      (omega (arith, set-length k (text_keys k least text))) (omega arith) bytes
      ∙ ap₂ (λ (c m : ℕ). blocks_from words 0 (1 + (c + 62) / 63) ++ replicate (m - 512 * (1 + (n + 62) / 63)) 0) n_is size
