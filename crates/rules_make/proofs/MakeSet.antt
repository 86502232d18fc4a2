-- What an accepted call writes opens with exactly the kept keys; and what it leaves in the list of counts.
use Prim.Native.Nat.{ℕ, zero, suc, ◌-◌, ◌%◌, ◌^◌, ◌≤◌, ◌<◌, min}
use native.Mathlib.Omega.{arith}
use borrow.Author.Tests.{eqb-true, leb-true}
use mathlib.Core.Path.{◌≡◌, refl, sym, ap, ◌∙◌}
use mathlib.Core.Bool.{Bool, true, false, ◌&&◌, ◌||◌, not, false≢true}
use mathlib.Core.Option.{Option, none, some}
use mathlib.Core.List.{List, [], ◌∷◌, ◌++◌}
use lib.Dec.{eqb, leb, leb-zero, lit<}
use lib.ListN.{length, get_or, take, drop, replicate}
use lib.Seq.{take_at, drop_at}
use Rattle.rules.specs.Letters.{Kmer, add, add_all, kmer, canonical, even_ones, revcomp, code}
use Rattle.rules.specs.Refusal.{Refusal, accepted, refused, Check, ◌or_else◌, unless}
use Rattle.rules.specs.Set.{max_k, max_keys, k_right, opened}
use Rattle.rules.specs.Blocks.{Keys, set_blocks, fits, filled}
use Rattle.rules_make.specs.MakeSet.{text_lines, kept, kept_lines, form_right, line_count, line_key, line_keys, text_keys, max_count, line_counts, text_counts, unless_at, rises_from, line_check, last_kept, lines_check, text_check, set_unmade, both_laid, make_set}
use Rattle.rules_laws.proofs.Kmer.{four-pos, add-lt, revcomp-lt, canonical-lt, canonical-one}
use Rattle.rules_laws.proofs.Opened.{both, passed, unless-passed}
use Rattle.rules_laws.proofs.Blocks.{Into}
use Rattle.rules_laws.proofs.SetBlocks.{set-opens}

-- ---- the keys that a text gives

-- The code of a k-mer is below 4^k.
kmer-lt : (k : ℕ) (bs : List ℕ) → (kmer k bs).code < 4 ^ k
unfolding kmer add_all
kmer-lt k bs = go (record { code = 0; unknown = 0 }) (four-pos k) bs
  where
    go : (y : Kmer) → y.code < 4 ^ k → (ls : List ℕ) → (add_all k y ls).code < 4 ^ k
    go y l [] = l
    go y l (b ∷ ls) = go (add k y (code b)) (add-lt k y (code b)) ls

-- The canonical code of a k-mer is its own canonical code.
pub canonical-twice : (k y : ℕ) → k % 2 ≡ 1 → y < 4 ^ k → canonical k (canonical k y) ≡ canonical k y
unfolding canonical
canonical-twice k y odd h = go (even_ones k y) refl
  where
    go : (t : Bool) → even_ones k y ≡ t → canonical k (elim t [ true ↦ y | false ↦ revcomp k y ]) ≡ elim t [ true ↦ y | false ↦ revcomp k y ]
    go true e = rw (e, canonical)
    go false e = rw ((canonical-one k y odd h).0 ∙ ap not e, canonical)

-- Refusal r, unless the test holds.
pub unless-at : (t : Bool) (r place : ℕ) → unless_at t r place ≡ none → t ≡ true
unfolding unless_at
unless-at true r place h = refl
unless-at false r place h = absurd (let z : ◌≡◌ {A = ℕ} 0 1 = cc in omega arith)

-- ---- codes that rise

-- The least that a code may be behind the last kept one.
unfoldable pub least_after : Option ℕ → ℕ
least_after none = 0
least_after (some before) = suc before

pub rises-least : (before : Option ℕ) (key : ℕ) → rises_from before key ≡ leb (least_after before) key
unfolding rises_from least_after
rises-least none key = sym (leb-zero key)
rises-least (some before) key = refl

-- A list that starts at `least` or above and rises strictly.
pub data Rises : ℕ → List ℕ → Type 0 where
  no_more : {least : ℕ} → Rises least []
  more : {least x : ℕ} {xs : List ℕ} → least ≤ x → Rises (suc x) xs → Rises least (x ∷ xs)

first-rises : {least : ℕ} {xs : List ℕ} → Rises least xs → 0 < length xs → least ≤ get_or xs 0 0
first-rises no_more h = absurd (omega arith)
first-rises (more l r) h = l

rises-at : {least : ℕ} {xs : List ℕ} → Rises least xs → (i : ℕ) → suc i < length xs → get_or xs i 0 < get_or xs (suc i) 0
rises-at no_more i h = absurd (omega arith)
rises-at (more l r) zero h = first-rises r (omega arith)
rises-at (more l r) (suc i) h = rises-at r i (omega arith)

-- Lines that pass 12 and 13 give codes that rise.
lines-rise : (k least place : ℕ) (before : Option ℕ) (ls : List (List ℕ)) → lines_check k least place before ls ≡ none
    → Rises (least_after before) (line_keys k (kept_lines k least ls))
unfolding lines_check line_check last_kept kept_lines line_keys least_after
lines-rise k least place before [] h = no_more
lines-rise k least place before (line ∷ ls) h =
    let both = passed (line_check k least place before line) (lines_check k least (suc place) (last_kept k least before line) ls) h in
    let tests = passed (unless_at (form_right k line) 12 place) (unless_at (not (kept k least line) || rises_from before (line_key k line)) 13 place) both.0 in
    go (kept k least line) refl (unless-at _ 13 place tests.1) both.1 (λ f. lines-rise k least (suc place) f ls)
  where
    go : (t : Bool) → kept k least line ≡ t → (not (kept k least line) || rises_from before (line_key k line)) ≡ true
        → lines_check k least (suc place) (last_kept k least before line) ls ≡ none
        → ((f : Option ℕ) → lines_check k least (suc place) f ls ≡ none → Rises (least_after f) (line_keys k (kept_lines k least ls)))
        → Rises (least_after before) (line_keys k (elim t [ true ↦ line ∷ kept_lines k least ls | false ↦ kept_lines k least ls ]))
    go true e t rest later =
        more (leb-true (least_after before) (line_key k line) (sym (rises-least before (line_key k line)) ∙ rw e at t))
        (later (some (line_key k line)) (rw (e, last_kept) at rest))
    go false e t rest later = later before (rw (e, last_kept) at rest)

-- Key i and count i are those of line i.
line_at : (k : ℕ) (ls : List (List ℕ)) (i : ℕ) → i < length (line_keys k ls) → let line = get_or ls i [] in
    (get_or (line_keys k ls) i 0 ≡ line_key k line) × (get_or (line_counts k ls) i 0 ≡ min (line_count k line) max_count)
unfolding line_keys line_counts
line_at k [] i h = absurd (omega arith)
line_at k (line ∷ ls) zero h = (refl, refl)
line_at k (line ∷ ls) (suc i) h = line_at k ls i (omega arith)

-- Of a text, they are those of kept line i.
pub text-line-at : (k least : ℕ) (text : List ℕ) (i : ℕ) → i < length (text_keys k least text) → let line = get_or (kept_lines k least (text_lines text)) i [] in
    (get_or (text_keys k least text) i 0 ≡ line_key k line) × (get_or (text_counts k least text) i 0 ≡ min (line_count k line) max_count)
unfolding text_keys text_counts
text-line-at k least text = line_at k (kept_lines k least (text_lines text))

pub line-key-lt : (k : ℕ) (line : List ℕ) → line_key k line < 4 ^ k
unfolding line_key
line-key-lt k line = canonical-lt k (kmer k (take k line)).code (kmer-lt k (take k line))

line-key-same : (k : ℕ) (line : List ℕ) → k % 2 ≡ 1 → canonical k (line_key k line) ≡ line_key k line
unfolding line_key
line-key-same k line odd = canonical-twice k (kmer k (take k line)).code odd (kmer-lt k (take k line))

k-odd-of : (k : ℕ) → k_right k ≡ true → (k % 2 ≡ 1) × (k ≤ max_k)
k-odd-of k h = go (eqb (k % 2) 1) refl
  where
    go : (t : Bool) → eqb (k % 2) 1 ≡ t → (k % 2 ≡ 1) × (k ≤ max_k)
    go true e = (eqb-true (k % 2) 1 e, leb-true k max_k (rw e at h))
    go false e = absurd (false≢true (rw e at h))

-- The keys of a text that passes the checks.
pub text-keys : (text : List ℕ) (k least : ℕ) → text_check text k least ≡ none → Keys k (text_keys k least text)
unfolding text_check text_keys
text-keys text k least h =
    let keys : List ℕ = line_keys k (kept_lines k least (text_lines text)) in
    let lines_right : Check = lines_check k least 0 none (text_lines text) in
    let few : Check = unless (leb (length keys) max_keys) 9 in
    let a = passed (unless (k_right k) 9) (lines_right or_else few) h in
    let b = passed lines_right few a.1 in
    let odd = k-odd-of k (unless-passed (k_right k) 9 a.0) in
    let line : (i : ℕ) → List ℕ = λ i. get_or (kept_lines k least (text_lines text)) i [] in
    let key-is : (i : ℕ) → i < length keys → get_or keys i 0 ≡ line_key k (line i) = λ i l. (text-line-at k least text i l).0 in
    record {
      k_odd = odd.0;
      k_high = odd.1;
      few = leb-true (length keys) max_keys (unless-passed (leb (length keys) max_keys) 9 b.1);
      same = λ i l. rw (key-is i l) (line-key-same k (line i) odd.0);
      small = λ i l. rw (key-is i l) (line-key-lt k (line i));
      rising = rises-at (lines-rise k least 0 none (text_lines text) b.0);
    }

-- ---- the counts that a text gives

counts-length : (k : ℕ) (ls : List (List ℕ)) → length (line_counts k ls) ≡ length (line_keys k ls)
unfolding line_counts line_keys
counts-length k [] = refl
counts-length k (line ∷ ls) = ap suc (counts-length k ls)

-- There is one count for each key.
pub text-counts-length : (k least : ℕ) (text : List ℕ) → length (text_counts k least text) ≡ length (text_keys k least text)
unfolding text_counts text_keys
text-counts-length k least text = counts-length k (kept_lines k least (text_lines text))

counts-small : (k : ℕ) (ls : List (List ℕ)) (i : ℕ) → get_or (line_counts k ls) i 0 < 2 ^ 32
unfolding line_counts
counts-small k [] i = lit< tt
counts-small k (line ∷ ls) zero = omega arith
counts-small k (line ∷ ls) (suc i) = counts-small k ls i

-- Each is a 32-bit number.
pub text-counts-small : (k least : ℕ) (text : List ℕ) (i : ℕ) → get_or (text_counts k least text) i 0 < 2 ^ 32
unfolding text_counts
text-counts-small k least text i = counts-small k (kept_lines k least (text_lines text)) i

-- ---- the call

-- A call that is accepted: no check refused, and what it leaves in blocks and counts.
pub record Laid (text : List ℕ) (k least : ℕ) (blocks counts : List ℕ) (size : ℕ) : Type 0 where
  pub checks : text_check text k least ≡ none
  pub into : Into blocks (set_blocks k (text_keys k least text)) size (make_set text k least blocks counts).blocks
  pub into_counts : Into counts (text_counts k least text) (length (text_keys k least text)) (make_set text k least blocks counts).counts

-- Two lists laid into two buffers.
module _ (blocks counts bytes list : List ℕ) where
  both-fit : (size n : ℕ) → length list ≡ n → (both_laid blocks counts bytes list).answer ≡ accepted size
      → Into blocks bytes size (both_laid blocks counts bytes list).blocks × Into counts list n (both_laid blocks counts bytes list).counts
  unfolding both_laid set_unmade fits filled
  both-fit size n n_is h = go (leb (length bytes) (length blocks) && leb (length list) (length counts)) refl
    where
      go : (t : Bool) → (leb (length bytes) (length blocks) && leb (length list) (length counts)) ≡ t
          → Into blocks bytes size (both_laid blocks counts bytes list).blocks × Into counts list n (both_laid blocks counts bytes list).counts
      go true e =
          let a : accepted (length bytes) ≡ accepted size = rw (e, both_laid) at h in
          let l : length bytes ≡ size = cc in
          let f = both (leb (length bytes) (length blocks)) (leb (length list) (length counts)) e in (
            record {
              long = l;
              room = omega (arith, leb-true (length bytes) (length blocks) f.0);
              buffer_is = rw (e, both_laid) (ap (λ (m : ℕ). bytes ++ replicate (length blocks - m) 0) l);
            },
            record {
              long = n_is;
              room = omega (arith, leb-true (length list) (length counts) f.1);
              buffer_is = rw (e, both_laid) (ap (λ (m : ℕ). list ++ replicate (length counts - m) 0) n_is);
            },
          )
      go false e =
          absurd (let a : refused (record { number = 14; place = 0 }) ≡ accepted size = rw (e, both_laid) at h in let z : ◌≡◌ {A = ℕ} 0 1 = cc in omega arith)

  both-unchanged : (r : Refusal) → (both_laid blocks counts bytes list).answer ≡ refused r
      → ((both_laid blocks counts bytes list).blocks ≡ blocks) × ((both_laid blocks counts bytes list).counts ≡ counts)
  unfolding both_laid set_unmade fits
  both-unchanged r h = go (leb (length bytes) (length blocks) && leb (length list) (length counts)) refl
    where
      go : (t : Bool) → (leb (length bytes) (length blocks) && leb (length list) (length counts)) ≡ t
          → ((both_laid blocks counts bytes list).blocks ≡ blocks) × ((both_laid blocks counts bytes list).counts ≡ counts)
      go true e =
          absurd (let a : accepted (length bytes) ≡ refused r = rw (e, both_laid) at h in let z : ◌≡◌ {A = ℕ} 0 1 = cc in omega arith)
      go false e = rw (e, both_laid) (refl, refl)

module _ (text : List ℕ) (k least : ℕ) (blocks counts : List ℕ) where
  pub made-laid : (size : ℕ) → (make_set text k least blocks counts).answer ≡ accepted size → Laid text k least blocks counts size
  unfolding make_set set_unmade
  made-laid size h = go (text_check text k least) refl
    where
      go : (c : Check) → text_check text k least ≡ c → Laid text k least blocks counts size
      go none e =
          let f = both-fit blocks counts (set_blocks k (text_keys k least text)) (text_counts k least text) size _ (text-counts-length k least text) (rw (e, make_set) at h) in
          record { checks = e; into = rw (e, make_set) f.0; into_counts = rw (e, make_set) f.1 }
      go (some r) e = absurd (let a : refused r ≡ accepted size = rw (e, make_set) at h in let z : ◌≡◌ {A = ℕ} 0 1 = cc in omega arith)

  -- What an accepted call writes opens with exactly the kept lines' keys in order.
  pub made-opens : (size : ℕ) → (make_set text k least blocks counts).answer ≡ accepted size
      → opened (take size (make_set text k least blocks counts).blocks) ≡ accepted (record { k = k; keys = text_keys k least text; index = []; counts = [] })
  made-opens size h =
      let l = made-laid size h in
      rw (l.into.buffer_is, take_at (set_blocks k (text_keys k least text)) (replicate (length blocks - size) 0) size l.into.long)
      (set-opens k (text_keys k least text) (text-keys text k least l.checks))

  -- The first n numbers of the list are the counts of its n keys in order; so offered with the set they are as many as it has keys (16).
  pub made-counts : (size : ℕ) → (make_set text k least blocks counts).answer ≡ accepted size
      → let n = length (text_keys k least text) in
      (take n (make_set text k least blocks counts).counts ≡ text_counts k least text)
      × (length (take n (make_set text k least blocks counts).counts) ≡ n)
      × (drop n (make_set text k least blocks counts).counts ≡ replicate (length counts - n) 0)
  made-counts size h =
      let i = (made-laid size h).into_counts in
      let n : ℕ = length (text_keys k least text) in
      let rest : List ℕ = replicate (length counts - n) 0 in
      let first : take n (make_set text k least blocks counts).counts ≡ text_counts k least text = rw (i.buffer_is, take_at (text_counts k least text) rest n i.long) in
      (first, ap length first ∙ i.long, rw (i.buffer_is, drop_at (text_counts k least text) rest n i.long))

  -- A refusal leaves both unchanged.
  pub refused-unchanged : (r : Refusal) → (make_set text k least blocks counts).answer ≡ refused r
      → ((make_set text k least blocks counts).blocks ≡ blocks) × ((make_set text k least blocks counts).counts ≡ counts)
  unfolding make_set set_unmade
  refused-unchanged r h = go (text_check text k least) refl
    where
      go : (c : Check) → text_check text k least ≡ c → ((make_set text k least blocks counts).blocks ≡ blocks) × ((make_set text k least blocks counts).counts ≡ counts)
      go none e = rw (e, make_set) (both-unchanged blocks counts (set_blocks k (text_keys k least text)) (text_counts k least text) r (rw (e, make_set) at h))
      go (some q) e = rw (e, make_set) (refl, refl)
