-- Laws of a table that is being filled: from where prefixes end to where they start.
use Prim.Native.Nat.{ℕ, zero, suc, ◌+◌, ◌≤◌, ◌<◌, max, zero-le}
use native.Mathlib.Omega.{arith}
use native.Mathlib.Nat.{not-suc-le-zero, eq-or-lt_of_le, le_of_lt, le_of_eq, max-le, zero-max}
use lib.Arith.{lt_of_le-ne}
use native.Mathlib.Decide.{dec_lt, ℕ_discrete}
use native.Mathlib.Numerals.{add-one, add-one-le}
use mathlib.Core.Path.{◌≡◌, refl, sym, ap, ap₂, ◌∙◌}
use mathlib.Core.Option.{none}
use mathlib.Core.Logic.{◌⊎◌, inl, inr}
use mathlib.Core.List.{List}
use borrow.Author.Count.{below_more}
use lib.ListN.{length, get_or, take, set}
use Rattle.std.proofs.lemmas.List.{get_or-take}
use lib.Seq.{get_or-set_same, get_or-set_other}
use Rattle.rules.specs.Set.{key_word, header_n, set_check}
use Rattle.set.specs.Ready.{prefix, StartsAt}
use Rattle.starts.specs.Ends.{EndsAt, Run, Marked, highest}
use Rattle.set.proofs.Opened.{opened-keys-rising}
use Rattle.set.proofs.Table.{prefix-le}

-- A rule of each entry before v, and of what is stored at v.
pub entries-more : (P : ℕ → ℕ → Type 0) (starts : List ℕ) (v x : ℕ) → v < length starts → ((u : ℕ) → u < v → P u (get_or starts u 0)) → P v x
    → (u : ℕ) → u < v + 1 → P u (get_or (set starts v x) u 0)
entries-more P starts v x h f here =
    below_more (λ (u : ℕ). P u (get_or (set starts v x) u 0)) v
    (λ u l. rw (get_or-set_other starts v u x 0 (λ e. omega arith)) (f u l))
    (rw (get_or-set_same starts v x 0 h) here)

-- ---- keys of one prefix

-- Between two keys of one prefix all have it.
pub run_more : (bytes : List ℕ) (shift v i m step : ℕ) → set_check bytes ≡ none → step ≡ m + 1 → i + step ≤ header_n bytes → v ≡ prefix shift (key_word bytes i)
    → prefix shift (key_word bytes (i + m)) ≡ v → Run bytes shift v i (i + step)
run_more bytes shift v i m step opens count room first last j l h =
    omega (arith, first, last, prefix-le shift _ _ (rising i j l (omega arith)), prefix-le shift _ _ (rising j (i + m) (omega arith) (omega arith)))
  where
    rising : (a b : ℕ) → a ≤ b → b < header_n bytes → key_word bytes a ≤ key_word bytes b
    rising a b g n = go (eq-or-lt_of_le g)
      where
        go : (a ≡ b) ⊎ (a < b) → key_word bytes a ≤ key_word bytes b
        go (inl e) = le_of_eq (ap (key_word bytes) e)
        go (inr k) = le_of_lt (opened-keys-rising bytes opens a b k n)

-- Where prefix v starts and where it ends say where the next one starts.
module _ (bytes : List ℕ) (shift v : ℕ) (opens : set_check bytes ≡ none) where
  up_to : (end : ℕ) → EndsAt bytes shift (header_n bytes) v end → (j : ℕ) → j < end → prefix shift (key_word bytes j) ≤ v
  up_to zero ends j l = absurd (not-suc-le-zero l)
  up_to (suc i) ends j l = rw (← (ends.last i refl)) (prefix-le shift _ _ (rise (eq-or-lt_of_le {n = j} {m = i} (omega arith))))
    where
      rise : (j ≡ i) ⊎ (j < i) → key_word bytes j ≤ key_word bytes i
      rise (inl e) = le_of_eq (ap (key_word bytes) e)
      rise (inr g) = le_of_lt (opened-keys-rising bytes opens j i g ends.within)

  starts-next : (start end : ℕ) → StartsAt bytes shift v start → EndsAt bytes shift (header_n bytes) v end → StartsAt bytes shift (v + 1) (max start end)
  starts-next start end starts ends = record {
    within = max-le starts.within ends.within;
    before = λ j l. passed j l (dec_lt j start);
    after = λ j l n. add-one-le (lt_of_le-ne (starts.after j (omega arith) n) (λ e. ends.rest j (omega arith) n (sym e)));
  }
    where
      passed : (j : ℕ) → j < max start end → Dec (j < start) → prefix shift (key_word bytes j) < v + 1
      passed j l (yes g) = omega (arith, starts.before j g)
      passed j l (no f) = omega (arith, up_to end ends j (omega arith))

-- The highest end up to a prefix is where it starts.
pub starts-highest : (bytes : List ℕ) (shift prefixes : ℕ) (ends : List ℕ) → set_check bytes ≡ none → Marked bytes shift (header_n bytes) prefixes ends
    → (v : ℕ) → v < prefixes + 1 → StartsAt bytes shift v (highest ends v)
unfolding highest
starts-highest bytes shift prefixes ends opens marked zero l =
    rw marked.0 (record { within = zero-le; before = λ j h. absurd (not-suc-le-zero h); after = λ j h n. zero-le })
starts-highest bytes shift prefixes ends opens marked (suc v) l =
    rw (← (add-one v)) (starts-next bytes shift v opens (highest ends v) (get_or ends (v + 1) 0)
    (starts-highest bytes shift prefixes ends opens marked v (omega arith)) (marked.1 v (omega arith)))

-- It is that of the table's first entries.
pub highest-take : (n : ℕ) (starts : List ℕ) (v : ℕ) → v < n → highest (take n starts) v ≡ highest starts v
unfolding highest
highest-take n starts zero l = get_or-take n starts 0 0 l
highest-take n starts (suc v) l = ap₂ max (highest-take n starts v (omega arith)) (get_or-take n starts (suc v) 0 l)

-- The first entry is carried, and one more.
pub highest-first : (starts : List ℕ) → max 0 (get_or starts 0 0) ≡ highest starts 0
unfolding highest
highest-first starts = zero-max _

pub highest-next : (starts : List ℕ) (v : ℕ) → max (highest starts v) (get_or starts (v + 1) 0) ≡ highest starts (v + 1)
unfolding highest
highest-next starts v = rw (add-one v)
