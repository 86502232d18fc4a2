-- Laws of the first walk: checks 12 and 13, and the keys, a line at a time.
use Prim.Native.Nat.{ℕ, suc, ◌+◌, ◌^◌, ◌≤◌, ◌<◌}
use native.Mathlib.Omega.{arith}
use native.Mathlib.Numerals.{add-one}
use borrow.Author.Tests.{le-leb, lt-leb}
use mathlib.Core.Path.{◌≡◌, refl, ap, ◌∙◌}
use mathlib.Core.Bool.{true, false}
use mathlib.Core.Option.{Option, none, some}
use mathlib.Core.List.{List, [], ◌∷◌}
use lib.ListN.{length, drop}
use Rattle.rules_make.specs.MakeSet.{text_lines, text_keys, form_right, line_key, kept, kept_lines, line_keys, unless_at, line_check, last_kept, lines_check}
use Rattle.rules_make.proofs.MakeSet.{least_after, rises-least, line-key-lt}
use Rattle.kmer.proofs.Laws.{bound}
use Rattle.kmer_text.proofs.Keys.{keys_of, key-kept, key-passed}
use Rattle.kmer_text.proofs.Lines.{no-line}

-- ---- checks 12 and 13, a line at a time

module _ (k least place : ℕ) (before : Option ℕ) (line : List ℕ) (rest : List (List ℕ)) where
  breaks : form_right k line ≡ false → lines_check k least place before (line ∷ rest) ≡ some (record { number = 12; place = place })
  unfolding lines_check line_check unless_at
  breaks e = rw (e, line_check)

  module _ (e : form_right k line ≡ true) where
    passes : kept k least line ≡ false → lines_check k least place before (line ∷ rest) ≡ lines_check k least (place + 1) before rest
    unfolding lines_check line_check unless_at last_kept
    passes t = rw (e, t, line_check, last_kept, add-one)

    module _ (t : kept k least line ≡ true) where
      falls : line_key k line < least_after before → lines_check k least place before (line ∷ rest) ≡ some (record { number = 13; place = place })
      unfolding lines_check line_check unless_at
      falls l = rw (e, t, rises-least before (line_key k line) ∙ lt-leb _ _ l, line_check)

      rises : least_after before ≤ line_key k line
          → lines_check k least place before (line ∷ rest) ≡ lines_check k least (place + 1) (some (line_key k line)) rest
      unfolding lines_check line_check unless_at last_kept
      rises l = rw (e, t, rises-least before (line_key k line) ∙ le-leb _ _ l, line_check, last_kept, add-one place, unless_at)

-- ---- judging, a line at a time

-- Of the text's lines, i are judged, and those that are left say what the whole text is judged.
pub record Judging (text : List ℕ) (k least i count floor : ℕ) : Type 0 where
  pub count_fits : count ≤ i
  pub before : Option ℕ
  pub floor_is : floor ≡ least_after before
  pub check_is : lines_check k least 0 none (text_lines text) ≡ lines_check k least i before (drop i (text_lines text))
  pub count_is : length (text_keys k least text) ≡ count + length (keys_of k least (drop i (text_lines text)))

pub judging-starts : (text : List ℕ) (k least : ℕ) → Judging text k least 0 0 0
unfolding text_keys least_after
judging-starts text k least = record { count_fits = omega arith; before = none; floor_is = refl; check_is = refl; count_is = omega arith }

pub judging-ends : {text : List ℕ} {k least i count floor : ℕ} → Judging text k least i count floor → i ≡ length (text_lines text)
    → (lines_check k least 0 none (text_lines text) ≡ none) × (count ≡ length (text_keys k least text))
unfolding lines_check kept_lines line_keys
judging-ends {text} {k} {least} {i} {count} {floor} j h = (
  j.check_is ∙ ap (lines_check k least i j.before) gone,
  (let e : length (keys_of k least (drop i (text_lines text))) ≡ 0 = ap (λ (ls : List (List ℕ)). length (keys_of k least ls)) gone in omega (arith, j.count_is)),
)
  where
    gone : drop i (text_lines text) ≡ []
    gone = no-line (text_lines text) i h

-- Line i.
module _ {text : List ℕ} {k least i count floor : ℕ} {line : List ℕ} (j : Judging text k least i count floor)
    (t : drop i (text_lines text) ≡ line ∷ drop (i + 1) (text_lines text)) where
  abbrev rest : List (List ℕ)
  rest = drop (i + 1) (text_lines text)

  pub judged-breaks : form_right k line ≡ false → lines_check k least 0 none (text_lines text) ≡ some (record { number = 12; place = i })
  judged-breaks e = j.check_is ∙ rw t (breaks k least i j.before line rest e)

  module _ (right : form_right k line ≡ true) where
    pub judged-passed : kept k least line ≡ false → Judging text k least (i + 1) count floor
    judged-passed is-passed = record {
      count_fits = omega (arith, j.count_fits);
      before = j.before;
      floor_is = j.floor_is;
      check_is = j.check_is ∙ rw t (passes k least i j.before line rest right is-passed);
      count_is =
          j.count_is
          ∙ ap (λ (ls : List (List ℕ)). count + length (keys_of k least ls)) t
          ∙ ap (λ (ks : List ℕ). count + length ks) (key-passed k least line rest is-passed);
    }

    module _ (is-kept : kept k least line ≡ true) {key : ℕ} (key-is : key ≡ line_key k line) where
      pub judged-falls : key < floor → lines_check k least 0 none (text_lines text) ≡ some (record { number = 13; place = i })
      judged-falls f = j.check_is ∙ rw t (falls k least i j.before line rest right is-kept (omega (arith, key-is, j.floor_is)))

      pub judged-kept : floor ≤ key → Judging text k least (i + 1) (count + 1) (key + 1)
      unfolding least_after
      judged-kept f =
          let more : length (keys_of k least (drop i (text_lines text))) ≡ suc (length (keys_of k least rest)) =
          ap (λ (ls : List (List ℕ)). length (keys_of k least ls)) t ∙ ap length (key-kept k least line rest is-kept) in
          record {
            count_fits = omega (arith, j.count_fits);
            before = some (line_key k line);
            floor_is = add-one key ∙ ap suc key-is;
            check_is = j.check_is ∙ rw t (rises k least i j.before line rest right is-kept (omega (arith, key-is, j.floor_is)));
            count_is = omega (arith, j.count_is);
          }

-- A key has room for one more.
pub key_fits : (k key : ℕ) (line : List ℕ) → k ≤ 31 → key ≡ line_key k line → key + 1 < 2 ^ 64
key_fits k key line h e = omega (arith, e, line-key-lt k line, bound k h)
