-- Laws of the call: its checks in their order.
use Prim.Native.Nat.{ℕ, ◌+◌, ◌*◌, ◌-◌, ◌%◌, ◌≤◌, ◌<◌}
use native.Mathlib.Omega.{arith}
use borrow.Author.Tests.{eq-eqb, ne_eqb, le-leb, lt-leb}
use mathlib.Core.Path.{◌≡◌, sym, ◌∙◌}
use mathlib.Core.Bool.{Bool, true, false, ◌&&◌, and-false}
use mathlib.Core.Option.{none, some}
use mathlib.Core.List.{List, ◌++◌}
use lib.Dec.{eqb, leb}
use lib.ListN.{length, replicate}
use Rattle.rules.specs.Refusal.{Refusal, accepted, refused, unless}
use Rattle.rules.specs.Set.{max_keys, k_right}
use Rattle.rules.specs.Blocks.{blocks_for, set_words, set_blocks, fits, filled}
use Rattle.rules_make.specs.MakeSet.{text_lines, text_keys, text_counts, lines_check, text_check, set_unmade, both_laid, make_set}
use Rattle.rules_laws.proofs.Blocks.{blocks-length}
use Rattle.rules_make.proofs.MakeSet.{text-counts-length}

module _ (text : List ℕ) (k least : ℕ) where
  pub at-k : k_right k ≡ false → text_check text k least ≡ some (record { number = 9; place = 0 })
  unfolding text_check unless
  at-k e = rw e

  pub at-line : (r : Refusal) → k_right k ≡ true → lines_check k least 0 none (text_lines text) ≡ some r → text_check text k least ≡ some r
  unfolding text_check unless
  at-line r e l = rw (e, l)

  pub at-keys : k_right k ≡ true → lines_check k least 0 none (text_lines text) ≡ none → max_keys < length (text_keys k least text)
      → text_check text k least ≡ some (record { number = 9; place = 0 })
  unfolding text_check unless
  at-keys e l h = rw (e, l, lt-leb (length (text_keys k least text)) max_keys h)

  pub at_none : k_right k ≡ true → lines_check k least 0 none (text_lines text) ≡ none → length (text_keys k least text) ≤ max_keys → text_check text k least ≡ none
  unfolding text_check unless
  at_none e l h = rw (e, l, le-leb (length (text_keys k least text)) max_keys h)

  module _ (blocks counts : List ℕ) where
    pub made-refused : (r : Refusal) → text_check text k least ≡ some r → record { answer = refused r; blocks = blocks; counts = counts } ≡ make_set text k least blocks counts
    unfolding make_set set_unmade
    made-refused r e = rw (e, make_set)

    module _ (n : ℕ) (e : text_check text k least ≡ none) (n_is : n ≡ length (text_keys k least text)) where
      size : length (set_blocks k (text_keys k least text)) ≡ 512 * (1 + blocks_for n)
      unfolding set_blocks
      size = rw n_is (blocks-length (set_words k (text_keys k least text)) 0 (1 + blocks_for (length (text_keys k least text))))

      list-size : length (text_counts k least text) ≡ n
      list-size = text-counts-length k least text ∙ sym n_is

      short : Bool → Type 0
      short t = (leb (length (set_blocks k (text_keys k least text))) (length blocks) && leb (length (text_counts k least text)) (length counts)) ≡ t

      made-14 : short false → record { answer = refused (record { number = 14; place = 0 }); blocks = blocks; counts = counts } ≡ make_set text k least blocks counts
      unfolding make_set both_laid set_unmade fits short
      made-14 s = rw (e, make_set, s, both_laid)

      pub blocks-short : length blocks < 512 * (1 + blocks_for n)
          → record { answer = refused (record { number = 14; place = 0 }); blocks = blocks; counts = counts } ≡ make_set text k least blocks counts
      unfolding short
      blocks-short h = made-14 (rw (lt-leb (length (set_blocks k (text_keys k least text))) (length blocks) (omega (arith, size))))

      pub counts-short : 512 * (1 + blocks_for n) ≤ length blocks → length counts < n
          → record { answer = refused (record { number = 14; place = 0 }); blocks = blocks; counts = counts } ≡ make_set text k least blocks counts
      unfolding short
      counts-short h l =
          made-14
          (rw (
            le-leb (length (set_blocks k (text_keys k least text))) (length blocks) (omega (arith, size)),
            lt-leb (length (text_counts k least text)) (length counts) (omega (arith, list-size)),
          ))

      -- Written by a header whose k is this one.
      pub made-both : (own : ℕ) → own ≡ k → (told : ℕ) → told ≡ 512 * (1 + blocks_for n) → (after list-after : List ℕ) → 512 * (1 + blocks_for n) ≤ length blocks → n ≤ length counts
          → after ≡ set_blocks own (text_keys own least text) ++ replicate (length blocks - 512 * (1 + blocks_for n)) 0
          → list-after ≡ text_counts own least text ++ replicate (length counts - n) 0
          → record { answer = accepted told; blocks = after; counts = list-after } ≡ make_set text k least blocks counts
      unfolding make_set both_laid fits filled
      made-both own own_is told told_is after list-after h l a c =
          let s = le-leb (length (set_blocks k (text_keys k least text))) (length blocks) (omega (arith, size)) in
          let t = le-leb (length (text_counts k least text)) (length counts) (omega (arith, list-size)) in
          rw (told_is, a, c, own_is, ← size, ← list-size, e, make_set, s, t, both_laid)

-- ---- k

pub k-right : (k : ℕ) → k % 2 ≡ 1 → k ≤ 31 → k_right k ≡ true
k-right k o h = rw (eq-eqb (k % 2) 1 o, le-leb k 31 h)

pub k-even : (k : ℕ) → k % 2 ≡ 0 → k_right k ≡ false
k-even k e = rw (ne_eqb (k % 2) 1 (λ o. omega arith))

pub k-large : (k : ℕ) → 31 < k → k_right k ≡ false
k-large k h = rw (lt-leb k 31 h) (and-false (eqb (k % 2) 1))
