-- Laws of an offered index as the code checks it.
use Prim.Native.Nat.{ℕ, ◌*◌, ◌≤◌, ◌<◌}
use native.Mathlib.Omega.{arith}
use borrow.Author.Tests.{eq-eqb, eqb-true}
use mathlib.Core.Path.{◌≡◌, refl, sym, ap, ◌∙◌}
use mathlib.Core.Bool.{Bool, true, false, false≢true}
use mathlib.Core.Logic.{◌↔◌}
use mathlib.Core.Option.{none}
use mathlib.Core.List.{List, [], ◌∷◌}
use lib.ListN.{length, get_or}
use Rattle.rules.specs.Refusal.{unless, first_failing}
use Rattle.rules.specs.Set.{KmerSet, header_k, is_none, check_right, set_check, set_of}
use Rattle.rules.specs.Blocks.{blocks_for}
use Rattle.rules.specs.Index.{index_entry, index_entries, index_list, index_blocks, same_bytes, index_check}
use Rattle.rules_laws.proofs.Keys.{none-fails, none-failing, is-none}
use Rattle.rules_laws.proofs.Blocks.{Bytes}
use Rattle.rules_laws.proofs.Index as Rules
use Rattle.opening.proofs.Opening.{set-k}
use Rattle.index.proofs.Laws.{set-keys}
use Rattle.check_index.specs.Words.{word_right}

-- ---- the list

module _ (bytes : List ℕ) (k : ℕ) (e : k ≡ header_k bytes) where
  pub list_at : (v : ℕ) → v < index_entries k → get_or (index_list (set_of bytes)) v 0 ≡ index_entry (set_of bytes) v
  list_at v l = Rules.list_at (set_of bytes) v (rw (← (set-k bytes e)) l)

  pub list-behind : (v : ℕ) → index_entries k ≤ v → get_or (index_list (set_of bytes)) v 0 ≡ 0
  list-behind v l = Rules.list-behind (set_of bytes) v (rw (← (set-k bytes e)) l)

-- ---- an offered index

-- Tests that all hold, as the code finds them.
all_hold : (ok : ℕ → Bool) (m : ℕ) → (is_none (first_failing ok 0 m) ≡ true) ↔ ((j : ℕ) → j < m → ok j ≡ true)
unfolding is_none
all_hold ok m = (λ e j l. none-fails ok 0 m (is-none _ e) j (omega arith) (omega arith), λ f. ap is_none (none-failing ok 0 m (λ j l g. f j (omega arith))))

module _ (bytes : List ℕ) (k : ℕ) (o : set_check bytes ≡ none) (e : k ≡ header_k bytes) (index : List ℕ) (small : Bytes index) where
  by-words : (index ≡ index_blocks (set_of bytes)) ↔ Rules.ByWords (set_of bytes) index
  by-words = Rules.by-words (set_of bytes) (set-keys bytes o) index small

  count : blocks_for (index_entries (set_of bytes).k) ≡ blocks_for (index_entries k)
  count = ap (λ (j : ℕ). blocks_for (index_entries j)) (sym (set-k bytes e))

  pub wrong-length : (length index ≡ 512 * blocks_for (index_entries k) → ⊥) → false ≡ same_bytes index (index_blocks (set_of bytes))
  wrong-length f =
      Rules.same_bytes_lem false index (index_blocks (set_of bytes))
      (λ z. absurd (false≢true z), λ q. absurd (f ((by-words.0 q).long ∙ ap (λ (m : ℕ). 512 * m) count)))

  pub wrong-check : is_none (first_failing (check_right index) 0 (blocks_for (index_entries k))) ≡ false → false ≡ same_bytes index (index_blocks (set_of bytes))
  wrong-check f =
      Rules.same_bytes_lem false index (index_blocks (set_of bytes))
      (λ z. absurd (false≢true z), λ q. absurd (false≢true (sym f ∙ (all_hold (check_right index) (blocks_for (index_entries k))).1 (rw count at (by-words.0 q).checks))))

  pub words-decide : length index ≡ 512 * blocks_for (index_entries k) → is_none (first_failing (check_right index) 0 (blocks_for (index_entries k))) ≡ true
      → is_none (first_failing (word_right (set_of bytes) index) 0 (63 * blocks_for (index_entries k))) ≡ same_bytes index (index_blocks (set_of bytes))
  words-decide size checks = Rules.same_bytes_lem _ index (index_blocks (set_of bytes)) (there, back)
    where
      words : (is_none (first_failing (word_right (set_of bytes) index) 0 (63 * blocks_for (index_entries k))) ≡ true)
          ↔ ((v : ℕ) → v < 63 * blocks_for (index_entries k) → word_right (set_of bytes) index v ≡ true)
      words = all_hold (word_right (set_of bytes) index) (63 * blocks_for (index_entries k))

      there : is_none (first_failing (word_right (set_of bytes) index) 0 (63 * blocks_for (index_entries k))) ≡ true → index ≡ index_blocks (set_of bytes)
      there f =
          by-words.1 (record {
            long = rw count size;
            words = λ v l. eqb-true _ _ (words.0 f v (rw count at l));
            checks = λ b l. (all_hold (check_right index) (blocks_for (index_entries k))).0 checks b (rw count at l);
          })

      back : index ≡ index_blocks (set_of bytes) → is_none (first_failing (word_right (set_of bytes) index) 0 (63 * blocks_for (index_entries k))) ≡ true
      back q = words.1 (λ v l. eq-eqb _ _ ((by-words.0 q).words v (rw count l)))

-- An empty index counts as not offered; any other is compared.
pub not_offered : (set : KmerSet) (index : List ℕ) → length index ≡ 0 → unless true 15 ≡ index_check set index
unfolding index_check unless
not_offered set [] e = refl
not_offered set (b ∷ bs) e = absurd (omega arith)

pub offered : (set : KmerSet) (index : List ℕ) (r : Bool) → (length index ≡ 0 → ⊥) → r ≡ same_bytes index (index_blocks set) → unless r 15 ≡ index_check set index
unfolding index_check
offered set [] r f e = absurd (f refl)
offered set (b ∷ bs) r f e = ap (λ (t : Bool). unless t 15) e
