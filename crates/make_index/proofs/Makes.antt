-- Laws of the maker: the entries written so far, the whole buffer, and the call.
use Prim.Native.Nat.{ℕ, zero, suc, ◌+◌, ◌*◌, ◌-◌, ◌/◌, ◌≤◌, ◌<◌}
use native.Mathlib.Omega.{arith}
use native.Mathlib.Numerals.{add-one}
use mathlib.Core.Path.{◌≡◌, refl, sym, ap, ap₂, ◌∙◌}
use mathlib.Core.Option.{none}
use mathlib.Core.List.{List, [], ◌∷◌, ◌++◌}
use lib.ListN.{length, replicate, length-replicate}
use Rattle.rules.specs.Refusal.{Refusal, accepted, refused}
use Rattle.rules.specs.Set.{KmerSet, header_k, set_check, set_of, opened}
use Rattle.rules.specs.Blocks.{blocks_for, blocks_from, unmade}
use Rattle.rules.specs.Index.{index_entry, entries_from, index_entries, index_list, index_blocks, make_index}
use Rattle.rules_laws.proofs.Blocks.{Bytes, blocks-length}
use Rattle.rules_laws.proofs.Index.{entries-length, entries-rise, list_length, list-words}
use Rattle.opening.proofs.Opening.{set-k}
use Rattle.lay.specs.Lay.{Put, Sealed, Holds, Extended}
use Rattle.lay.proofs.Laws.{extended_none, extended-more, holds-none, sealed-is, laid-short, laid-fits}
use Rattle.index.specs.Index.{Opens}
use Rattle.index.proofs.Laws.{set-keys}

-- ---- the entries

-- One entry more.
entries-more : (set : KmerSet) (v n : ℕ) → entries_from set v (suc n) ≡ entries_from set v n ++ (index_entry set (v + n) ∷ [])
unfolding entries_from
entries-more set v zero = (let e : v ≡ v + 0 = omega arith in ap (λ (i : ℕ). index_entry set i ∷ []) e)
entries-more set v (suc n) =
    let e : suc v + n ≡ v + suc n = omega arith in
    ap (λ (l : List ℕ). index_entry set v ∷ l) (entries-more set (suc v) n ∙ ap (λ (i : ℕ). entries_from set (suc v) n ++ (index_entry set i ∷ [])) e)

-- The first v entries are written, and the next one is no less than `entry`.
pub record Writing (set : KmerSet) (before blocks : List ℕ) (entry v : ℕ) : Type 0 where
  pub least : entry ≤ index_entry set v
  pub written : Extended before 0 (entries_from set 0 v) blocks

pub writing-starts : (set : KmerSet) (before : List ℕ) → Writing set before before 0 0
unfolding entries_from
writing-starts set before = record { least = omega arith; written = extended_none before 0 }

pub writing_more : (bytes : List ℕ) → set_check bytes ≡ none → (before blocks : List ℕ) (entry v next : ℕ) (after : List ℕ)
    → Writing (set_of bytes) before blocks entry v → next ≡ index_entry (set_of bytes) v → Put blocks (v + v / 63) next after → Writing (set_of bytes) before after next (v + 1)
writing_more bytes o before blocks entry v next after w e p =
    let set : KmerSet = set_of bytes in
    let at : 0 + v ≡ v = omega arith in
    record {
      least = omega (arith, entries-rise set (set-keys bytes o) v (v + 1) (omega arith));
      written =
          rw (add-one v, entries-more set 0 v, at, ← e)
          (extended-more before 0 (entries_from set 0 v) blocks v next after w.written (omega (arith, entries-length set 0 v)) p);
    }

pub writing-ends : (bytes : List ℕ) (k : ℕ) → k ≡ header_k bytes → (before blocks : List ℕ) (entry v : ℕ) → v ≡ index_entries k
    → Writing (set_of bytes) before blocks entry v → Extended before 0 (index_list (set_of bytes)) blocks
unfolding index_list
writing-ends bytes k e before blocks entry v v-is w =
    let all : v ≡ index_entries (set_of bytes).k = v-is ∙ ap index_entries (set-k bytes e) in
    rw (← all) w.written

-- ---- the whole buffer

module _ (bytes : List ℕ) (k n : ℕ) (o : Opens bytes k n) (count : ℕ) (count_is : count ≡ blocks_for (index_entries k)) where
  index_is : blocks_from (index_list (set_of bytes)) 0 count ≡ index_blocks (set_of bytes)
  unfolding index_blocks
  index_is = ap (λ (m : ℕ). blocks_from (index_list (set_of bytes)) 0 m) (count_is ∙ ap (λ (j : ℕ). blocks_for (index_entries j)) (set-k bytes o.k_is))

  few : length (index_list (set_of bytes)) ≤ 63 * count
  few =
      let e : length (index_list (set_of bytes)) ≡ index_entries k = list_length (set_of bytes) ∙ ap index_entries (sym (set-k bytes o.k_is)) in
      omega arith

  -- A cleared buffer, the entries, and the check words: the index and zeros.
  pub all-written : (b₀ b₁ b₂ b₃ : List ℕ) → 512 * count ≤ length b₀ → b₁ ≡ replicate (length b₀) 0
      → Extended b₁ 0 (index_list (set_of bytes)) b₂ → Sealed b₂ count b₃ → Bytes b₃ → b₃ ≡ index_blocks (set_of bytes) ++ replicate (length b₀ - 512 * count) 0
  all-written b₀ b₁ b₂ b₃ room e x y small =
      let words : List ℕ = index_list (set_of bytes) in
      let size : length b₂ ≡ length b₀ = x.same_length ∙ ap length e ∙ length-replicate {A = ℕ} (length b₀) 0 in
      let held : Holds b₂ words = x.holds [] refl (rw e (holds-none (length b₀))) in
      sealed-is b₂ words count b₃ held y (list-words (set_of bytes) (set-keys bytes o.right)) few (omega arith) small
      ∙ ap₂ (λ (a : List ℕ) (m : ℕ). a ++ replicate (m - 512 * count) 0) index_is size

-- ---- the call

module _ (bytes buffer : List ℕ) where
  -- A refusal of the set changes no byte.
  pub index-refused : (r : Refusal) → opened bytes ≡ refused r → record { answer = refused r; buffer = buffer } ≡ make_index bytes buffer
  unfolding make_index unmade
  index-refused r h = rw (h, make_index)

  module _ (k n : ℕ) (h : opened bytes ≡ accepted (set_of bytes)) (o : Opens bytes k n) (count : ℕ) (count_is : count ≡ blocks_for (index_entries k)) where
    size : length (index_blocks (set_of bytes)) ≡ 512 * count
    size = ap length (sym (index_is bytes k n o count count_is)) ∙ blocks-length (index_list (set_of bytes)) 0 count

    pub index_short : length buffer < 512 * count → record { answer = refused (record { number = 14; place = 0 }); buffer = buffer } ≡ make_index bytes buffer
    unfolding make_index
    index_short l = rw (h, make_index) (laid-short buffer (index_blocks (set_of bytes)) _ size l)

    pub index-fits : (after : List ℕ) → 512 * count ≤ length buffer → after ≡ index_blocks (set_of bytes) ++ replicate (length buffer - 512 * count) 0
        → record { answer = accepted (512 * count); buffer = after } ≡ make_index bytes buffer
    unfolding make_index
    index-fits after l a = rw (h, make_index) (laid-fits buffer (index_blocks (set_of bytes)) _ size after l a)
