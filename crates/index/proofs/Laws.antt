-- Laws of the index: its sizes, and the entries of a set that opens.
use Prim.Native.Nat.{ℕ, ◌+◌, ◌*◌, ◌-◌, ◌/◌, ◌%◌, ◌^◌, ◌≤◌, ◌<◌}
use native.Mathlib.Omega.{arith}
use native.Mathlib.Nat.{pow-le-pow_right}
use mathlib.Core.Path.{◌≡◌, ap, ◌∙◌}
use mathlib.Core.Option.{none}
use mathlib.Core.List.{List}
use lib.Dec.{ltb, lit≤}
use lib.ListN.{length, get_or}
use Rattle.rules.specs.Set.{first_letters, first_code, header_k, header_n, key_word, set_check, set_of}
use Rattle.rules.specs.Blocks.{Keys}
use Rattle.rules.specs.Index.{index_entry, index_entries}
use Rattle.rules_laws.proofs.Kmer.{two-four}
use Rattle.rules_laws.proofs.Keys.{keys_length, keys-at, checked-keys}
use Rattle.rules_laws.proofs.Index as Rules

-- ---- sizes

few-letters : (k : ℕ) → 4 ^ first_letters k ≤ 4096
few-letters k = pow-le-pow_right {n = 4} (lit≤ tt) {i = first_letters k} {j = 6} (omega arith)

pub count-few : (k : ℕ) → index_entries k ≤ 4097
unfolding index_entries
count-few k = omega (arith, few-letters k)

-- 4^m as the code shifts it.
pub shifted : (k m : ℕ) → m ≡ first_letters k → 1 * 2 ^ (2 * m) % 2 ^ 64 + 1 ≡ index_entries k
unfolding index_entries
shifted k m e =
    let p : 2 ^ (2 * m) ≡ 4 ^ first_letters k = two-four m ∙ ap (λ (j : ℕ). 4 ^ j) e in
    rw p (omega (arith, few-letters k))

-- ---- entries of a set that opens

module _ (bytes : List ℕ) (o : set_check bytes ≡ none) where
  pub set-keys : Keys (set_of bytes).k (set_of bytes).keys
  unfolding set_of
  set-keys = checked-keys bytes o

  pub n-keys : length (set_of bytes).keys ≡ header_n bytes
  unfolding set_of
  n-keys = keys_length bytes 0 (header_n bytes)

  pub entry-le : (v : ℕ) → index_entry (set_of bytes) v ≤ header_n bytes
  entry-le v = omega (arith, Rules.entry-le (set_of bytes) set-keys v, n-keys)

  pub key-is : (i : ℕ) → i < header_n bytes → get_or (set_of bytes).keys i 0 ≡ key_word bytes i
  unfolding set_of
  key-is i l = keys-at bytes 0 (header_n bytes) i l ∙ (let e : 0 + i ≡ i = omega arith in ap (key_word bytes) e)

  -- First letters as the code compares them.
  pub below-entry : (k v i : ℕ) → k ≡ header_k bytes → i < header_n bytes
      → ltb (key_word bytes i / 2 ^ (2 * (k - first_letters k))) v ≡ ltb i (index_entry (set_of bytes) v)
  unfolding set_of first_code
  below-entry k v i e l =
      rw (two-four (k - first_letters k), e, ← (key-is i l)) (Rules.key_below (set_of bytes) set-keys v i (omega (arith, n-keys)))
