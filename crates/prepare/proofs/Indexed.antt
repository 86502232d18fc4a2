-- The entries of an index as a table of starts.
use Prim.Native.Nat.{ℕ, ◌+◌, ◌*◌, ◌-◌, ◌/◌, ◌^◌, ◌≤◌, ◌<◌}
use native.Mathlib.Omega.{arith}
use mathlib.Core.Path.{◌≡◌, sym, ap}
use mathlib.Core.Option.{none}
use mathlib.Core.Logic.{◌⊎◌, inl, inr}
use mathlib.Core.List.{List, []}
use lib.ListN.{length, get_or}
use Rattle.rules.specs.Set.{first_letters, first_code, entry_in, header_k, key_word, set_check, set_of}
use Rattle.rules.specs.Blocks.{blocks_for}
use Rattle.rules.specs.Index.{index_entry, index_entries, index_list, index_blocks, index_check}
use Rattle.rules_laws.proofs.Kmer.{two-four}
use Rattle.rules_laws.proofs.Blocks.{blocks-length}
use Rattle.rules_laws.proofs.Index as Rules
use Rattle.index.proofs.Laws.{set-keys, n-keys, entry-le, key-is}
use Rattle.set.specs.Ready.{prefix, prefixes, StartsAt, Table}
use Rattle.set.proofs.Opened.{opened-n-le}

-- An offered index that passes 15.
pub offered-is : (bytes index : List ℕ) → index_check (set_of bytes) index ≡ none → (length index ≡ 0 → ⊥) → index ≡ index_blocks (set_of bytes)
offered-is bytes index passes offered = go ((Rules.index_passes (set_of bytes) index).0 passes)
  where
    go : (index ≡ []) ⊎ (index ≡ index_blocks (set_of bytes)) → index ≡ index_blocks (set_of bytes)
    go (inl e) = absurd (offered (ap length e))
    go (inr e) = e

module _ (bytes : List ℕ) (opens : set_check bytes ≡ none) where
  -- First letters as a prefix.
  letters-prefix : (y : ℕ) → first_code (set_of bytes).k y ≡ prefix (2 * (header_k bytes - first_letters (header_k bytes))) y
  unfolding set_of first_code
  letters-prefix y = ap (λ (d : ℕ). y / d) (sym (two-four (header_k bytes - first_letters (header_k bytes))))

  entry-is : (v : ℕ) → v < index_entries (header_k bytes) → entry_in (index_blocks (set_of bytes)) v ≡ index_entry (set_of bytes) v
  unfolding set_of
  entry-is v h = Rules.entry_read (set_of bytes) (set-keys bytes opens) v h

  pub entry-small : (v : ℕ) → v < index_entries (header_k bytes) → entry_in (index_blocks (set_of bytes)) v < 2 ^ 32
  entry-small v h = omega (arith, entry-is v h, entry-le bytes opens v, opened-n-le bytes opens)

  pub index-length : length (index_blocks (set_of bytes)) ≡ 512 * blocks_for (index_entries (header_k bytes))
  unfolding index_blocks set_of
  index-length = blocks-length (index_list (set_of bytes)) 0 (blocks_for (index_entries (header_k bytes)))

  -- Entry v is where the keys with first letters v start.
  pub entry-starts : (v : ℕ) → v < index_entries (header_k bytes)
      → StartsAt bytes (2 * (header_k bytes - first_letters (header_k bytes))) v (entry_in (index_blocks (set_of bytes)) v)
  entry-starts v h =
      let s = Rules.entry-starts (set_of bytes) (set-keys bytes opens) v in
      rw (entry-is v h)
      (record {
        within = entry-le bytes opens v;
        before = λ i l. rw (← (letters-prefix (key_word bytes i)), ← (key-is bytes opens i (omega (arith, entry-le bytes opens v)))) (s.before i l);
        after = λ i l g. rw (← (letters-prefix (key_word bytes i)), ← (key-is bytes opens i g)) (s.after i l (omega (arith, n-keys bytes opens)));
      })

  -- The entries in a table.
  pub index-table : (starts : List ℕ) (shift : ℕ) → shift ≡ 2 * (header_k bytes - first_letters (header_k bytes)) → index_entries (header_k bytes) ≤ length starts
      → ((v : ℕ) → v < index_entries (header_k bytes) → get_or starts v 0 ≡ entry_in (index_blocks (set_of bytes)) v) → Table bytes starts shift 0
  unfolding index_entries
  index-table starts shift e room same =
      let bits : 2 * header_k bytes - shift ≡ 2 * first_letters (header_k bytes) = omega arith in
      let all : prefixes (header_k bytes) shift + 1 ≡ index_entries (header_k bytes) = rw (bits, two-four (first_letters (header_k bytes))) in
      record {
        opens = opens;
        shift_le = omega arith;
        starts_length = omega arith;
        starts_right = λ v h. let l : v < index_entries (header_k bytes) = omega arith in rw (e, same v l) (entry-starts v l);
      }
