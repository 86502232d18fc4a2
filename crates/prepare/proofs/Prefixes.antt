-- Laws of prefixes of so many bits.
use Prim.Native.Nat.{ℕ, ◌*◌, ◌-◌, ◌%◌, ◌^◌, ◌≤◌, ◌<◌}
use native.Mathlib.Omega.{arith}
use native.Mathlib.Nat.{pow-le-pow_right}
use mathlib.Core.Path.{◌≡◌}
use mathlib.Core.List.{List}
use mathlib.Core.Option.{none}
use lib.Dec.{lit<}
use Rattle.rules.specs.Set.{header_k, header_n, set_check}
use Rattle.kmer.specs.declared.shifts.Header.{Header}
use Rattle.set.specs.Ready.{table_length, prefixes, Below}
use Rattle.set.proofs.Opened.{opened-key-lt}
use Rattle.set.proofs.Table.{prefix-lt}

-- Prefixes of 16 bits at most: as many as the code counts, and the table has room.
pub prefixes-are : (k bits : ℕ) (head : Header) → head.k ≡ k → head.shift ≡ 2 * k - bits → bits ≤ 16 → bits ≤ 2 * k
    → (1 * 2 ^ bits % 2 ^ 64 ≡ prefixes head.k head.shift) × (prefixes head.k head.shift < table_length)
prefixes-are k bits head k_is Shift-is h g =
    let e : 2 * k - (2 * k - bits) ≡ bits = omega arith in
    let l : 2 ^ bits ≤ 65536 = pow-le-pow_right (lit< tt) h in
    rw (k_is, Shift-is, e) (omega arith)

-- Every key's prefix is one of the prefixes.
pub below_all : (bytes : List ℕ) (head : Header) → set_check bytes ≡ none → head.k ≡ header_k bytes → head.shift ≤ 2 * head.k
    → Below bytes head.shift (prefixes head.k head.shift) (header_n bytes)
below_all bytes head opens k_is h i l = prefix-lt _ _ _ h (rw k_is (opened-key-lt bytes opens i l))
