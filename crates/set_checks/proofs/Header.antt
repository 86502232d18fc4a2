-- Laws of the header.
use Prim.Native.Nat.{ℕ, zero, suc, ◌+◌, ◌/◌, ◌%◌, ◌≤◌}
use native.Mathlib.Numerals.{add-one}
use mathlib.Core.Path.{◌≡◌, refl}
use mathlib.Core.Bool.{Bool, true, false, ◌&&◌}
use mathlib.Core.List.{List}
use mathlib.Core.Option.{some}
use lib.Dec.{eqb, leb}
use lib.ListN.{length}
use borrow.Author.Tests.{eqb-true, leb-true}
use Rattle.std.specs.List.{list_all, range_with_len}
use Rattle.rules.specs.Refusal.{first_failing}
use Rattle.rules.specs.Set.{block_word, header_k, header_n, header_right, is_none}
use Rattle.rules_laws.proofs.Opened.{both}

-- what a right header says of k, n and the count of blocks
pub record Sized (bytes : List ℕ) (k n : ℕ) : Type 0 where
  pub odd : k % 2 ≡ 1
  pub k_high : k ≤ 31
  pub n_high : n ≤ 16777216
  pub count : length bytes / 512 ≡ 1 + (n + 62) / 63

pub sized : (bytes : List ℕ) (k n : ℕ) → k ≡ header_k bytes → n ≡ header_n bytes → header_right bytes ≡ true → Sized bytes k n
unfolding header_right
sized bytes k n k_is n_is h =
    let odd : Bool = eqb (k % 2) 1 in
    let zero_rest : Bool = is_none (first_failing (λ i. eqb (block_word bytes 0 i) 0) 2 61) in
    let all : (odd && leb k 31 && leb n 16777216 && zero_rest && eqb (length bytes / 512) (1 + (n + 62) / 63)) ≡ true = rw (k_is, n_is) h in
    let c = both (odd && leb k 31 && leb n 16777216 && zero_rest) _ all in
    let r = both (odd && leb k 31 && leb n 16777216) zero_rest c.0 in
    let s = both (odd && leb k 31) (leb n 16777216) r.0 in
    let o = both odd (leb k 31) s.0 in
    record {
      odd = eqb-true _ _ o.0;
      k_high = leb-true _ _ o.1;
      n_high = leb-true _ _ s.1;
      count = eqb-true _ _ c.1;
    }
