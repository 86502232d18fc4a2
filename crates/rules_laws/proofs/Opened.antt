-- What is known of a set that opens.
use Prim.Native.Nat.{ℕ, zero, suc, ◌*◌, ◌-◌, ◌%◌, ◌≤◌}
use native.Mathlib.Omega.{arith}
use borrow.Author.Tests.{eqb-true}
use mathlib.Core.Path.{◌≡◌, refl, ap, ◌∙◌}
use mathlib.Core.Bool.{Bool, true, false, ◌&&◌, false≢true}
use mathlib.Core.Option.{Option, none, some}
use mathlib.Core.List.{List}
use lib.Dec.{eqb}
use Rattle.rules.specs.Refusal.{accepted, refused, Check, ◌or_else◌, unless, at_place, first_failing}
use Rattle.rules.specs.Set.{KmerSet, blocks, header_k, length_right, check_right, header_right, key_right, set_check, set_of, opened}
use Rattle.rules.specs.Index.{index_check}
use Rattle.rules.specs.Calls.{counts_check, offer_check}

-- both tests hold
pub both : (a b : Bool) → (a && b) ≡ true → (a ≡ true) × (b ≡ true)
both true b e = (refl, e)
both false b e = absurd (false≢true e)

-- no check refused: neither the first nor the later ones
pub passed : (a b : Check) → a or_else b ≡ none → (a ≡ none) × (b ≡ none)
unfolding ◌or_else◌
passed none b h = (refl, h)
passed (some r) b h = absurd (let z : ◌≡◌ {A = ℕ} 0 1 = cc in omega arith)

pub unless-passed : (t : Bool) (r : ℕ) → unless t r ≡ none → t ≡ true
unfolding unless
unless-passed true r h = refl
unless-passed false r h = absurd (let z : ◌≡◌ {A = ℕ} 0 1 = cc in omega arith)

pub at_none : (r : ℕ) (p : Option ℕ) → at_place r p ≡ none → p ≡ none
unfolding at_place
at_none r none h = refl
at_none r (some p) h = absurd (let z : ◌≡◌ {A = ℕ} 0 1 = cc in omega arith)

-- What is offered passes 15 and 16, so its index passes 15.
pub passed-15 : (set : KmerSet) (index counts : List ℕ) → offer_check set index counts ≡ none → index_check set index ≡ none
unfolding offer_check
passed-15 set index counts h = (passed (index_check set index) (counts_check set counts) h).0

-- Checks 7 to 10, all passed.
pub record Checked (bytes : List ℕ) : Type 0 where
  pub right_length : length_right bytes ≡ true
  pub checks_right : first_failing (check_right bytes) 0 (blocks bytes) ≡ none
  pub right_header : header_right bytes ≡ true
  pub keys_right : first_failing (key_right bytes) 0 (63 * (blocks bytes - 1)) ≡ none

pub checked : (bytes : List ℕ) → set_check bytes ≡ none → Checked bytes
unfolding set_check
checked bytes h =
    let seven : Check = unless (length_right bytes) 7 in
    let eight : Check = at_place 8 (first_failing (check_right bytes) 0 (blocks bytes)) in
    let nine : Check = unless (header_right bytes) 9 in
    let ten : Check = at_place 10 (first_failing (key_right bytes) 0 (63 * (blocks bytes - 1))) in
    let a = passed seven (eight or_else (nine or_else ten)) h in
    let b = passed eight (nine or_else ten) a.1 in
    let c = passed nine ten b.1 in
    record {
      right_length = unless-passed (length_right bytes) 7 a.0;
      checks_right = at_none 8 (first_failing (check_right bytes) 0 (blocks bytes)) b.0;
      right_header = unless-passed (header_right bytes) 9 c.0;
      keys_right = at_none 10 (first_failing (key_right bytes) 0 (63 * (blocks bytes - 1))) c.1;
    }

pub header-odd : (bytes : List ℕ) → header_right bytes ≡ true → header_k bytes % 2 ≡ 1
unfolding header_right
header-odd bytes h = go (eqb (header_k bytes % 2) 1) refl
  where
    go : (b : Bool) → eqb (header_k bytes % 2) 1 ≡ b → header_k bytes % 2 ≡ 1
    go true e = eqb-true (header_k bytes % 2) 1 e
    go false e = absurd (false≢true (rw (e, header_right) at h))

module _ (bytes : List ℕ) (set : KmerSet) (o : opened bytes ≡ accepted set) where
  pub opened-check : set_check bytes ≡ none
  unfolding opened
  opened-check = go (set_check bytes) refl
    where
      go : (r : Check) → set_check bytes ≡ r → r ≡ none
      go none e = refl
      go (some r) e = absurd (let f : refused r ≡ accepted set = rw (e, opened) at o in let z : ◌≡◌ {A = ℕ} 0 1 = cc in omega arith)

  pub opened-set : set ≡ set_of bytes
  unfolding opened
  opened-set = let f : accepted (set_of bytes) ≡ accepted set = rw (opened-check, opened) at o in cc

  -- k is odd
  pub opened-odd : set.k % 2 ≡ 1
  unfolding set_of
  opened-odd = ap (λ (s : KmerSet). s.k % 2) opened-set ∙ header-odd bytes (checked bytes opened-check).right_header

  -- so it is at least 1
  pub opened-pos : 1 ≤ set.k
  opened-pos = go set.k opened-odd
    where
      go : (k : ℕ) → k % 2 ≡ 1 → 1 ≤ k
      go zero e = absurd (omega arith)
      go (suc j) e = omega arith
