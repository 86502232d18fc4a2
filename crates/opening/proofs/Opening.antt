-- Laws of opening: the checks in their order.
use Prim.Native.Nat.{ℕ, ◌*◌, ◌-◌, ◌%◌, ◌<◌}
use native.Mathlib.Nat.{sub-zero}
use mathlib.Core.Path.{◌≡◌, ◌∙◌}
use mathlib.Core.Bool.{true, false, and-false}
use mathlib.Core.Option.{none, some}
use mathlib.Core.List.{List}
use lib.Dec.{ltb}
use lib.ListN.{length}
use borrow.Author.Tests.{lt-ltb, eq-eqb, ne_eqb}
use Rattle.rules.specs.Refusal as Rules
use Rattle.rules.specs.Refusal.{accepted, refused, at_place, first_failing}
use Rattle.rules.specs.Set.{header_k, header_right, length_right, check_right, blocks, set_check, set_of, opened}
use Rattle.refusal.specs.declared.Refusal.TheVariants.{Length, Header}
use Rattle.refusal.specs.Refusal.{refusal_of}
use Rattle.set_checks.specs.Checks.{wrong_check, wrong_key}

module _ (bytes : List ℕ) where
  pub accepted-by : set_check bytes ≡ none → opened bytes ≡ accepted (set_of bytes)
  unfolding opened
  accepted-by e = rw (e, opened)

  pub refused-by : (r : Rules.Refusal) → set_check bytes ≡ some r → opened bytes ≡ refused r
  unfolding opened
  refused-by r e = rw (e, opened)

  pub length-right : 0 < length bytes → length bytes % 512 ≡ 0 → length_right bytes ≡ true
  unfolding length_right
  length-right l e = rw (lt-ltb 0 (length bytes) l, eq-eqb (length bytes % 512) 0 e)

  pub length-zero : length bytes ≡ 0 → length_right bytes ≡ false
  unfolding length_right
  length-zero e = rw e

  pub length-odd : (length bytes % 512 ≡ 0 → ⊥) → length_right bytes ≡ false
  unfolding length_right
  length-odd f = rw (ne_eqb (length bytes % 512) 0 f) (and-false (ltb 0 (length bytes)))

  -- check 8 as the rules write it
  check-8 : at_place 8 (first_failing (check_right bytes) 0 (blocks bytes)) ≡ wrong_check bytes
  check-8 = rw (sub-zero (blocks bytes))

  pub at_7 : length_right bytes ≡ false → set_check bytes ≡ some (refusal_of Length)
  unfolding set_check
  at_7 e = rw e

  pub at_8 : length_right bytes ≡ true → (r : Rules.Refusal) → wrong_check bytes ≡ some r → set_check bytes ≡ some r
  unfolding set_check
  at_8 e r e' = rw (e, check-8 ∙ e')

  pub at_9 : length_right bytes ≡ true → wrong_check bytes ≡ none → header_right bytes ≡ false → set_check bytes ≡ some (refusal_of Header)
  unfolding set_check
  at_9 e e' e'' = rw (e, check-8 ∙ e', e'')

  pub at-10 : length_right bytes ≡ true → wrong_check bytes ≡ none → header_right bytes ≡ true → set_check bytes ≡ wrong_key bytes 0
  unfolding set_check
  at-10 e e' e'' = rw (e, check-8 ∙ e', e'', sub-zero (63 * (blocks bytes - 1)))

pub set-k : (bytes : List ℕ) {k : ℕ} → k ≡ header_k bytes → k ≡ (set_of bytes).k
unfolding set_of
set-k bytes e = e
