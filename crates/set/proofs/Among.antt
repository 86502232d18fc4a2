-- From a search's answer to the lookup's.
use Prim.Native.Nat.{ℕ, ◌+◌, ◌≤◌, ◌<◌}
use native.Mathlib.Omega.{arith}
use mathlib.Core.Path.{◌≡◌, refl, sym, ap, ◌∙◌}
use mathlib.Core.Bool.{Bool, true, false, not}
use mathlib.Core.Option.{Option as MaybeOf, none, some}
use mathlib.Core.List.{List}
use borrow.Author.Tests.{ltb-true, ltb-false}
use lib.Dec.{ltb}
use lib.ListN.{length, get_or}
use Rattle.rules.specs.Letters.{canonical}
use Rattle.rules.specs.Set.{KmerSet, header_k, header_n, key_word, set_of, set_check, lookup, is_none, solid}
use Rattle.rules_laws.proofs.Keys.{keys-at}
use Rattle.rules_laws.proofs.Lookup.{lookup-at, lookup-is, lookup-none}
use Rattle.std.specs.Prelude.{Option, Some, None}
use Rattle.few_keys.specs.Find.{Answers}
use Rattle.few_keys.proofs.Part.{key-whole}
use Rattle.set.specs.Found.{index_of, is_key, place_in}
use Rattle.set.proofs.Opened.{set-count, opened-keys-rising}

module _ (bytes : List ℕ) (opens : set_check bytes ≡ none) where
  -- The keys of the set are the words of the key blocks.
  key-is : (i : ℕ) → i < header_n bytes → get_or (set_of bytes).keys i 0 ≡ key_word bytes i
  unfolding set_of
  key-is i l = keys-at bytes 0 (header_n bytes) i l ∙ (let e : 0 + i ≡ i = omega arith in ap (key_word bytes) e)

  rising : (a b : ℕ) → a < b → b < length (set_of bytes).keys → get_or (set_of bytes).keys a 0 < get_or (set_of bytes).keys b 0
  rising a b l h =
      let g : b < header_n bytes = omega (arith, set-count bytes) in
      rw (key-is a (omega arith), key-is b g) (opened-keys-rising bytes opens a b l g)

  -- What is answered about the canonical code among all keys is what a lookup answers.
  pub answers-lookup : (y : ℕ) (r : Option ℕ) → Answers 0 bytes (canonical (header_k bytes) y) 0 (header_n bytes) r → index_of r ≡ lookup (set_of bytes) y
  unfolding set_of
  answers-lookup y (Some i) h =
      sym (lookup-is (set_of bytes) y refl rising i (omega (arith, set-count bytes, h.1)) (key-is i h.1 ∙ sym (key-whole bytes i) ∙ h.2))
  answers-lookup y None h =
      sym (lookup-none (set_of bytes) y refl
      (λ i l e. let g : i < header_n bytes = omega (arith, set-count bytes) in h i (omega arith) g (key-whole bytes i ∙ sym (key-is i g) ∙ e)))

-- A code is solid where its lookup finds a key.
pub found-solid : (r : Option ℕ) (s : KmerSet) (y : ℕ) → index_of r ≡ lookup s y → is_key r ≡ solid s y
unfolding solid is_none
found-solid (Some i) s y h = ap (λ (o : MaybeOf ℕ). not (is_none o)) h
found-solid None s y h = ap (λ (o : MaybeOf ℕ). not (is_none o)) h

-- A lookup told as a number p: the key's index, below the number of keys n, or n.
module _ (s : KmerSet) (y n p : ℕ) (n_is : n ≡ length s.keys) (told : p ≡ place_in n (lookup s y)) where
  pub place_found : p < n → lookup s y ≡ some p
  place_found l = go (lookup s y) refl
    where
      go : (o : MaybeOf ℕ) → lookup s y ≡ o → lookup s y ≡ some p
      go none e = absurd (let q : p ≡ n = told ∙ ap (place_in n) e in omega arith)
      go (some i) e = e ∙ ap {B = MaybeOf ℕ} some (sym (told ∙ ap (place_in n) e))

  pub place_none : n ≤ p → lookup s y ≡ none
  place_none f = go (lookup s y) refl
    where
      go : (o : MaybeOf ℕ) → lookup s y ≡ o → lookup s y ≡ none
      go none e = e
      go (some i) e = absurd (let q : p ≡ i = told ∙ ap (place_in n) e in omega (arith, f, (lookup-at s y i e).0))

  -- So the number is below n where the code is solid.
  pub place-solid : ltb p n ≡ solid s y
  unfolding solid is_none
  place-solid = go (ltb p n) refl
    where
      go : (t : Bool) → ltb p n ≡ t → t ≡ solid s y
      go true e = sym (ap (λ (o : MaybeOf ℕ). not (is_none o)) (place_found (ltb-true p n e)))
      go false e = sym (ap (λ (o : MaybeOf ℕ). not (is_none o)) (place_none (ltb-false p n e)))
