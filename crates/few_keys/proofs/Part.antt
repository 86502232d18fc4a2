-- Laws of a part of a set's bytes: its keys are the set's.
use Prim.Native.Nat.{ℕ, zero, suc, ◌+◌, ◌*◌, ◌-◌, ◌≤◌, ◌<◌}
use native.Mathlib.Omega.{arith}
use mathlib.Core.Path.{◌≡◌, refl, sym, ap, ap₂, ◌∙◌}
use mathlib.Core.List.{List}
use lib.ListN.{length, take, drop}
use lib.Seq.{get_or-take, get_or-drop, drop-drop}
use Rattle.rules.specs.Set.{max_keys, little, key_word}
use Rattle.blocks.proofs.Words.{key-place}
use Rattle.few_keys.specs.Find.{place, key_in, Sorted}

-- A number is read alike where what stands behind it is cut off.
little-take : (m n at : ℕ) (s : List ℕ) → at + m ≤ n → little m (drop at (take n s)) ≡ little m (drop at s)
unfolding little
little-take zero n at s h = refl
little-take (suc m) n at s h =
    ap₂ (λ (a b : ℕ). a + 256 * b)
    (get_or-drop at (take n s) 0 0 ∙ get_or-take n s (at + 0) 0 (omega arith) ∙ sym (get_or-drop at s 0 0))
    (ap (little m) (drop-drop 1 at (take n s)) ∙ little-take m n (at + 1) s (omega arith) ∙ ap (little m) (sym (drop-drop 1 at s)))

-- The part that is the whole set.
pub key-whole : (set : List ℕ) (i : ℕ) → key_in 0 set i ≡ key_word set i
unfolding key_in
key-whole set i =
    let e : place i - 0 ≡ place i = omega arith in
    ap (λ (at : ℕ). little 8 (drop at set)) e ∙ key-place set i

-- The part from byte `skip` on and before byte `stop`, as in `&set[skip..stop]`.
pub key-part : (set : List ℕ) (skip stop i : ℕ) → skip ≤ place i → place i + 8 ≤ stop
    → key_in skip (take (stop - skip) (drop skip set)) i ≡ key_word set i
unfolding key_in
key-part set skip stop i l h =
    let e : skip + (place i - skip) ≡ place i = omega arith in
    little-take 8 (stop - skip) (place i - skip) (drop skip set) (omega arith)
    ∙ ap (little 8) (drop-drop (place i - skip) skip set)
    ∙ ap (λ (at : ℕ). little 8 (drop at set)) e
    ∙ key-place set i

module _ {skip : ℕ} {part : List ℕ} {first last : ℕ} (sorted : Sorted skip part first last) where
  -- Each of its keys lies in a part.
  pub key-room : (i : ℕ) → first ≤ i → i < last → (i < max_keys) × (skip ≤ place i) × (place i + 8 ≤ skip + length part)
  key-room i l h = omega (arith, sorted.few, sorted.room (omega arith))
