-- Numbers laid into a lent slice.
use Prim.Native.Nat.{ℕ, ◌≤◌, ◌<◌, min}
use native.Mathlib.Omega.{arith}
use mathlib.Core.Bool.{Bool, true, false}
use mathlib.Core.Path.{◌≡◌, refl, ◌∙◌}
use mathlib.Core.List.{List, ◌++◌}
use lib.Dec.{leb}
use borrow.Author.Tests.{leb-true, leb-false}
use lib.ListN.{length, get_or, take, drop, length-append, length-take, length-drop, drop_of_length-le, get_or-append}
use lib.Seq.{take_all, get_or-take}
use Rattle.answer_numbers.specs.Numbers.{laid}

-- The first i of the numbers before what was there.
abbrev pub begun : ℕ → List ℕ → List ℕ → List ℕ
begun i ns old = take i ns ++ drop i old

module _ (ns old : List ℕ) (i : ℕ) where
  begun-whole : i ≡ length ns → length ns ≤ length old → begun i ns old ≡ laid ns old
  unfolding laid
  begun-whole e h = rw (e, take_all (length ns) ns (omega arith), take_all (length old) ns h)

  begun-short : i ≡ length old → length old ≤ length ns → begun i ns old ≡ laid ns old
  unfolding laid
  begun-short e h = rw (e, drop_of_length-le old {i = length old} (omega arith), drop_of_length-le old h)

  pub begun_all : i ≡ min (length ns) (length old) → begun i ns old ≡ laid ns old
  begun_all e = go (leb (length ns) (length old)) refl
    where
      go : (t : Bool) → leb (length ns) (length old) ≡ t → begun i ns old ≡ laid ns old
      go true h = let l = leb-true (length ns) (length old) h in begun-whole (omega arith) l
      go false h = let l = leb-false (length ns) (length old) h in begun-short (omega arith) (omega arith)

  -- What is laid at i is number i.
  pub laid-there : i < length ns → i < length old → get_or (laid ns old) i 0 ≡ get_or ns i 0
  unfolding laid
  laid-there h l =
      let n : i < length (take (length old) ns) = simp length-take (omega arith) in
      get_or-append (take (length old) ns) (drop (length ns) old) 0 i n ∙ get_or-take (length old) ns i 0 l

pub laid-length : (ns old : List ℕ) → length (laid ns old) ≡ length old
unfolding laid
laid-length ns old = simp (length-append, length-take, length-drop) (omega arith)
