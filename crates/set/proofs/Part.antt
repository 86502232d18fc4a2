-- Some of a set's keys, and the part of its bytes that holds them.
use Prim.Native.Nat.{ℕ, ◌-◌, ◌≤◌, ◌<◌}
use native.Mathlib.Omega.{arith}
use mathlib.Core.Path.{◌≡◌, sym, ◌∙◌}
use mathlib.Core.Option.{none}
use mathlib.Core.List.{List}
use lib.ListN.{length, take, drop, length-drop}
use lib.Seq.{length-take-le}
use Rattle.rules.specs.Set.{header_n, key_word, set_check}
use Rattle.std.specs.Prelude.{Option, Some, None}
use Rattle.few_keys.specs.Find.{place, key_in, Sorted, Bracket, Answers}
use Rattle.few_keys.proofs.Part.{key-whole, key-part}
use Rattle.few_keys.specs.Part.{key_of, BracketIn, AnswersIn}
use Rattle.few_keys.specs.declared.key_part.KeyPart.{KeyPart}
use Rattle.set.specs.PartOf.{PartOf}
use Rattle.set.proofs.Opened.{opened-keys-rising}
use Rattle.set.proofs.Table.{opened-sorted}

module _ (bytes : List ℕ) (opens : set_check bytes ≡ none) (first last : ℕ) (some : first < last) (within : last ≤ header_n bytes) where
  abbrev skip : ℕ
  skip = place first

  abbrev stop : ℕ
  stop = place last

  abbrev part : List ℕ
  part = take (stop - skip) (drop skip bytes)

  pub part_room : (skip ≤ stop) × (stop ≤ length bytes)
  part_room = omega (arith, (opened-sorted bytes opens).room (omega arith))

  part_length : length part ≡ stop - skip
  part_length = length-take-le (stop - skip) (drop skip bytes) (omega (arith, part_room, length-drop skip bytes))

  pub key-same : (i : ℕ) → first ≤ i → i < last → key_in skip part i ≡ key_word bytes i
  key-same i l h = key-part bytes skip stop i (omega arith) (omega arith)

  pub part-sorted : Sorted skip part first last
  part-sorted = record {
    few = omega (arith, (opened-sorted bytes opens).few);
    room = λ g. omega (arith, part_length);
    rising = λ i j f l h. rw (key-same i f (omega arith), key-same j (omega arith) h) (opened-keys-rising bytes opens i j l (omega arith));
  }

module _ {bytes : List ℕ} {first last : ℕ} {part : KeyPart} (is : PartOf bytes first last part) where
  -- Searched alone, they answer as in the whole set.
  key-whole-same : (i : ℕ) → part.first ≤ i → i < part.last → key_of part i ≡ key_in 0 bytes i
  key-whole-same i l h = is.same i l h ∙ sym (key-whole bytes i)

  pub part-bracket : {x lo hi : ℕ} → last ≤ header_n bytes → Bracket 0 bytes 0 (header_n bytes) x lo hi → first ≤ lo → hi ≤ last → BracketIn part x lo hi
  part-bracket some b l h = record {
    within = omega (arith, is.first_is, is.last_is);
    below = λ j f n g. rw (key-whole-same j f n) (b.below j (omega arith) (omega (arith, is.last_is)) g);
    above = λ j f n g. rw (key-whole-same j f n) (b.above j (omega arith) (omega (arith, is.last_is)) g);
  }

  pub part-answers : (x : ℕ) (r : Option ℕ) → AnswersIn part x part.first part.last r → Answers 0 bytes x first last r
  part-answers x (Some i) h = (omega (arith, h.0, is.first_is), omega (arith, h.1, is.last_is), sym (key-whole-same i h.0 h.1) ∙ h.2)
  part-answers x None h = λ i l g e. h i (omega (arith, is.first_is)) (omega (arith, is.last_is)) (key-whole-same i (omega (arith, is.first_is)) (omega (arith, is.last_is)) ∙ e)
