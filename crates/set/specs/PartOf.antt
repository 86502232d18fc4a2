-- Some of a set's keys.
use Rattle.std.specs.Prelude.{ℕ, ◌≤◌, ◌<◌, ◌≡◌, List}
use Rattle.rules.specs.Set.{key_word}
use Rattle.few_keys.specs.Part.{key_of}
use Rattle.few_keys.specs.declared.key_part.KeyPart.{KeyPart}

-- The part holds the set's keys from `first` on and before `last`.
pub record PartOf (bytes : List ℕ) (first last : ℕ) (part : KeyPart) : Type 0 where
  pub first_is : part.first ≡ first
  pub last_is : part.last ≡ last
  pub same : (i : ℕ) → part.first ≤ i → i < part.last → key_of part i ≡ key_word bytes i
