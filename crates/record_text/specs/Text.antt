-- Bytes put into a buffer.
use Rattle.std.specs.Prelude.{ℕ, ◌+◌, ◌≡◌, List, ◌++◌, length, take}

-- The bytes stand behind the first `at` of the buffer and end at r.
pub record PutIs (o o' : List ℕ) (at : ℕ) (bytes : List ℕ) (r : ℕ) : Type 0 where
  pub out : take r o' ≡ take at o ++ bytes
  pub end : r ≡ at + length bytes
