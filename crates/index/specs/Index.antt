-- What the functions over a set and an index ask.
use Rattle.std.specs.Prelude.{ℕ, ◌≡◌, List}
use Rattle.std.proofs.Math.Option.{none}
use Rattle.rules.specs.Set.{header_k, header_n, set_check}

-- The set's bytes open, with this k and this n.
pub record Opens (bytes : List ℕ) (k n : ℕ) : Type 0 where
  pub right : set_check bytes ≡ none
  pub k_is : k ≡ header_k bytes
  pub n_is : n ≡ header_n bytes
