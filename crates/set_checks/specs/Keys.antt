-- What a key must be.
use Rattle.std.specs.Prelude.{ℕ, zero, suc, List}
use Rattle.rules.specs.Set.{key_word}

-- The least that key i may be: one more than the key before it.
unfoldable pub least_key : List ℕ → ℕ → ℕ
unfolding key_word
least_key bytes zero = 0
least_key bytes (suc i) = suc (key_word bytes i)
