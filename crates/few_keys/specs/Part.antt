-- A search among the keys of a part.
use Rattle.std.specs.Prelude.{ℕ, Option}
use Rattle.few_keys.specs.Find.{key_in, Bracket, Answers}
use Rattle.few_keys.specs.declared.key_part.KeyPart.{KeyPart}

-- Key i of the set.
abbrev pub key_of : KeyPart → ℕ → ℕ
key_of part i = key_in part.skip part.bytes.now i

-- Among the part's keys x can stand only from lo on and before hi.
abbrev pub BracketIn : KeyPart → ℕ → ℕ → ℕ → Type 0
BracketIn part x lo hi = Bracket part.skip part.bytes.now part.first part.last x lo hi

-- What is answered about x among the keys from lo on and before hi.
abbrev pub AnswersIn : KeyPart → ℕ → ℕ → ℕ → Option ℕ → Type 0
AnswersIn part x lo hi r = Answers part.skip part.bytes.now x lo hi r
