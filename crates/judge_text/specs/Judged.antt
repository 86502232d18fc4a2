-- What judging a text answers, in the rules' terms.
use Rattle.std.specs.Prelude.{ℕ, ◌≡◌, List, length, Result, Ok, Err}
use Rattle.std.proofs.Math.Option.{none, some}
use Rattle.rules_make.specs.MakeSet.{text_lines, text_keys, lines_check}
use Rattle.refusal.specs.declared.Refusal.{Refusal}
use Rattle.refusal.specs.Refusal.{refusal_of}

-- Checks 12 and 13: they let pass, with the number of keys; or refuse.
abbrev pub JudgedAs : List ℕ → ℕ → ℕ → Result ℕ Refusal → Type 0
JudgedAs text k least (Ok n) = (lines_check k least 0 none (text_lines text) ≡ none) × (n ≡ length (text_keys k least text))
JudgedAs text k least (Err r) = lines_check k least 0 none (text_lines text) ≡ some (refusal_of r)
