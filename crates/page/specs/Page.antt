-- What stands on the page.
use Rattle.std.specs.Prelude.{ℕ, ◌-◌, ◌≤◌, ◌≡◌, List, ◌++◌, length}
use Rattle.rules_program.specs.Program.{zeros}

abbrev pub page_length : ℕ
page_length = 32896

-- The page is a text of n bytes and zeros behind it.
pub record Page (text : List ℕ) (n : ℕ) (all : List ℕ) : Type 0 where
  pub bytes : n ≡ length text
  pub fits : n ≤ page_length
  pub page : all ≡ text ++ zeros (page_length - n)

-- Bytes are put behind the text that a page holds.
abbrev pub Puts : List ℕ → ℕ → List ℕ → ℕ → List ℕ → Type 0
Puts page n bytes n' page' = (text : List ℕ) → Page text n page → Page (text ++ bytes) n' page'
