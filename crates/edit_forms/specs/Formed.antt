-- What the first judgement answers, in document 02's terms.
use Rattle.std.specs.Prelude.{ℕ, ◌≡◌, ◌+◌, ◌*◌, List, get_or, Result, Ok, Err}
use Rattle.std.proofs.Math.Option.{none, some}
use Rattle.rules.specs.Refusal.{first_failing}
use Rattle.rules_edits.specs.Edits.{Sheet, count, letters_to, formed}
use Rattle.edit_forms.specs.declared.Edit.{Edit}
use Rattle.edit_forms.specs.declared.Formed.{Formed}

-- The numbers of edit i.
pub record EditIs (numbers : List ℕ) (i : ℕ) (e : Edit) : Type 0 where
  pub position : e.position ≡ get_or numbers (3 * i) 0
  pub taken : e.taken ≡ get_or numbers (3 * i + 1) 0
  pub gives : e.gives ≡ get_or numbers (3 * i + 2) 0

-- So many edits, all formed, which give so many letters; or the first that isn't.
abbrev pub FormedIs : ℕ → Sheet → Result Formed ℕ → Type 0
FormedIs k s (Ok f) = (count s ≡ f.edits) × (first_failing (formed k s) 0 f.edits ≡ none) × (f.letters ≡ letters_to s f.edits)
FormedIs k s (Err i) = first_failing (formed k s) 0 (count s) ≡ some i
