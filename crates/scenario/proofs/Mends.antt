-- What a scenario gives, by its row.
use Prim.Native.Nat.{ℕ, zero, suc, ◌+◌, ◌/◌, ◌%◌, ◌≤◌, ◌<◌}
use native.Mathlib.Omega.{arith}
use native.Mathlib.Nat.{eq-or-lt_of_le}
use mathlib.Core.Path.{◌≡◌, refl, sym, ap, ◌∙◌}
use mathlib.Core.Logic.{◌⊎◌, inl, inr}
use mathlib.Core.Bool.{Bool}
use mathlib.Core.List.{List, [], ◌∷◌, ◌++◌}
use lib.Dec.{lit<}
use denote.Enum.Declared.{tag_of}
use Rattle.rules.specs.Letters.{Kmer, letter, last_letter, drop_last, last}
use Rattle.rules.specs.Exist.{Scenario, two}
use Rattle.scenario.specs.contracts.two.ScenarioTwo.{the_type}
use Rattle.scenario.specs.declared.two.ScenarioTwo.{ScenarioTwo}
use Rattle.scenario.specs.declared.two.ScenarioTwo.TheVariants.{II, IS, SS, SD, DD, ICI, ICS, ICD, SCI, SCS, SCD, DCI, DCD}
use Rattle.scenario.specs.declared.row.Row.{Row}
use Rattle.scenario.specs.declared.mend.Mend.{Mend}
use Rattle.scenario.specs.Scenario.{nth, two_of, RowIs, letters_of, of_code, Gives}

-- the last letters of a k-mer depend on its code alone
last_code : (n : ℕ) (y z : Kmer) → y.code ≡ z.code → last n y ≡ last n z
unfolding last last_letter drop_last
last_code zero y z e = refl
last_code (suc n) y z e =
    ap (λ (ls : List ℕ). ls ++ (last_letter y ∷ [])) (last_code n (drop_last y) (drop_last z) (ap (λ (c : ℕ). c / 4) e))
    ∙ ap (λ (c : ℕ). last n (drop_last z) ++ (letter (c % 4) ∷ [])) e

-- a k-mer without unknown letters
of-code : (t : Kmer) → t.unknown ≡ 0 → of_code t.code ≡ t
of-code t e = λ i. record { code = t.code; unknown = sym e i }

module _ {sc : Scenario} {row : Row} (x t : Kmer) (known : t.unknown ≡ 0) (q : RowIs sc x row) (m : Mend) (letters : m.letters ≡ row.letters)
    (resume : m.resume ≡ row.resume) (tried : m.tried ≡ t.code) where
  gives : (y : Kmer) → m.code ≡ y.code → last row.letters y ≡ sc.letters t → Gives sc t m.place m
  gives y c e =
      let l = last_code m.letters (of_code m.code) y c ∙ ap (λ (n : ℕ). last n y) letters ∙ e in
      let on = ap of_code tried ∙ of-code t known in
      record { is = λ i. record { letters = l i; resume = (resume ∙ q.resume) i; on = on i ∷ [] }; place_is = refl }

  -- a single letter is x's
  pub gives-one : row.letters ≡ 1 → m.code ≡ x.code → Gives sc t m.place m
  gives-one e c = gives x c (rw e (rw e at q.letters t))

  -- none, or more than one, are the tried k-mer's
  pub gives-many : (row.letters ≡ 1 → ⊥) → m.code ≡ t.code → Gives sc t m.place m
  unfolding last
  gives-many e c = gives t c (many row.letters e ∙ q.letters t)
    where
      many : (n : ℕ) → (n ≡ 1 → ⊥) → last n t ≡ letters_of n x t
      many zero g = refl
      many (suc zero) g = absurd (g refl)
      many (suc (suc n)) g = refl

-- ---- how many letters, by the scenario's number

-- the number of a scenario of Two, which the source's order gives it
abbrev pub number : ScenarioTwo → ℕ
number = tag_of the_type

pub number-lt : (sc : ScenarioTwo) → number sc < 13
number-lt II = lit< tt
number-lt IS = lit< tt
number-lt SS = lit< tt
number-lt SD = lit< tt
number-lt DD = lit< tt
number-lt ICI = lit< tt
number-lt ICS = lit< tt
number-lt ICD = lit< tt
number-lt SCI = lit< tt
number-lt SCS = lit< tt
number-lt SCD = lit< tt
number-lt DCI = lit< tt
number-lt DCD = lit< tt

numbered : (sc : ScenarioTwo) (k : ℕ) (sol : ℕ → Bool) (x : Kmer) (s : List ℕ) → two_of sc k sol x s ≡ nth (two k sol x s) (number sc)
numbered II k sol x s = refl
numbered IS k sol x s = refl
numbered SS k sol x s = refl
numbered SD k sol x s = refl
numbered DD k sol x s = refl
numbered ICI k sol x s = refl
numbered ICS k sol x s = refl
numbered ICD k sol x s = refl
numbered SCI k sol x s = refl
numbered SCS k sol x s = refl
numbered SCD k sol x s = refl
numbered DCI k sol x s = refl
numbered DCD k sol x s = refl

-- what holds at each of the n numbers from lo on
abbrev pub Each : (ℕ → Type 0) → ℕ → ℕ → Type 0
Each P lo zero = Unit {0}
Each P lo (suc n) = P lo × Each P (suc lo) n

range : (P : ℕ → Type 0) (lo n : ℕ) → Each P lo n → (i : ℕ) → lo ≤ i → i < lo + n → P i
range P lo zero e i l h = absurd (omega arith)
range P lo (suc n) e i l h = go (range P (suc lo) n e.1 i) (eq-or-lt_of_le l)
  where
    go : (lo < i → i < suc lo + n → P i) → (lo ≡ i) ⊎ (lo < i) → P i
    go rest (inl q) = rw (← q) e.0
    go rest (inr q) = rest q (omega arith)

-- the m scenarios of Two from lo on give n letters
pub letters-in : (n lo m : ℕ)
    → ((k : ℕ) (sol : ℕ → Bool) (x : Kmer) (s : List ℕ) (t : Kmer) → Each (λ i. letters_of n x t ≡ (nth (two k sol x s) i).letters t) lo m)
    → (sc : ScenarioTwo) → lo ≤ number sc → number sc < lo + m
    → (k : ℕ) (sol : ℕ → Bool) (x : Kmer) (s : List ℕ) (t : Kmer) → letters_of n x t ≡ (two_of sc k sol x s).letters t
letters-in n lo m each sc l h k sol x s t =
    rw (numbered sc k sol x s) (range (λ i. letters_of n x t ≡ (nth (two k sol x s) i).letters t) lo m (each k sol x s t) (number sc) l h)
