-- Bytes that a list does not hold; lines: none holds byte 10, and one without it reads again with its end.
use Prim.Native.Nat.{ℕ, zero, suc}
use borrow.Author.Tests.{eq-eqb, ne_eqb}
use mathlib.Core.Path.{◌≡◌, refl, sym, ap, ◌∙◌}
use mathlib.Core.Bool.{Bool, true, false, false≢true}
use mathlib.Core.List.{List, [], ◌∷◌, ◌++◌, append-nil, append_assoc}
use lib.ListN.{take, drop}
use lib.Dec.{eqb}
use Rattle.rules.specs.Letters.{among}
use Rattle.rules.specs.Job.{lines_from, lines}
use Rattle.rules.specs.Graph.{All, end, also}
use Rattle.rules_laws.proofs.Few.{or-false}

-- No byte b in a list.
abbrev pub No : ℕ → List ℕ → Type 0
No b l = among b l ≡ false

module _ (b : ℕ) where
  pub no-append : (l m : List ℕ) → No b l → No b m → No b (l ++ m)
  unfolding among
  no-append [] m h i = i
  no-append (x ∷ l) m h i =
      let w = or-false (eqb b x) (among b l) h in
      rw w.0 (no-append l m w.1 i)

  pub no-take : (n : ℕ) (l : List ℕ) → No b l → No b (take n l)
  unfolding among
  no-take zero l h = refl
  no-take (suc n) [] h = refl
  no-take (suc n) (x ∷ l) h =
      let w = or-false (eqb b x) (among b l) h in
      rw w.0 (no-take n l w.1)

  pub no_drop : (n : ℕ) (l : List ℕ) → No b l → No b (drop n l)
  unfolding among
  no_drop zero l h = h
  no_drop (suc n) [] h = refl
  no_drop (suc n) (x ∷ l) h = no_drop n l (or-false (eqb b x) (among b l) h).1

  -- The first byte is another.
  pub no-first : (x : ℕ) (l : List ℕ) → No b (x ∷ l) → eqb x b ≡ false
  unfolding among
  no-first x l h = ne_eqb x b (λ e. false≢true (sym (or-false (eqb b x) (among b l) h).0 ∙ eq-eqb b x (sym e)))

-- A line without byte 10 and its end.
pub line_read : (line l rest : List ℕ) → No 10 l → lines_from line (l ++ (10 ∷ rest)) ≡ (line ++ l) ∷ lines_from [] rest
unfolding lines_from
line_read line [] rest h = ap (λ (t : List ℕ). t ∷ lines_from [] rest) (sym (append-nil line))
line_read line (b ∷ l) rest h =
    rw (lines_from, no-first 10 b l h)
    (line_read (line ++ (b ∷ [])) l rest (no_drop 10 1 (b ∷ l) h) ∙ ap (λ (t : List ℕ). t ∷ lines_from [] rest) (append_assoc line (b ∷ []) l))

-- No line holds byte 10.
lines-free-from : (line bytes : List ℕ) → No 10 line → All (No 10) (lines_from line bytes)
unfolding lines_from among
lines-free-from line [] h = end
lines-free-from line (b ∷ bs) h = go (eqb b 10) refl (lines-free-from [] bs refl) (lines-free-from (line ++ (b ∷ [])) bs)
  where
    go : (t : Bool) → eqb b 10 ≡ t → All (No 10) (lines_from [] bs) → (No 10 (line ++ (b ∷ [])) → All (No 10) (lines_from (line ++ (b ∷ [])) bs))
        → All (No 10) (elim t [ true ↦ line ∷ lines_from [] bs | false ↦ lines_from (line ++ (b ∷ [])) bs ])
    go true e i j = also h i
    go false e i j =
        let ne : eqb 10 b ≡ false = ne_eqb 10 b (λ q. false≢true (sym e ∙ eq-eqb b 10 (sym q))) in
        j (no-append 10 line (b ∷ []) h (rw ne))

pub lines-free : (bytes : List ℕ) → All (No 10) (lines bytes)
unfolding lines among
lines-free bytes = lines-free-from [] bytes refl
