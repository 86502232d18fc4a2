-- A read's lines, one after the other.
use Prim.Native.Nat.{ℕ, ◌+◌, min, ◌≤◌, ◌<◌}
use native.Mathlib.Omega.{arith}
use native.Mathlib.Decide.{dec_le}
use mathlib.Core.Path.{◌≡◌, sym, ap, ap₂, ◌∙◌}
use mathlib.Core.List.{List, [], ◌∷◌, ◌++◌, append-nil, append_assoc}
use lib.ListN.{length, take, drop, length-append, drop_of_length-le}
use lib.Seq.{take_all, take-append_seam, drop-append_seam}
use Rattle.std.proofs.lemmas.List.{nil_from_length}
use Rattle.rules_fasta.specs.Fasta.{read_lines, ended}
use Rattle.rules_fasta.proofs.Text.{read-lines-step, read-lines-end}
use Rattle.record_text.specs.Text.{PutIs}

abbrev pub lines_text : List ℕ → List ℕ
lines_text read = ended (read_lines read)

-- Lines of the read stand up to `to`, those of its rest are left; o is the output before, o' now.
pub record Under (read o : List ℕ) (at : ℕ) (o' rest : List ℕ) (to : ℕ) : Type 0 where
  pub many : to + length (lines_text rest) ≡ at + length (lines_text read)
  pub is : take to o' ++ lines_text rest ≡ take at o ++ lines_text read

module _ (read o : List ℕ) (at : ℕ) where
  module _ (o' rest : List ℕ) (to : ℕ) (u : Under read o at o' rest to) where
    pub under-over : length rest ≡ 0 → PutIs o o' at (lines_text read) to
    unfolding ended
    under-over h =
        let none : lines_text rest ≡ [] = ap ended (read-lines-end rest h) in
        record {
          out = sym (append-nil (take to o')) ∙ ap (λ (l : List ℕ). take to o' ++ l) (sym none) ∙ u.is;
          end = omega (arith, u.many, ap length none);
        }

    module _ (line left : List ℕ) (parts : rest ≡ line ++ left) (wide : length line ≡ min 80 (length rest)) (some : 0 < length rest) where
      -- The first line that is left, with its end, and the others.
      next-line : lines_text rest ≡ (line ++ (10 ∷ [])) ++ lines_text left
      unfolding ended
      next-line =
          let n : length rest ≡ length line + length left = ap length parts ∙ length-append line left in
          let both : (take 80 rest ≡ line) × (drop 80 rest ≡ left) =
          elim (dec_le (length rest) 80) [
            | yes le ↦
                let none : left ≡ [] = nil_from_length left (omega arith) in
                (take_all 80 rest le ∙ parts ∙ ap (λ (l : List ℕ). line ++ l) none ∙ append-nil line, drop_of_length-le rest le ∙ sym none)
            | no gt ↦
                let e : 80 ≡ length line = omega arith in
                (rw (e, parts) (take-append_seam line left), rw (e, parts) (drop-append_seam line left))
          ] in
          ap ended (read-lines-step rest some)
          ∙ ap₂ (λ (l r : List ℕ). l ++ (10 ∷ lines_text r)) both.0 both.1
          ∙ sym (append_assoc line (10 ∷ []) (lines_text left))

      -- It fits where all lines do.
      pub under-room : at + length (lines_text read) ≤ length o → length o' ≡ length o → to + length line < length o'
      under-room room same =
          omega (arith, u.many, ap length next-line, length-append (line ++ (10 ∷ [])) (lines_text left), length-append line (10 ∷ []))

      pub under-step : (o'' : List ℕ) → take (to + length line + 1) o'' ≡ take to o' ++ (line ++ (10 ∷ [])) → Under read o at o'' left (to + (length line + 1))
      under-step o'' e =
          record {
            many = omega (arith, u.many, ap length next-line, length-append (line ++ (10 ∷ [])) (lines_text left), length-append line (10 ∷ []));
            is = ap (λ (m : ℕ). take m o'' ++ lines_text left) (omega arith)
                ∙ ap (λ (l : List ℕ). l ++ lines_text left) e
                ∙ append_assoc (take to o') (line ++ (10 ∷ [])) (lines_text left)
                ∙ ap (λ (l : List ℕ). take to o' ++ l) (sym next-line)
                ∙ u.is;
          }

-- ---- a record's text

module _ (name read : List ℕ) where
  text-parts : ended (name ∷ read_lines read) ≡ (name ++ (10 ∷ [])) ++ lines_text read
  unfolding ended
  text-parts = sym (append_assoc name (10 ∷ []) (lines_text read))

  pub text-size : length (ended (name ∷ read_lines read)) ≡ length name + 1 + length (lines_text read)
  text-size =
      ap length text-parts ∙ length-append (name ++ (10 ∷ [])) (lines_text read) ∙ omega (arith, length-append name (10 ∷ []))

  -- The name line, and the read's lines behind it.
  pub text-put : (o o₁ o₂ : List ℕ) (at r : ℕ) → take (at + length name + 1) o₁ ≡ take at o ++ (name ++ (10 ∷ []))
      → PutIs o₁ o₂ (at + length name + 1) (lines_text read) r → PutIs o o₂ at (ended (name ∷ read_lines read)) r
  text-put o o₁ o₂ at r e p =
      record {
        out = p.out
            ∙ ap (λ (l : List ℕ). l ++ lines_text read) e
            ∙ append_assoc (take at o) (name ++ (10 ∷ [])) (lines_text read)
            ∙ ap (λ (l : List ℕ). take at o ++ l) (sym text-parts);
        end = omega (arith, p.end, text-size);
      }
