-- A line in what is left of the output less 1, with byte 10 behind it.
use Prim.Native.Nat.{ℕ, ◌+◌, ◌-◌, ◌<◌}
use native.Mathlib.Omega.{arith}
use native.Mathlib.Numerals.{add-one}
use mathlib.Core.Path.{◌≡◌, ap, ◌∙◌}
use mathlib.Core.List.{List, [], ◌∷◌, ◌++◌}
use lib.ListN.{length, take, drop, set as put, length-append, length-drop}
use lib.Seq.{length-take-le, take_at, drop_at, take-append-le, take-set-le, take-suc-set, drop-set-add}
use Rattle.rules.specs.Set.{KmerSet}
use Rattle.rules.specs.Job.{Entry}
use Rattle.turn.specs.declared.Counts.{Counts}
use Rattle.std.specs.Prelude.{Ok}
use Rattle.correct.specs.Pass.{Tally}
use Rattle.through.specs.Through.{ThroughIs}
use Rattle.lines.specs.Lines.{LineIs}

module _ (o : List ℕ) (at : ℕ) (h : at < length o) where
  -- What is left less 1, from `at` on.
  abbrev pub room : ℕ
  room = length o - 1 - at

  abbrev pub lent : List ℕ
  lent = take room (drop at o)

  pub lent_length : length lent ≡ room
  lent_length = length-take-le room (drop at o) (omega (arith, length-drop at o))

  -- part is what the lent part holds after the line's passes.
  module _ (set : KmerSet) (es : List Entry) (line part : List ℕ) (same_part : length part ≡ length lent) (done : Counts)
      (is : ThroughIs set es line (length lent) part (Ok done)) where
    abbrev n : ℕ
    n = done.written

    -- The output after it, and with byte 10.
    abbrev o₁ : List ℕ
    o₁ = take at o ++ (part ++ drop room (drop at o))

    abbrev o₂ : List ℕ
    o₂ = put o₁ (at + n) 10

    front : length (take at o) ≡ at
    front = length-take-le at o (omega arith)

    behind : drop at o₂ ≡ put (part ++ drop room (drop at o)) n 10
    behind =
        drop-set-add at o₁ n 10
        ∙ ap (λ (l : List ℕ). put l n 10) (drop_at (take at o) (part ++ drop room (drop at o)) at front)

    written : take (n + 1) (drop at o₂) ≡ take n part ++ (10 ∷ [])
    written =
        let rest : List ℕ = drop room (drop at o) in
        rw (behind, add-one n)
        (take-suc-set (part ++ rest) n 10 (omega (arith, length-append part rest, is.1, same_part, lent_length, length-drop room (drop at o), length-drop at o))
        ∙ ap (λ (l : List ℕ). l ++ (10 ∷ [])) (take-append-le n part rest is.1))

    pub line-done : LineIs set es line at o o₂
        (Ok (record {
          written = n + 1;
          turns = done.turns;
          lookups = done.lookups;
          attempts = done.attempts;
          accepted = done.accepted;
          support = done.support;
          bases = done.bases;
        }))
    line-done =
        let q = is.0 in (
          λ i. record {
            bytes = (written ∙ ap (λ (p : Tally). p.bytes ++ (10 ∷ [])) q) i;
            turns = (q i).turns;
            lookups = (q i).lookups;
            attempts = (q i).attempts;
            accepted = (q i).accepted;
            support = (q i).support;
            bases = (q i).bases;
          },
          take-set-le at o₁ (at + n) 10 (omega arith) ∙ take_at (take at o) (part ++ drop room (drop at o)) at front,
          omega (arith, is.1, same_part, lent_length),
          omega (arith, is.2, lent_length),
          record { turns = is.3.turns; lookups = is.3.lookups; attempts = is.3.attempts; accepted = is.3.accepted; bases = is.3.bases },
        )
