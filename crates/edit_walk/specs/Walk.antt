-- One walk over the pieces of the read with all edits made, by lists.
use Prim.Native.Nat.{ℕ, zero, suc}
use denote.Ref.{Bor}
use Rattle.std.specs.Prelude.{◌≡◌, Bool, cond, eqb, Option as Asking, Some, None, Result, Ok, Err}
use Rattle.std.specs.Option.{option_or}
use Rattle.std.proofs.Math.Bool.{true, false}
use Rattle.std.proofs.Math.Option.{Option, none, some}
use mathlib.Core.List.{List, [], ◌∷◌}
use Rattle.rules.specs.Letters.{Kmer, add, add_base, code, kmer}
use Rattle.rules.specs.Scan.{ask}
use Rattle.rules_edits.specs.Edits.{Sheet, count, kept, letters_of, rest}
use Rattle.kmer.specs.Kmer.{kmer_of, IsKmer}
use Rattle.edit_walk.specs.declared.Walk.{Walk}

-- Where a walk stands.
pub record Stand : Type 0 where
  pub kmer : Kmer
  -- the first edit that asks the next base's k-mer to be solid, if one does
  pub asks : Asking ℕ
  -- what is left of the partner's read, if it was the same so far
  pub left : Option (List ℕ)

-- A walk goes on, or an edit offends.
pub data Walked : Type 0 where
  on : Stand → Walked
  offends : ℕ → Walked

-- What is left of a read behind base b, if that comes next.
unfoldable pub next : ℕ → Option (List ℕ) → Option (List ℕ)
next b none = none
next b (some []) = none
next b (some (c ∷ l)) = elim (eqb b c) [ true ↦ some l | false ↦ none ]

-- After base b; edit `then` asks next, or none does.
unfoldable pub stepped : ℕ → Asking ℕ → ℕ → Stand → Stand
unfolding add code next
stepped k then b w = record { kmer = add_base k w.kmer b; asks = then; left = next b w.left }

-- Only if the walk goes on.
unfoldable pub and_then : Walked → (Stand → Walked) → Walked
and_then (on w) f = f w
and_then (offends i) f = offends i

-- A k-mer is solid: it holds no unknown letter, and its code is.
abbrev pub yes : (ℕ → Bool) → Kmer → Bool
yes sol y = (ask sol y).answer

-- The edit that asks, if one does and the k-mer is not solid.
unfoldable pub blamed : Asking ℕ → Bool → Asking ℕ
blamed None solid = None
blamed (Some i) solid = cond solid None (Some i)

module _ (k : ℕ) (sol : ℕ → Bool) where
  -- A part, behind each base of which edit `then` asks, or none does.
  unfoldable pub pass_over : Asking ℕ → List ℕ → Stand → Walked
  unfolding stepped ask blamed
  pass_over then [] w = on w
  pass_over then (b ∷ bs) w =
      elim (blamed w.asks (yes sol (add_base k w.kmer b))) [
        | Some i ↦ offends i
        | None ↦ pass_over then bs (stepped k then b w)
      ]

  -- At edit i: the base before it is asked, and its letters follow. What an earlier edit asks too is that edit's.
  unfoldable pub at_edit : ℕ → List ℕ → Stand → Walked
  unfolding pass_over ask
  at_edit i letters w =
      elim (yes sol w.kmer) [
        | false ↦ offends i
        | true ↦ pass_over (Some i) letters (record { kmer = w.kmer; asks = option_or w.asks (Some i); left = w.left })
      ]

  -- The bases kept before edit i, and the edit.
  unfoldable pub over_edit : ℕ → List ℕ → List ℕ → Stand → Walked
  unfolding pass_over and_then at_edit
  over_edit i bases letters w = and_then (pass_over None bases w) (at_edit i letters)

  -- m edits from i on, and the bases behind the last.
  unfoldable pub walk_from : Sheet → ℕ → ℕ → Stand → Walked
  unfolding over_edit and_then pass_over
  walk_from s zero i w = pass_over None (rest s) w
  walk_from s (suc m) i w = and_then (over_edit i (kept s i) (letters_of s i) w) (walk_from s m (suc i))

-- Before the first base.
unfoldable pub begins : ℕ → List ℕ → Stand
unfolding kmer
begins k mended = record { kmer = kmer k []; asks = None; left = some mended }

-- The whole walk.
unfoldable pub walk : ℕ → (ℕ → Bool) → Sheet → Walked
unfolding walk_from begins
walk k sol s = walk_from k sol s (count s) 0 (begins k s.mended)

-- ---- the code's walk

abbrev pub left_of : Asking (Bor (List ℕ)) → Option (List ℕ)
left_of None = none
left_of (Some rest) = some rest.now

abbrev pub stand_of : Walk → Stand
stand_of w = record { kmer = kmer_of w.kmer; asks = w.asks; left = left_of w.left }

-- Where the walk stands, and its k-mer is one of k letters; or the edit that offends.
abbrev pub StepIs : ℕ → Walked → Result Walk ℕ → Type 0
StepIs k s (Ok w) = (s ≡ on (stand_of w)) × IsKmer k w.kmer
StepIs k s (Err i) = s ≡ offends i
