-- Document 02, W12, by computation: the theorem `edit_samples`, that the rules judge as the table says; a correction of ours that does not
-- pass; the call's refusals in their order.
use Prim.Native.Nat.{ℕ}
use mathlib.Core.Path.{◌≡◌, refl}
use mathlib.Core.Option.{none, some}
use mathlib.Core.List.{List, [], ◌∷◌, map}
use lib.ListN.{set}
use Rattle.rules.specs.Refusal.{Outcome}
use Rattle.rules.specs.Set.{KmerSet, solid, opened}
use Rattle.rules.specs.Job.{Two, pass}
use Rattle.rules.specs.Samples.{A, C, T, G, AACGCCG, AACTCCG, sample_set, sample_bytes}
use Rattle.rules.proofs.Samples.{sample_opens, other_opens}
use Rattle.rules_edits.specs.Edits.{Sheet, sheet, judge, check_by, check_edits}
use Rattle.rules_edits.specs.EditSamples.{EditSample, table}

-- A line as the rules judge it.
pub by_rules : EditSample → EditSample
unfolding judge solid sample_set
by_rules e = record { sheet = e.sheet; judged = judge sample_set.k (solid sample_set) e.sheet }

-- Every line of the table is as the rules have it.
pub edit_samples : map by_rules table ≡ table
unfolding by_rules table
edit_samples = refl

-- ---- calls

-- A call by what its set's bytes open to.
checked : (bytes : List ℕ) (s : Sheet) {o : Outcome KmerSet} → opened bytes ≡ o → check_edits bytes s ≡ check_by o s
unfolding check_edits
checked bytes s e = λ i. check_by (e i) s

abbrev AACGAACC : List ℕ
AACGAACC = A ∷ A ∷ C ∷ G ∷ A ∷ A ∷ C ∷ C ∷ []

-- Two at confirm 2 reads AACGAACC as II: T for the bad G, resumed two bases further, on an A.
pub ours : List ℕ
unfolding pass sample_set
ours = (pass sample_set (record { method = Two; confirm = 2 }) AACGAACC).bytes

-- The sheet of that correction, T for G and A at position 3, is not accepted: CTA, whose last base is the one after the edit, is not solid.
pub ours_refused :
    (ours ≡ A ∷ A ∷ C ∷ T ∷ A ∷ C ∷ C ∷ [])
    × (check_edits sample_bytes (sheet AACGAACC ours (3 ∷ 2 ∷ 1 ∷ []) (T ∷ []))
    ≡ some (record { number = 19; place = 0 }))
unfolding ours check_by sample_set solid
ours_refused = (refl, checked _ _ sample_opens.0)

-- T for G at position 3 of AACGCCG; and the same with an edit of one number behind it.
pub good : Sheet
good = sheet AACGCCG AACTCCG (3 ∷ 1 ∷ 1 ∷ []) (T ∷ [])

pub cut : Sheet
cut = sheet AACGCCG AACTCCG (3 ∷ 1 ∷ 1 ∷ 4 ∷ []) (T ∷ [])

-- Accepted; 19; and 7, 8, 9 and 10 before it.
pub edit_calls :
    (check_edits sample_bytes good ∷ check_edits sample_bytes cut ∷ check_edits [] cut ∷ check_edits (set sample_bytes 520 7) cut
    ∷ check_edits (set (set sample_bytes 0 2) 504 8) cut
    ∷ check_edits (set (set sample_bytes 520 6) 1016 183) cut
    ∷ [])
    ≡ none
    ∷ some (record { number = 19; place = 1 })
    ∷ some (record { number = 7; place = 0 })
    ∷ some (record { number = 8; place = 1 })
    ∷ some (record { number = 9; place = 0 })
    ∷ some (record { number = 10; place = 1 })
    ∷ []
unfolding check_by good cut sample_set solid
edit_calls =
    λ i. (checked _ good sample_opens.0 i
    ∷ checked _ cut sample_opens.0 i
    ∷ checked _ cut other_opens.0 i
    ∷ checked _ cut other_opens.1 i
    ∷ checked _ cut other_opens.2 i
    ∷ checked _ cut other_opens.3 i
    ∷ [])
