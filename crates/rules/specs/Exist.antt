-- Document 01, "Correctors", One and Two (exist/).
use Prim.Native.Nat.{ℕ, suc, ◌+◌}
use Rattle.std.specs.Prelude.{Bool, length, get_or, take, drop, eqb, ltb}
use Rattle.std.proofs.Math.Bool.{true, false}
use Rattle.std.proofs.Math.Option.{Option, none, some}
use mathlib.Core.List.{List, [], ◌∷◌}
use Rattle.rules.specs.Letters.{Kmer, add_base, add_all, add, code, last, in_place}
use Rattle.rules.specs.Counted.{Counted, Try, after, refuse, give, ◌>>=◌, ◌>>◌}
use Rattle.rules.specs.Scan.{only, ask, is_solid, not_solid, sole, alternative}

-- What an accepted attempt gives: letters written for the bad base, how many bases further the pass goes on, and the k-mers that it rests on.
pub record Mend : Type 0 where
  pub letters : List ℕ
  pub resume : ℕ
  pub on : List Kmer

-- A scenario: least length of s, trial giving the tried k-mer, check start o, letters given (from the tried k-mer), resume r.
pub record Scenario : Type 0 where
  pub least : ℕ
  pub trial : Try Kmer
  pub o : ℕ
  pub letters : Kmer → List ℕ
  pub r : ℕ

unfoldable pub row : ℕ → Try Kmer → ℕ → (Kmer → List ℕ) → ℕ → Scenario
row least trial o letters r = record { least = least; trial = trial; o = o; letters = letters; r = r }

-- A kept mend put in front of the others.
unfoldable pub cons : Option Mend → List Mend → List Mend
cons none ms = ms
cons (some m) ms = m ∷ ms

module _ (k : ℕ) (sol : ℕ → Bool) where
  -- One: I, S, D.
  unfoldable pub one : Kmer → List ℕ → List Scenario
  unfolding give last row
  one x s =
      row 0 (give x) 2 (λ t. last 1 x) 2
      ∷ row 0 (give x) 1 (λ t. last 1 x) 1
      ∷ row 0 (give x) 0 (λ t. last 1 x) 0
      ∷ []

  -- y+si
  unfoldable pub with : Kmer → List ℕ → ℕ → Kmer
  unfolding add code
  with y s i = add_base k y (get_or s i 0)

  -- Two: II, IS, SS, SD, DD, ICI, ICS, ICD, SCI, SCS, SCD, DCI, DCD. "2" and "3" are the last letters of the tried k-mer.
  unfoldable pub two : Kmer → List ℕ → List Scenario
  unfolding give last with row is_solid not_solid sole ◌>>◌
  two x s =
      row 0 (give x) 3 (λ t. last 1 x) 2  -- II
      ∷ row 0 (give x) 2 (λ t. last 1 x) 2  -- IS
      ∷ row 2 (not_solid k sol (with x s 1) >> sole k sol x) 2 (last 2) 2  -- SS
      ∷ row 1 (sole k sol x) 1 (last 2) 1  -- SD
      ∷ row 0 (sole k sol x) 0 (last 2) 0  -- DD
      ∷ row 4 (is_solid k sol (with x s 3)) 4 (λ t. last 1 x) 3  -- ICI
      ∷ row 4 (not_solid k sol (with x s 1) >> sole k sol x) 3 (last 2) 4  -- ICS
      ∷ row 4 (sole k sol (with x s 2)) 3 (last 2) 2  -- ICD
      ∷ row 4 (give (with (with x s 1) s 3)) 4 (last 3) 4  -- SCI
      ∷ row 3 (is_solid k sol (with x s 1) >> not_solid k sol (with (with x s 1) s 2) >> sole k sol (with x s 1)) 3 (last 3) 3  -- SCS
      ∷ row 2 (sole k sol (with x s 1)) 2 (last 3) 2  -- SCD
      ∷ row 4 (give (with (with x s 1) s 3)) 4 (λ t. []) 1  -- DCI
      ∷ row 2 (sole k sol (with x s 0)) 1 (last 3) 1  -- DCD
      ∷ []

  -- The bases added to y, each asked, up to the first whose k-mer isn't solid: the solid count.
  unfoldable pub solid_run : Kmer → List ℕ → Counted ℕ
  unfolding add code ask
  solid_run y [] = record { answer = 0; lookups = 0 }
  solid_run y (b ∷ bs) =
      let z : Kmer = add_base k y b in
      elim (ask sol z).answer [
        | true ↦ (let m : Counted ℕ = solid_run z bs in record { answer = suc m.answer; lookups = (ask sol z).lookups + m.lookups })
        | false ↦ record { answer = 0; lookups = (ask sol z).lookups }
      ]

  module _ (c : ℕ) (s : List ℕ) where
    -- A tried k-mer's score: 0 if it isn't solid (it is asked) or if o + c exceeds the length of s, else the solid count of the c bases from o.
    unfoldable pub score : ℕ → Kmer → Counted ℕ
    unfolding solid_run after ask
    score o t =
        elim (ask sol t).answer [
          | true ↦ elim (ltb (length s) (o + c)) [
            | true ↦ record { answer = 0; lookups = (ask sol t).lookups }
            | false ↦ after (ask sol t).lookups (solid_run t (take c (drop o s)))
          ]
          | false ↦ record { answer = 0; lookups = (ask sol t).lookups }
        ]

    -- A scenario scoring c is kept, with its letters and resume; it rests on its tried k-mer.
    unfoldable pub keep : Scenario → Kmer → Try Mend
    unfolding score
    keep sc t =
        let m : Counted ℕ = score sc.o t in
        record {
          answer = elim (eqb m.answer c) [ true ↦ some (record { letters = sc.letters t; resume = sc.r; on = t ∷ [] }) | false ↦ none ];
          lookups = m.lookups;
        }

    -- A trial refuses below its least length without lookups.
    unfoldable pub tried : Scenario → Try Mend
    unfolding keep ◌>>=◌ refuse
    tried sc = elim (ltb (length s) sc.least) [ true ↦ refuse | false ↦ sc.trial >>= keep sc ]

    -- The scenarios kept; every scenario pays its own lookups.
    unfoldable pub kept : List Scenario → Counted (List Mend)
    unfolding tried cons
    kept [] = record { answer = []; lookups = 0 }
    kept (sc ∷ scs) = record { answer = cons (tried sc).answer (kept scs).answer; lookups = (tried sc).lookups + (kept scs).lookups }

    -- One base more: the length of s exceeds c + r + 1 and, letters put in place of the bad base,
    -- the k-mer after s from r, c + 1 bases, is solid.
    unfoldable pub one_more : Kmer → Mend → Try Mend
    unfolding add_all in_place refuse is_solid ◌>>◌ give
    one_more y m =
        elim (ltb (c + m.resume + 1) (length s)) [
          | true ↦ is_solid k sol (add_all k (in_place k y m.letters) (take (c + 1) (drop m.resume s))) >> give m
          | false ↦ refuse
        ]

    unfoldable pub one_more_of : Kmer → List Mend → Counted (List Mend)
    unfolding one_more cons
    one_more_of y [] = record { answer = []; lookups = 0 }
    one_more_of y (m ∷ ms) =
        record { answer = cons (one_more y m).answer (one_more_of y ms).answer; lookups = (one_more y m).lookups + (one_more_of y ms).lookups }

    -- None kept: refuse. One: use it. More: keep those with one base more, and use it if just one remains.
    unfoldable pub choose : Kmer → List Mend → Try Mend
    unfolding one_more_of refuse give only
    choose y [] = refuse
    choose y (m ∷ []) = give m
    choose y (m ∷ m' ∷ ms) = (let more : Counted (List Mend) = one_more_of y (m ∷ m' ∷ ms) in record { answer = only more.answer; lookups = more.lookups })

    -- An attempt at the bad k-mer y under a list of scenarios.
    unfoldable pub exist : (Kmer → List ℕ → List Scenario) → Kmer → Try Mend
    unfolding alternative kept choose after ◌>>=◌
    exist scenarios y =
        alternative k sol y
        >>= (λ x. let ms : Counted (List Mend) = kept (scenarios x s) in after ms.lookups (choose y ms.answer))
