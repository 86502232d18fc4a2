-- Document 02, W6: the question that the walk needn't put. Document 01's walk, which asks before each move whether its k-mer is solid,
-- is kept here to be compared with: "no" never comes, and without the question the answer is the same, by one lookup less a move.
use Prim.Native.Nat.{ℕ, zero, suc, ◌+◌, ◌^◌}
use native.Mathlib.Omega.{arith}
use native.Mathlib.Nat.{zero-mod}
use mathlib.Core.Path.{◌≡◌, refl, ap, ◌∙◌}
use mathlib.Core.Bool.{Bool, true, false}
use mathlib.Core.Option.{Option, none, some}
use mathlib.Core.List.{List, [], ◌∷◌, ◌++◌}
use Rattle.rules.specs.Letters.{Kmer, same}
use Rattle.rules.specs.Counted.{Try}
use Rattle.rules.specs.Scan.{ask, sole, alternative}
use Rattle.rules.specs.Graph.{Walk, start, moved, halt, walk}
use Rattle.rules_laws.proofs.Scan.{ask-known, ask-one, sole-is, sole-lookups, four-cost}
use Rattle.rules_laws.proofs.Exactly.{x-good}
use Rattle.rules_laws.proofs.Few.{SolidKmer}

-- ---- document 01's walk

module _ (k : ℕ) (sol : ℕ → Bool) where
  -- 1 lookup that the current k-mer is solid, 4 for successors.
  asking_cost : Kmer → ℕ
  asking_cost y = (ask sol y).lookups + (sole k sol y).lookups

  -- 01's walk, `exit` being what it does where the k-mer isn't solid.
  pub asking_walk : (Walk → Try (List Kmer)) → ℕ → Kmer → Walk → Try (List Kmer)
  unfolding asking_cost
  asking_walk exit zero t w = halt w 0
  asking_walk exit (suc fuel) t w =
      let l : ℕ = asking_cost w.at in
      elim (ask sol w.at).answer [
        | false ↦ exit w
        | true ↦ elim (sole k sol w.at).answer [
          | none ↦ halt w l
          | some y ↦ elim (same y t) [
            | true ↦ record { answer = some (w.seen ++ (y ∷ [])); lookups = w.lookups + l }
            | false ↦ elim (same y w.mark) [
              | true ↦ halt w l
              | false ↦ asking_walk exit fuel t (moved w y l)
            ]
          ]
        ]
      ]

  -- 01's exit: the walk refuses, 1 lookup made.
  pub refuses : Walk → Try (List Kmer)
  refuses w = halt w (ask sol w.at).lookups

  -- ---- every k-mer from which a walk moves is solid

  -- Where a walk from x comes by its moves.
  pub data Reached (x : Kmer) : Walk → Type 0 where
    starts : Reached x (start x)
    moves : {w : Walk} (y : Kmer) (l : ℕ) → Reached x w → (sole k sol w.at).answer ≡ some y → Reached x (moved w y l)

  -- x is the alternative, every later k-mer the solid successor of the one before.
  pub reached-solid : (x : Kmer) → (ask sol x).answer ≡ true → {w : Walk} → Reached x w → (ask sol w.at).answer ≡ true
  unfolding start moved
  reached-solid x h starts = h
  reached-solid x h (moves {w} y l r e) = (sole-is k sol w.at y e).solid_found

  module _ (exit exit' : Walk → Try (List Kmer)) where
    -- "no" never comes: whatever is done then, the walk is the same.
    never-no : (f : ℕ) (t : Kmer) (w : Walk) → (ask sol w.at).answer ≡ true → asking_walk exit f t w ≡ asking_walk exit' f t w
    unfolding asking_walk moved
    never-no zero t w h = refl
    never-no (suc f) t w h = go (λ y. never-no f t (moved w y (asking_cost w.at))) (sole k sol w.at).answer refl
      where
        go : ((y : Kmer) → (ask sol y).answer ≡ true → asking_walk exit f t (moved w y (asking_cost w.at)) ≡ asking_walk exit' f t (moved w y (asking_cost w.at)))
            → (o : Option Kmer) → (sole k sol w.at).answer ≡ o → asking_walk exit (suc f) t w ≡ asking_walk exit' (suc f) t w
        go i none e = rw (h, asking_walk, e)
        go i (some y) e = on (same y t) refl (same y w.mark) refl
          where
            on : (p : Bool) → same y t ≡ p → (q : Bool) → same y w.mark ≡ q → asking_walk exit (suc f) t w ≡ asking_walk exit' (suc f) t w
            on true e1 q e2 = rw (h, asking_walk, e, e1)
            on false e1 true e2 = rw (h, asking_walk, e, e1, e2)
            on false e1 false e2 = rw (h, asking_walk, e, e1, e2) (i y (sole-is k sol w.at y e).solid_found)

  -- ---- without the question

  -- How many moves a walk makes.
  pub moves_made : ℕ → Kmer → Walk → ℕ
  moves_made zero t w = 0
  moves_made (suc fuel) t w =
      elim (sole k sol w.at).answer [
        | none ↦ 1
        | some y ↦ elim (same y t) [
          | true ↦ 1
          | false ↦ elim (same y w.mark) [ true ↦ 1 | false ↦ 1 + moves_made fuel t (moved w y (sole k sol w.at).lookups) ]
        ]
      ]

  -- The walk w with d lookups more.
  with-more : Walk → ℕ → Walk
  with-more w d =
      record {
        at = w.at;
        mark = w.mark;
        moves = w.moves;
        marks_at = w.marks_at;
        seen = w.seen;
        lookups = w.lookups + d;
      }

  -- a move by one lookup more
  more-moved : (w : Walk) (d : ℕ) (y : Kmer) (l m : ℕ) → m ≡ 1 + l → moved (with-more w d) y m ≡ with-more (moved w y l) (d + 1)
  unfolding moved with-more
  more-moved w d y l m h =
      let e : w.lookups + d + m ≡ w.lookups + l + (d + 1) = omega arith in
      λ i. record {
        at = y;
        mark = (moved w y l).mark;
        moves = (moved w y l).moves;
        marks_at = (moved w y l).marks_at;
        seen = (moved w y l).seen;
        lookups = e i;
      }

  -- 01's walk and the walk: the same answer, and one lookup less a move.
  pub record Spared (old new : Try (List Kmer)) (d m : ℕ) : Type 0 where
    pub same_answer : old.answer ≡ new.answer
    pub less_a_move : old.lookups ≡ new.lookups + d + m

  asking-one : (y : Kmer) → (ask sol y).answer ≡ true → asking_cost y ≡ 1 + (sole k sol y).lookups
  unfolding asking_cost
  asking-one y h = rw (ask-one sol y (ask-known sol y h))

  spared-from : (f : ℕ) (t : Kmer) (w : Walk) (d : ℕ) → (ask sol w.at).answer ≡ true
      → Spared (asking_walk refuses f t (with-more w d)) (walk k sol f t w) d (moves_made f t w)
  unfolding asking_walk walk moves_made with-more halt moved
  spared-from zero t w d h = record { same_answer = refl; less_a_move = omega arith }
  spared-from (suc f) t w d h = go (λ y. spared-from f t (moved w y l) (d + 1)) (sole k sol w.at).answer refl
    where
      l : ℕ
      l = (sole k sol w.at).lookups

      c : asking_cost w.at ≡ 1 + l
      c = asking-one w.at h

      Goal : Type 0
      Goal = Spared (asking_walk refuses (suc f) t (with-more w d)) (walk k sol (suc f) t w) d (moves_made (suc f) t w)

      go : ((y : Kmer) → (ask sol y).answer ≡ true
          → Spared (asking_walk refuses f t (with-more (moved w y l) (d + 1))) (walk k sol f t (moved w y l)) (d + 1) (moves_made f t (moved w y l)))
          → (o : Option Kmer) → (sole k sol w.at).answer ≡ o → Goal
      go i none e =
          record {
            same_answer = rw (h, asking_walk, e, walk);
            less_a_move = rw (h, asking_walk, e, walk, moves_made) (omega (arith, c));
          }
      go i (some y) e = on (same y t) refl (same y w.mark) refl
        where
          on : (p : Bool) → same y t ≡ p → (q : Bool) → same y w.mark ≡ q → Goal
          on true e1 q e2 =
              record {
                same_answer = rw (h, asking_walk, e, walk, e1);
                less_a_move = rw (h, asking_walk, e, walk, moves_made, e1) (omega (arith, c));
              }
          on false e1 true e2 =
              record {
                same_answer = rw (h, asking_walk, e, walk, e1, e2);
                less_a_move = rw (h, asking_walk, e, walk, moves_made, e1, e2) (omega (arith, c));
              }
          on false e1 false e2 =
              let j = i y (sole-is k sol w.at y e).solid_found in
              let m = more-moved w d y l (asking_cost w.at) c in
              record {
                same_answer = rw (h, asking_walk, e, walk, e1, e2) (ap (λ (v : Walk). (asking_walk refuses f t v).answer) m ∙ j.same_answer);
                less_a_move = rw (h, asking_walk, e, walk, moves_made, e1, e2)
                    (ap (λ (v : Walk). (asking_walk refuses f t v).lookups) m ∙ j.less_a_move ∙ omega arith);
              }

  -- ---- from x, the alternative at a bad k-mer

  module _ (y x : Kmer) (a : (alternative k sol y).answer ≡ some x) where
    x-solid : (ask sol x).answer ≡ true
    unfolding SolidKmer
    x-solid = (x-good k sol y x a).1

    -- Every k-mer from which a walk moves is solid.
    pub asked-yes : {w : Walk} → Reached x w → (ask sol w.at).answer ≡ true
    asked-yes r = reached-solid x x-solid r

    -- So "no" never comes: 01's walk is the same, whatever it would do then.
    pub asked-no : (exit : Walk → Try (List Kmer)) (f : ℕ) (t : Kmer) → asking_walk exit f t (start x) ≡ asking_walk refuses f t (start x)
    unfolding start
    asked-no exit f t = never-no exit refuses f t (start x) x-solid

    -- Without the question: the same answer, and one lookup less a move.
    pub asked-less : (f : ℕ) (t : Kmer) → Spared (asking_walk refuses f t (start x)) (walk k sol f t (start x)) 0 (moves_made f t (start x))
    unfolding start with-more
    asked-less f t = spared-from f t (start x) 0 x-solid

-- A move counts 4 lookups.
pub move-four : (j : ℕ) (sol : ℕ → Bool) (y : Kmer) → (ask sol y).answer ≡ true → (sole (suc j) sol y).lookups ≡ 4
move-four j sol y h =
    let u : y.unknown ≡ 0 = ask-known sol y h in
    sole-lookups (suc j) sol y ∙ four-cost j sol y (rw u (zero-mod (2 ^ j)))
