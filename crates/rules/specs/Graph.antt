-- Document 01, "Correctors", Graph; document 02, W6: a move no longer asks whether its current k-mer is solid.
use Prim.Native.Nat.{ℕ, zero, suc, ◌+◌, ◌*◌, ◌<◌}
use Rattle.std.specs.Prelude.{◌≡◌, Bool, List, [], ◌∷◌, ◌++◌, eqb}
use Rattle.std.proofs.Math.Bool.{true, false}
use Rattle.std.proofs.Math.Option.{none, some}
use Rattle.rules.specs.Letters.{Kmer, same, met, add, last_letter}
use Rattle.rules.specs.Counted.{Try, after, refuse, give, ◌>>=◌}
use Rattle.rules.specs.Scan.{Scan, ask, sole, alternative, error_len}
use Rattle.rules.specs.Exist.{Mend}

-- ---- chains

-- Each of a list is so.
pub data All {A : Type 0} (P : A → Type 0) : List A → Type 0 where
  end : All P []
  also : {a : A} {l : List A} → P a → All P l → All P (a ∷ l)

-- No k-mer stands twice.
pub data Distinct : List Kmer → Type 0 where
  end-distinct : Distinct []
  also-distinct : {y : Kmer} {ys : List Kmer} → met y ys ≡ false → Distinct ys → Distinct (y ∷ ys)

-- The letters of k-mers in turn: the last of each.
unfoldable pub spell : List Kmer → List ℕ
unfolding last_letter
spell [] = []
spell (y ∷ ys) = last_letter y ∷ spell ys

module _ (k : ℕ) (sol : ℕ → Bool) where
  -- z is the only solid successor of y.
  pub record OnlySuccessor (y z : Kmer) : Type 0 where
    pub by : ℕ
    pub by_lt : by < 4
    pub is : z ≡ add k y by
    pub solid_found : (ask sol z).answer ≡ true
    pub only_one : (b : ℕ) → b < 4 → (ask sol (add k y b)).answer ≡ true → b ≡ by

  -- At least one move, each to the only solid successor, the last to t.
  pub data Moves : Kmer → List Kmer → Kmer → Type 0 where
    move : {y t : Kmer} → OnlySuccessor y t → Moves y (t ∷ []) t
    more : {y z t : Kmer} {zs : List Kmer} → OnlySuccessor y z → Moves z zs t → Moves y (z ∷ zs) t

  -- A chain: x first, at least one move, each k-mer the only solid successor of the one before, all solid and distinct, last is t.
  pub record Chain (x t : Kmer) : Type 0 where
    pub via : List Kmer
    pub moves : Moves x via t
    pub all_solid : All (λ y. (ask sol y).answer ≡ true) (x ∷ via)
    pub distinct : Distinct (x ∷ via)

-- ---- the walk

-- Where a walk stands: its k-mer, the mark, the moves made, the move that sets the mark next, the k-mers from x on, the lookups made.
pub record Walk : Type 0 where
  pub at : Kmer
  pub mark : Kmer
  pub moves : ℕ
  pub marks_at : ℕ
  pub seen : List Kmer
  pub lookups : ℕ

-- The walk at x, which is the first mark.
unfoldable pub start : Kmer → Walk
start x = record { at = x; mark = x; moves = 0; marks_at = 1; seen = x ∷ []; lookups = 0 }

-- After a move to y by l lookups. The mark is the k-mer after moves 1, 2, 4, 8, ..
unfoldable pub moved : Walk → Kmer → ℕ → Walk
moved w y l =
    let marks : Bool = eqb (suc w.moves) w.marks_at in
    record {
      at = y;
      mark = elim marks [ true ↦ y | false ↦ w.mark ];
      moves = suc w.moves;
      marks_at = elim marks [ true ↦ 2 * w.marks_at | false ↦ w.marks_at ];
      seen = w.seen ++ (y ∷ []);
      lookups = w.lookups + l;
    }

-- The walk refuses after l lookups more.
unfoldable pub halt : Walk → ℕ → Try (List Kmer)
halt w l = record { answer = none; lookups = w.lookups + l }

module _ (k : ℕ) (sol : ℕ → Bool) where
  -- Each move: 4 lookups for the successors. No sole successor refuses; T accepts; equal to the mark refuses.
  -- The fuel never runs out where it is 6n (the theorem `fuel`).
  unfoldable pub walk : ℕ → Kmer → Walk → Try (List Kmer)
  unfolding moved sole halt same
  walk zero t w = halt w 0
  walk (suc fuel) t w =
      let l : ℕ = (sole k sol w.at).lookups in
      elim (sole k sol w.at).answer [
        | none ↦ halt w l
        | some y ↦ elim (same y t) [
          | true ↦ record { answer = some (w.seen ++ (y ∷ [])); lookups = w.lookups + l }
          | false ↦ elim (same y w.mark) [
            | true ↦ halt w l
            | false ↦ walk fuel t (moved w y l)
          ]
        ]
      ]

module _ (k n : ℕ) (sol : ℕ → Bool) where
  -- T = x refuses without moving. A T that holds an unknown letter is equal to no k-mer of the walk, x included.
  unfoldable pub walk_from : Kmer → Kmer → Try (List Kmer)
  unfolding walk start refuse same
  walk_from t x = elim (same x t) [ true ↦ refuse | false ↦ walk k sol (6 * n) t (start x) ]

  -- Graph from a scan: letters are x's last and each move's; resume scan index + 1. It rests on every k-mer from x on.
  unfoldable pub graph_from : Scan → Kmer → Try Mend
  unfolding alternative walk_from ◌>>=◌ give spell
  graph_from sc y =
      alternative k sol y
      >>= (λ x. walk_from sc.end x >>= (λ seen. give (record { letters = spell seen; resume = suc sc.index; on = seen })))

  -- The scan comes first.
  unfoldable pub graph : List ℕ → Kmer → Try Mend
  unfolding graph_from error_len after
  graph s y = (let sc : Scan = error_len k sol y s in after sc.lookups (graph_from sc y))

-- ---- demand 2: a Graph correction is made exactly when a chain exists

-- At an attempt, s the rest of the read and y the bad k-mer: x, and a chain from x to the scan's last k-mer T.
pub record ChainAt (k : ℕ) (sol : ℕ → Bool) (s : List ℕ) (y : Kmer) : Type 0 where
  pub x : Kmer
  pub starts : (alternative k sol y).answer ≡ some x
  pub chain : Chain k sol x (error_len k sol y s).end

-- Letters are x's last and each move's; resume scan index + 1. It rests on every k-mer of the chain.
unfoldable pub chain_mend : (k : ℕ) (sol : ℕ → Bool) (s : List ℕ) (y : Kmer) → ChainAt k sol s y → Mend
unfolding spell error_len
chain_mend k sol s y at = record { letters = spell (at.x ∷ at.chain.via); resume = suc (error_len k sol y s).index; on = at.x ∷ at.chain.via }

-- An attempt gives a mend if and only if there is such a chain, and then it is the chain's.
pub record Exactly (k : ℕ) (sol : ℕ → Bool) (s : List ℕ) (y : Kmer) (t : Try Mend) : Type 0 where
  pub if_chain : (at : ChainAt k sol s y) → t.answer ≡ some (chain_mend k sol s y at)
  pub only_if : (m : Mend) → t.answer ≡ some m → (at : ChainAt k sol s y) × (m ≡ chain_mend k sol s y at)
