-- Document 02, W13: a table of bridges: the order A, C, T, G, each case of the floor, and budgets about the places where the search stops.
use Rattle.std.specs.Prelude.{ℕ, Bool, true, false, List, [], ◌∷◌}
use Rattle.std.proofs.Math.Option.{Option, none, some}
use Rattle.rules.specs.Set.{KmerSet}
use Rattle.rules.specs.Samples.{A, C, T, G, sample_set}

-- k = 3, the one key AAA (and so TTT).
unfoldable pub just_a : KmerSet
just_a = record { k = 3; keys = 0 ∷ []; index = []; counts = [] }

-- k = 1, every base.
unfoldable pub all_bases : KmerSet
all_bases = record { k = 1; keys = 0 ∷ 3 ∷ []; index = []; counts = [] }

-- k = 3, two ways from CTA to AGG.
unfoldable pub two_ways : KmerSet
two_ways = record { k = 3; keys = 3 ∷ 15 ∷ 17 ∷ 24 ∷ 40 ∷ 53 ∷ []; index = []; counts = [] }

-- k = 3, two ways of 5 moves from AGC to GAT, by C and by T.
unfoldable pub cees_first : KmerSet
cees_first = record { k = 3; keys = 9 ∷ 12 ∷ 23 ∷ 24 ∷ 53 ∷ 54 ∷ 60 ∷ []; index = []; counts = [] }

-- k = 3, two ways of 4 moves from TGA to CTC, by T and by G, and longer ones.
unfoldable pub tees_first : KmerSet
tees_first = record { k = 3; keys = 9 ∷ 12 ∷ 18 ∷ 36 ∷ 51 ∷ 54 ∷ []; index = []; counts = [] }

-- A line of the table: set, both ends by their letters, budget; and the chain's letters, lookups, floor, and whether it stopped.
pub record BridgeSample : Type 0 where
  pub set : KmerSet
  pub from : List ℕ
  pub to : List ℕ
  pub budget : ℕ
  pub chain : Option (List ℕ)
  pub lookups : ℕ
  pub floor : ℕ
  pub stop : Bool

unfoldable pub line : KmerSet → List ℕ → List ℕ → ℕ → Option (List ℕ) → ℕ → ℕ → Bool → BridgeSample
line s from to budget chain l f stop =
    record { set = s; from = from; to = to; budget = budget; chain = chain; lookups = l; floor = f; stop = stop }

unfoldable pub table : List BridgeSample
unfolding line
table =
    -- The sample's set has no branch: AAC to CCG is 4 moves.
    line sample_set (A ∷ A ∷ C ∷ []) (C ∷ C ∷ G ∷ []) 0 none 0 1 true
    ∷ line sample_set (A ∷ A ∷ C ∷ []) (C ∷ C ∷ G ∷ []) 3 none 0 1 true
    ∷ line sample_set (A ∷ A ∷ C ∷ []) (C ∷ C ∷ G ∷ []) 4 none 4 1 true
    ∷ line sample_set (A ∷ A ∷ C ∷ []) (C ∷ C ∷ G ∷ []) 15 none 12 1 true
    ∷ line sample_set (A ∷ A ∷ C ∷ []) (C ∷ C ∷ G ∷ []) 16 (some (T ∷ C ∷ C ∷ G ∷ [])) 16 1 true
    ∷ line sample_set (A ∷ A ∷ C ∷ []) (C ∷ C ∷ G ∷ []) 19 (some (T ∷ C ∷ C ∷ G ∷ [])) 16 1 true
    ∷ line sample_set (A ∷ A ∷ C ∷ []) (C ∷ C ∷ G ∷ []) 20 (some (T ∷ C ∷ C ∷ G ∷ [])) 20 2 true
    ∷ line sample_set (A ∷ A ∷ C ∷ []) (C ∷ C ∷ G ∷ []) 27 (some (T ∷ C ∷ C ∷ G ∷ [])) 24 2 true
    ∷ line sample_set (A ∷ A ∷ C ∷ []) (C ∷ C ∷ G ∷ []) 28 (some (T ∷ C ∷ C ∷ G ∷ [])) 28 3 true
    ∷ line sample_set (A ∷ A ∷ C ∷ []) (C ∷ C ∷ G ∷ []) 39 (some (T ∷ C ∷ C ∷ G ∷ [])) 36 3 true
    ∷ line sample_set (A ∷ A ∷ C ∷ []) (C ∷ C ∷ G ∷ []) 40 (some (T ∷ C ∷ C ∷ G ∷ [])) 40 4 false
    ∷ line sample_set (A ∷ A ∷ C ∷ []) (C ∷ C ∷ G ∷ []) 1000 (some (T ∷ C ∷ C ∷ G ∷ [])) 40 4 false
    -- A deep chain of 1 move: no round.
    ∷ line sample_set (A ∷ A ∷ C ∷ []) (A ∷ C ∷ T ∷ []) 3 none 0 1 true
    ∷ line sample_set (A ∷ A ∷ C ∷ []) (A ∷ C ∷ T ∷ []) 4 (some (T ∷ [])) 4 1 false
    ∷ line sample_set (A ∷ A ∷ C ∷ []) (A ∷ C ∷ T ∷ []) 1000 (some (T ∷ [])) 4 1 false
    -- None: all 6 k-mers from CCG on are tried. Floor 17 can come with the budget used up.
    ∷ line sample_set (C ∷ C ∷ G ∷ []) (A ∷ A ∷ C ∷ []) 19 none 16 1 true
    ∷ line sample_set (C ∷ C ∷ G ∷ []) (A ∷ A ∷ C ∷ []) 20 none 20 1 true
    ∷ line sample_set (C ∷ C ∷ G ∷ []) (A ∷ A ∷ C ∷ []) 23 none 20 1 true
    ∷ line sample_set (C ∷ C ∷ G ∷ []) (A ∷ A ∷ C ∷ []) 24 none 24 17 false
    ∷ line sample_set (C ∷ C ∷ G ∷ []) (A ∷ A ∷ C ∷ []) 1000 none 24 17 false
    -- The start is not compared; AAC does not come again.
    ∷ line sample_set (A ∷ A ∷ C ∷ []) (A ∷ A ∷ C ∷ []) 39 none 36 1 true
    ∷ line sample_set (A ∷ A ∷ C ∷ []) (A ∷ A ∷ C ∷ []) 40 none 40 17 false
    -- Repeats are allowed.
    ∷ line just_a (A ∷ A ∷ A ∷ []) (A ∷ A ∷ A ∷ []) 4 (some (A ∷ [])) 4 1 false
    -- 16 moves and no more; the k-mer behind the last makes no lookups and is no stop.
    ∷ line just_a (A ∷ A ∷ A ∷ []) (T ∷ T ∷ T ∷ []) 63 none 60 1 true
    ∷ line just_a (A ∷ A ∷ A ∷ []) (T ∷ T ∷ T ∷ []) 64 none 64 17 false
    ∷ line just_a (A ∷ A ∷ A ∷ []) (T ∷ T ∷ T ∷ []) 1000 none 64 17 false
    -- A first: the deep chain has 16 moves, and the round of 1 move finds C.
    ∷ line all_bases (A ∷ []) (C ∷ []) 63 none 60 1 true
    ∷ line all_bases (A ∷ []) (C ∷ []) 64 (some (A ∷ A ∷ A ∷ A ∷ A ∷ A ∷ A ∷ A ∷ A ∷ A ∷ A ∷ A ∷ A ∷ A ∷ A ∷ C ∷ [])) 64 1 true
    ∷ line all_bases (A ∷ []) (C ∷ []) 67 (some (A ∷ A ∷ A ∷ A ∷ A ∷ A ∷ A ∷ A ∷ A ∷ A ∷ A ∷ A ∷ A ∷ A ∷ A ∷ C ∷ [])) 64 1 true
    ∷ line all_bases (A ∷ []) (C ∷ []) 68 (some (C ∷ [])) 68 1 false
    ∷ line all_bases (A ∷ []) (C ∷ []) 1000 (some (C ∷ [])) 68 1 false
    -- AGG before GG; found in the round of 2 moves.
    ∷ line two_ways (C ∷ T ∷ A ∷ []) (A ∷ G ∷ G ∷ []) 11 none 8 1 true
    ∷ line two_ways (C ∷ T ∷ A ∷ []) (A ∷ G ∷ G ∷ []) 12 (some (A ∷ G ∷ G ∷ [])) 12 1 true
    ∷ line two_ways (C ∷ T ∷ A ∷ []) (A ∷ G ∷ G ∷ []) 15 (some (A ∷ G ∷ G ∷ [])) 12 1 true
    ∷ line two_ways (C ∷ T ∷ A ∷ []) (A ∷ G ∷ G ∷ []) 16 (some (A ∷ G ∷ G ∷ [])) 16 2 true
    ∷ line two_ways (C ∷ T ∷ A ∷ []) (A ∷ G ∷ G ∷ []) 27 (some (A ∷ G ∷ G ∷ [])) 24 2 true
    ∷ line two_ways (C ∷ T ∷ A ∷ []) (A ∷ G ∷ G ∷ []) 28 (some (G ∷ G ∷ [])) 28 2 false
    ∷ line two_ways (C ∷ T ∷ A ∷ []) (A ∷ G ∷ G ∷ []) 1000 (some (G ∷ G ∷ [])) 28 2 false
    -- C before T: CGGAT and not TAGAT, which has 5 moves too.
    ∷ line cees_first (A ∷ G ∷ C ∷ []) (G ∷ A ∷ T ∷ []) 1000 (some (C ∷ G ∷ G ∷ A ∷ T ∷ [])) 84 5 false
    -- T before G: TCTC and not GCTC, found in the round of 4 moves.
    ∷ line tees_first (T ∷ G ∷ A ∷ []) (C ∷ T ∷ C ∷ []) 67 none 64 1 true
    ∷ line tees_first (T ∷ G ∷ A ∷ []) (C ∷ T ∷ C ∷ []) 68 (some (T ∷ C ∷ A ∷ T ∷ C ∷ A ∷ T ∷ C ∷ A ∷ T ∷ C ∷ A ∷ T ∷ C ∷ T ∷ C ∷ [])) 68 1 true
    ∷ line tees_first (T ∷ G ∷ A ∷ []) (C ∷ T ∷ C ∷ []) 71 (some (T ∷ C ∷ A ∷ T ∷ C ∷ A ∷ T ∷ C ∷ A ∷ T ∷ C ∷ A ∷ T ∷ C ∷ T ∷ C ∷ [])) 68 1 true
    ∷ line tees_first (T ∷ G ∷ A ∷ []) (C ∷ T ∷ C ∷ []) 72 (some (T ∷ C ∷ A ∷ T ∷ C ∷ A ∷ T ∷ C ∷ A ∷ T ∷ C ∷ A ∷ T ∷ C ∷ T ∷ C ∷ [])) 72 2 true
    ∷ line tees_first (T ∷ G ∷ A ∷ []) (C ∷ T ∷ C ∷ []) 131 (some (T ∷ C ∷ A ∷ T ∷ C ∷ A ∷ T ∷ C ∷ A ∷ T ∷ C ∷ A ∷ T ∷ C ∷ T ∷ C ∷ [])) 128 4 true
    ∷ line tees_first (T ∷ G ∷ A ∷ []) (C ∷ T ∷ C ∷ []) 132 (some (T ∷ C ∷ T ∷ C ∷ [])) 132 4 false
    ∷ line tees_first (T ∷ G ∷ A ∷ []) (C ∷ T ∷ C ∷ []) 1000 (some (T ∷ C ∷ T ∷ C ∷ [])) 132 4 false
    ∷ []
