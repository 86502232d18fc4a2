-- Document 02, W12: a table of sheets over the sample's set (k = 3), each judgement's place.
use Rattle.std.specs.Prelude.{ℕ, List, [], ◌∷◌}
use Rattle.std.proofs.Math.Option.{Option, none, some}
use Rattle.rules.specs.Refusal.{Check, at_place}
use Rattle.rules_edits.specs.Edits.{Sheet, sheet}
use Rattle.rules.specs.Samples.{A, C, T, G, N, AACGCCG, AACTCCG}

-- A line of the table: a sheet, and how it is judged.
pub record EditSample : Type 0 where
  pub sheet : Sheet
  pub judged : Check

-- Read, partner's corrected read, the edits' numbers, all letters; and the place of 19, or none where the sheet is accepted.
unfoldable pub line : List ℕ → List ℕ → List ℕ → List ℕ → Option ℕ → EditSample
unfolding at_place
line read mended numbers letters place = record { sheet = sheet read mended numbers letters; judged = at_place 19 place }

-- In AACTCCG every k-mer is solid; here two bases are wrong.
abbrev pub AACGGCG : List ℕ
AACGGCG = A ∷ A ∷ C ∷ G ∷ G ∷ C ∷ G ∷ []

unfoldable pub table : List EditSample
unfolding line
table =
    -- Accepted: T for G; the same where the read has an N there; no edits, also of a read shorter than k; two edits that touch; one that gives
    -- two letters; one that takes X which is another byte and has the same code; an N that no asked k-mer holds.
    line AACGCCG AACTCCG (3 ∷ 1 ∷ 1 ∷ []) (T ∷ []) none
    ∷ line (A ∷ A ∷ C ∷ N ∷ C ∷ C ∷ G ∷ []) AACTCCG (3 ∷ 1 ∷ 1 ∷ []) (T ∷ []) none
    ∷ line AACGCCG AACGCCG [] [] none
    ∷ line [] [] [] [] none
    ∷ line (N ∷ []) (N ∷ []) [] [] none
    ∷ line AACGGCG AACTCCG (3 ∷ 1 ∷ 1 ∷ 4 ∷ 1 ∷ 1 ∷ []) (T ∷ C ∷ []) none
    ∷ line (A ∷ A ∷ C ∷ C ∷ G ∷ []) AACTCCG (3 ∷ 0 ∷ 2 ∷ []) (T ∷ C ∷ []) none
    ∷ line (A ∷ A ∷ C ∷ G ∷ G ∷ C ∷ C ∷ G ∷ []) AACTCCG (3 ∷ 2 ∷ 1 ∷ []) (T ∷ []) none
    ∷ line AACTCCG AACTCCG (4 ∷ 0 ∷ 0 ∷ []) [] none
    ∷ line (A ∷ A ∷ C ∷ G ∷ G ∷ T ∷ C ∷ C ∷ G ∷ []) AACTCCG (3 ∷ 1 ∷ 0 ∷ 4 ∷ 1 ∷ 0 ∷ []) [] none
    ∷ line (A ∷ A ∷ C ∷ T ∷ C ∷ G ∷ G ∷ []) AACTCCG (5 ∷ 1 ∷ 1 ∷ []) (C ∷ []) none
    ∷ line AACGCCG (A ∷ A ∷ C ∷ 116 ∷ C ∷ C ∷ G ∷ []) (3 ∷ 1 ∷ 1 ∷ []) (116 ∷ []) none
    ∷ line (A ∷ A ∷ C ∷ G ∷ C ∷ N ∷ G ∷ []) (A ∷ A ∷ C ∷ T ∷ C ∷ N ∷ G ∷ []) (3 ∷ 1 ∷ 1 ∷ []) (T ∷ []) none
    -- First judgement. An edit of fewer than three numbers, alone or behind a whole one.
    ∷ line AACTCCG AACTCCG (4 ∷ []) [] (some 0)
    ∷ line AACTCCG AACTCCG (4 ∷ 0 ∷ []) [] (some 0)
    ∷ line AACGCCG AACTCCG (3 ∷ 1 ∷ 1 ∷ 5 ∷ []) (T ∷ []) (some 1)
    ∷ line AACGCCG AACTCCG (3 ∷ 1 ∷ 1 ∷ 5 ∷ 0 ∷ []) (T ∷ []) (some 1)
    -- Position below k.
    ∷ line AACGCCG AACTCCG (2 ∷ 2 ∷ 2 ∷ []) (C ∷ T ∷ []) (some 0)
    -- Position plus bases taken above the read's length less 1: the last base is not taken. Behind it nothing can stand.
    ∷ line AACGCCG (A ∷ A ∷ C ∷ T ∷ C ∷ C ∷ []) (3 ∷ 1 ∷ 1 ∷ 6 ∷ 1 ∷ 0 ∷ []) (T ∷ []) (some 1)
    ∷ line AACGCCG AACGCCG (7 ∷ 0 ∷ 0 ∷ []) [] (some 0)
    ∷ line [] [] (3 ∷ 0 ∷ 0 ∷ []) [] (some 0)
    -- Sums are of whole numbers: 2^64 + 3 is not 3.
    ∷ line AACGCCG AACTCCG (3 ∷ 18446744073709551615 ∷ 1 ∷ []) (T ∷ []) (some 0)
    ∷ line AACGCCG AACTCCG (18446744073709551615 ∷ 4 ∷ 1 ∷ []) (T ∷ []) (some 0)
    ∷ line AACGGCG AACTCCG (3 ∷ 1 ∷ 1 ∷ 4 ∷ 1 ∷ 18446744073709551615 ∷ []) (A ∷ []) (some 1)
    -- Letters past the list's end, by one edit or by two together.
    ∷ line AACGCCG AACTCCG (3 ∷ 1 ∷ 2 ∷ []) (T ∷ []) (some 0)
    ∷ line AACGGCG AACTCCG (3 ∷ 1 ∷ 1 ∷ 4 ∷ 1 ∷ 2 ∷ []) (T ∷ C ∷ []) (some 1)
    -- Of two edits that don't strictly rise the later offends, also where nothing is taken.
    ∷ line AACTCCG AACTCCG (4 ∷ 0 ∷ 0 ∷ 4 ∷ 0 ∷ 0 ∷ []) [] (some 1)
    ∷ line AACGGCG AACTCCG (4 ∷ 1 ∷ 1 ∷ 3 ∷ 1 ∷ 1 ∷ []) (C ∷ T ∷ []) (some 1)
    -- Of two that overlap, the later.
    ∷ line AACGGCG AACTCCG (3 ∷ 2 ∷ 1 ∷ 4 ∷ 1 ∷ 1 ∷ []) (T ∷ C ∷ []) (some 1)
    -- Second judgement. Not solid: ACG before the edit; ACA, ended by its letter; CTG after it; ACN by an N; CTN, an N after it.
    ∷ line AACGCCG AACGCCG (4 ∷ 1 ∷ 1 ∷ []) (C ∷ []) (some 0)
    ∷ line AACGCCG (A ∷ A ∷ C ∷ A ∷ C ∷ C ∷ G ∷ []) (3 ∷ 1 ∷ 1 ∷ []) (A ∷ []) (some 0)
    ∷ line AACGGCG (A ∷ A ∷ C ∷ T ∷ G ∷ C ∷ G ∷ []) (3 ∷ 1 ∷ 1 ∷ []) (T ∷ []) (some 0)
    ∷ line AACGCCG (A ∷ A ∷ C ∷ N ∷ C ∷ C ∷ G ∷ []) (3 ∷ 1 ∷ 1 ∷ []) (N ∷ []) (some 0)
    ∷ line (A ∷ A ∷ C ∷ G ∷ N ∷ C ∷ G ∷ []) (A ∷ A ∷ C ∷ T ∷ N ∷ C ∷ G ∷ []) (3 ∷ 1 ∷ 1 ∷ []) (T ∷ []) (some 0)
    -- One of them alone: TAA before the edit; TCT, ended by its letter. (CTG above is the one after alone.)
    ∷ line (T ∷ A ∷ A ∷ G ∷ T ∷ C ∷ C ∷ G ∷ []) (T ∷ A ∷ A ∷ C ∷ T ∷ C ∷ C ∷ G ∷ []) (3 ∷ 1 ∷ 1 ∷ []) (C ∷ []) (some 0)
    ∷ line (A ∷ A ∷ C ∷ T ∷ C ∷ G ∷ C ∷ C ∷ G ∷ []) (A ∷ A ∷ C ∷ T ∷ C ∷ T ∷ C ∷ C ∷ G ∷ []) (5 ∷ 1 ∷ 1 ∷ []) (T ∷ []) (some 0)
    -- NAC before the edit is not solid, though its code is that of AAC, which is.
    ∷ line (N ∷ A ∷ C ∷ G ∷ C ∷ C ∷ G ∷ []) (N ∷ A ∷ C ∷ T ∷ C ∷ C ∷ G ∷ []) (3 ∷ 1 ∷ 1 ∷ []) (T ∷ []) (some 0)
    -- The base after an edit is the next edit's letter, or the one before the next edit, or the one after it too: CTA, CTG, ACA offend for the
    -- first of the two. Two bases on it offends for the second.
    ∷ line AACGGCG (A ∷ A ∷ C ∷ T ∷ A ∷ C ∷ G ∷ []) (3 ∷ 1 ∷ 1 ∷ 4 ∷ 1 ∷ 1 ∷ []) (T ∷ A ∷ []) (some 0)
    ∷ line AACGGCG (A ∷ A ∷ C ∷ T ∷ G ∷ C ∷ G ∷ []) (3 ∷ 1 ∷ 1 ∷ 5 ∷ 0 ∷ 0 ∷ []) (T ∷ []) (some 0)
    ∷ line (A ∷ A ∷ C ∷ G ∷ G ∷ A ∷ C ∷ C ∷ G ∷ []) (A ∷ A ∷ C ∷ A ∷ C ∷ C ∷ G ∷ []) (3 ∷ 1 ∷ 0 ∷ 4 ∷ 1 ∷ 0 ∷ []) [] (some 0)
    ∷ line (A ∷ A ∷ C ∷ G ∷ C ∷ G ∷ G ∷ []) (A ∷ A ∷ C ∷ T ∷ C ∷ A ∷ G ∷ []) (3 ∷ 1 ∷ 1 ∷ 5 ∷ 1 ∷ 1 ∷ []) (T ∷ A ∷ []) (some 1)
    -- The first judgement goes over all edits before the second: the first edit's k-mer is not solid, the second edit has two numbers, or
    -- takes the last base.
    ∷ line AACGCCG AACTCCG (4 ∷ 1 ∷ 1 ∷ 5 ∷ 0 ∷ []) (C ∷ []) (some 1)
    ∷ line AACGCCG (A ∷ A ∷ C ∷ G ∷ C ∷ C ∷ []) (4 ∷ 1 ∷ 1 ∷ 6 ∷ 1 ∷ 0 ∷ []) (C ∷ []) (some 1)
    -- Third judgement: the joining differs, by a base, by its end on either side, by its case, by letters left over; the number of edits is the
    -- place. In the first the k-mers of the partner's read are not solid: those of the read with all edits made are asked.
    ∷ line AACGCCG AACGCCG (3 ∷ 1 ∷ 1 ∷ []) (T ∷ []) (some 1)
    ∷ line AACGCCG (A ∷ A ∷ C ∷ T ∷ C ∷ C ∷ []) (3 ∷ 1 ∷ 1 ∷ []) (T ∷ []) (some 1)
    ∷ line AACGCCG (A ∷ A ∷ C ∷ T ∷ C ∷ C ∷ G ∷ G ∷ []) (3 ∷ 1 ∷ 1 ∷ []) (T ∷ []) (some 1)
    ∷ line AACGCCG AACTCCG (3 ∷ 1 ∷ 1 ∷ []) (116 ∷ []) (some 1)
    ∷ line AACGCCG AACTCCG (3 ∷ 1 ∷ 1 ∷ []) (T ∷ C ∷ []) (some 1)
    ∷ line AACTCCG AACGCCG [] [] (some 0)
    -- The second judgement before the third: both fail.
    ∷ line AACGGCG AACTCCG (3 ∷ 1 ∷ 1 ∷ []) (T ∷ A ∷ []) (some 0)
    ∷ []
