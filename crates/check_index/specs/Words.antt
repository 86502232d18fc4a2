-- The words of an offered index.
use Rattle.std.specs.Prelude.{ℕ, Bool, List, eqb, get_or}
use Rattle.rules.specs.Set.{KmerSet, entry_in}
use Rattle.rules.specs.Index.{index_list}

-- Word v of an offered index's blocks, check words not counted, is that of the set's list, zero behind its end.
abbrev pub word_right : KmerSet → List ℕ → ℕ → Bool
word_right set index v = eqb (entry_in index v) (get_or (index_list set) v 0)
