-- A batch line by line, counted: what is done and what is left.
use Prim.Native.Nat.{ℕ, ◌+◌, ◌*◌, ◌^◌, ◌≤◌, ◌<◌}
use native.Mathlib.Omega.{arith}
use native.Mathlib.Nat.{mul-le-mul_right}
use mathlib.Core.Path.{◌≡◌, ◌∙◌}
use mathlib.Core.Bool.{true}
use mathlib.Core.List.{List, [], ◌∷◌}
use lib.ListN.{length, length-append}
use Rattle.rules.specs.Set.{KmerSet}
use Rattle.rules.specs.Job.{Entry, entry_at, entry_count, entries_from, entries_of, pass, result, lines}
use Rattle.rules.specs.Counts.{sum, passes_of, all_passes, turns, lookups}
use Rattle.rules.specs.Calls.{max_read, max_lines, batch_right, results, report}
use Rattle.rules_needs.specs.Needs as rules
use Rattle.rules_needs.specs.Needs.{needed_for}
use Rattle.rules_laws.proofs.Calls.{sum_first}
use Rattle.report.proofs.Within.{few-lines}
use Rattle.turn.specs.declared.Counts.{Counts}
use Rattle.std.specs.Prelude.{Ok}
use Rattle.correct.specs.Pass.{one_pass, max_f}
use Rattle.count.specs.Count.{Counted}
use Rattle.needs.specs.declared.Need.{Need}
use Rattle.needs.specs.Needs.{needs_of, plus_line}

-- a job of one entry
pub sole-entry : (job : List ℕ) → entry_count job ≡ 1 → entries_of job ≡ entry_at job 0 ∷ []
unfolding entries_of entries_from
sole-entry job e = rw e

module _ (set : KmerSet) (e : Entry) where
  abbrev need : List (List ℕ) → rules.Needs
  need = needed_for set (e ∷ [])

  -- ---- the first line's share

  module _ (line : List ℕ) (rest : List (List ℕ)) where
    first-bytes : (need (line ∷ rest)).bytes ≡ length (pass set e line).bytes + 1 + (need rest).bytes
    unfolding needed_for report results result
    first-bytes = length-append (pass set e line).bytes (10 ∷ results set (e ∷ []) (10 ∷ []) rest) ∙ omega arith

    first-turns : (need (line ∷ rest)).turns ≡ (pass set e line).turns + (need rest).turns
    unfolding needed_for report sum passes_of turns
    first-turns = sum_first set (e ∷ []) (turns set) line rest ∙ omega arith

    first-lookups : (need (line ∷ rest)).lookups ≡ (pass set e line).lookups + (need rest).lookups
    unfolding needed_for report sum passes_of lookups
    first-lookups = sum_first set (e ∷ []) (lookups set) line rest ∙ omega arith

  none_left : ((need []).bytes ≡ 0) × ((need []).turns ≡ 0) × ((need []).lookups ≡ 0)
  unfolding needed_for report results sum all_passes
  none_left = (omega arith, omega arith, omega arith)

  module _ (batch : List ℕ) where
    -- The lines that are left have so many bytes, with their ends. Each can count so much.
    pub record Going (left : List (List ℕ)) (size : ℕ) (done : Need) : Type 0 where
      pub bytes : done.bytes + (need left).bytes ≡ (need (lines batch)).bytes
      pub turns : done.turns + (need left).turns ≡ (need (lines batch)).turns
      pub lookups : done.lookups + (need left).lookups ≡ (need (lines batch)).lookups
      pub few_bytes : done.bytes + size ≤ length batch + done.lookups
      pub few_turns : done.turns + length left * (2 * max_read) ≤ max_lines * (2 * max_read)
      pub few_lookups : done.lookups + length left * (1 + max_read * max_f) ≤ max_lines * (1 + max_read * max_f)

    pub begin : batch_right batch ≡ true → (done : Need) → (done.bytes ≡ 0) × ((done.turns ≡ 0) × (done.lookups ≡ 0)) → Going (lines batch) (length batch) done
    begin right done zero =
        let few = few-lines batch right in
        record {
          bytes = omega arith;
          turns = omega arith;
          lookups = omega arith;
          few_bytes = omega arith;
          few_turns = omega (arith, mul-le-mul_right (2 * max_read) few);
          few_lookups = omega (arith, mul-le-mul_right (1 + max_read * max_f) few);
        }

    -- A line more.
    pub next : (line : List ℕ) (rest : List (List ℕ)) (size behind : ℕ) (done : Need) (more : Counts) {spare : ℕ} → Going (line ∷ rest) size done → size ≡ length line + (behind + 1)
        → Counted (length line) spare (one_pass set e line) (Ok more) → Going rest behind (plus_line done more)
    unfolding one_pass
    next line rest size behind done more g is c =
        let h = c.is in
        record {
          bytes = omega (arith, g.bytes, first-bytes line rest, h.bytes);
          turns = omega (arith, g.turns, first-turns line rest, h.turns);
          lookups = omega (arith, g.lookups, first-lookups line rest, h.lookups);
          few_bytes = omega (arith, g.few_bytes, c.bytes, h.bytes, h.lookups);
          few_turns = omega (arith, g.few_turns, c.small.turns, h.turns);
          few_lookups = omega (arith, g.few_lookups, c.small.lookups, h.lookups);
        }

    -- No counter wraps.
    pub fits : {left : List (List ℕ)} {size : ℕ} {done : Need} → Going left size done → length batch ≤ max_read
        → (done.bytes < 2 ^ 63) × (done.turns < 2 ^ 63) × (done.lookups < 2 ^ 63)
    fits g h = (omega (arith, g.few_bytes, g.few_lookups), omega (arith, g.few_turns), omega (arith, g.few_lookups))

    pub over : {size : ℕ} {done : Need} → Going [] size done → needs_of done ≡ need (lines batch)
    over {size} {done} g =
        let b : done.bytes ≡ (need (lines batch)).bytes = omega (arith, g.bytes, none_left.0) in
        let t : done.turns ≡ (need (lines batch)).turns = omega (arith, g.turns, none_left.1) in
        let l : done.lookups ≡ (need (lines batch)).lookups = omega (arith, g.lookups, none_left.2) in
        λ i. record { bytes = b i; turns = t i; lookups = l i }
