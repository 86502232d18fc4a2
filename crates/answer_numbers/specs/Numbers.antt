-- What a host is told: a call's answer as numbers in a lent slice.
use Rattle.std.specs.Prelude.{ℕ, ◌≡◌, List, [], ◌∷◌, ◌++◌, length, get_or, take, drop, Result, Ok, Err}
use Rattle.std.proofs.Math.Option.{Option, none, some}
use Rattle.rules.specs.Refusal.{Refusal, Outcome, accepted, refused, Check}
use Rattle.rules.specs.Report.{Report}
use Rattle.rules.specs.Set.{KmerSet, header_k, header_n, set_of, opened}
use Rattle.rules.specs.Solid.{Solids}
use Rattle.rules_needs.specs.Needs.{Needs}
use Rattle.refusal.specs.declared.Refusal.{Refusal as Reason}
use Rattle.refusal.specs.Refusal.{refusal_of}

-- A support: supported (1 or 0), and the smallest count, 0 where there is none; then other numbers.
abbrev pub support_numbers : Option ℕ → List ℕ → List ℕ
support_numbers none ns = 0 ∷ 0 ∷ ns
support_numbers (some v) ns = 1 ∷ v ∷ ns

-- A call: the refusal's number (0: accepted), its place, then written, turns, lookups, attempts, accepted, yield, supported, support, quotient,
-- remainder, bases. What does not apply is 0.
unfoldable pub numbers_of : Outcome Report → List ℕ
numbers_of (accepted r) =
    0 ∷ 0 ∷ r.written ∷ r.turns ∷ r.lookups ∷ r.attempts ∷ r.accepted ∷ r.yield
    ∷ support_numbers r.support (r.quotient ∷ r.remainder ∷ r.bases ∷ [])
numbers_of (refused r) = r.number ∷ r.place ∷ 0 ∷ 0 ∷ 0 ∷ 0 ∷ 0 ∷ 0 ∷ 0 ∷ 0 ∷ 0 ∷ 0 ∷ 0 ∷ []

-- Where a call answers two numbers: of its refusal, number and place.
abbrev pub refused_numbers : Refusal → List ℕ
refused_numbers r = r.number ∷ r.place ∷ 0 ∷ 0 ∷ []

-- Opening: the refusal's number (0: none), its place, k, n.
unfoldable pub open_numbers : Outcome KmerSet → List ℕ
open_numbers (accepted set) = 0 ∷ 0 ∷ set.k ∷ length set.keys ∷ []
open_numbers (refused r) = refused_numbers r

-- The bytes open so: with the header's k and n, or with the refusal.
abbrev pub OpensWith : List ℕ → Result (ℕ × ℕ) Reason → Type 0
OpensWith bytes (Ok h) = (opened bytes ≡ accepted (set_of bytes)) × (h.0 ≡ header_k bytes) × (h.1 ≡ header_n bytes)
OpensWith bytes (Err r) = opened bytes ≡ refused (refusal_of r)

-- What opening answered, told as the rules' numbers: of any bytes that open so.
abbrev pub OpenNumbers : Result (ℕ × ℕ) Reason → List ℕ → Type 0
OpenNumbers o ns = (bytes : List ℕ) → OpensWith bytes o → ns ≡ open_numbers (opened bytes)

-- Counting: the refusal's number (0: none), its place, the read's k-mers, the solid ones among them.
unfoldable pub solid_numbers : Outcome Solids → List ℕ
solid_numbers (accepted count) = 0 ∷ 0 ∷ count.kmers ∷ count.solid ∷ []
solid_numbers (refused r) = refused_numbers r

-- A maker of blocks: the refusal's number (0: none), its place, the length of the blocks in bytes.
unfoldable pub made_numbers : Outcome ℕ → List ℕ
made_numbers (accepted length) = 0 ∷ 0 ∷ length ∷ []
made_numbers (refused r) = r.number ∷ r.place ∷ 0 ∷ []

-- What a job needs: the refusal's number (0: none), its place, bytes, turns, lookups.
unfoldable pub needs_numbers : Outcome Needs → List ℕ
needs_numbers (accepted n) = 0 ∷ 0 ∷ n.bytes ∷ n.turns ∷ n.lookups ∷ []
needs_numbers (refused r) = r.number ∷ r.place ∷ 0 ∷ 0 ∷ 0 ∷ []

-- A call that only checks: the refusal's number (0: none), its place.
unfoldable pub check_numbers : Check → List ℕ
check_numbers none = 0 ∷ 0 ∷ []
check_numbers (some r) = r.number ∷ r.place ∷ []

-- As many of the numbers as there is room for, from the start; the rest stays as it was.
unfoldable pub laid : List ℕ → List ℕ → List ℕ
laid numbers old = take (length old) numbers ++ drop (length numbers) old

-- The first number r is returned; the answer slice, old at entry, is new.
pub record Told (numbers old : List ℕ) (r : ℕ) (new : List ℕ) : Type 0 where
  pub returned : r ≡ get_or numbers 0 0
  pub answer : new ≡ laid numbers old
