use Rattle.std.proofs.Common.{◌≡◌, ◌+◌, ◌-◌, ◌<◌, ◌∷◌, ◌++◌, length, take, drop, refl, ap, arith, rules, tests}
use lib.ListN.{length-drop}
use lib.Seq.{take_all}
use Rattle.std.specs.List.{AllWithin, HoldsAt}
use Rattle.std.specs.Option.{MatchOption}
use Rattle.std.proofs.lemmas.Iterator.{YieldsList-from_slice, IsFirst-from_position}
use Rattle.rules.specs.Job.{lines}
use Rattle.input.proofs.Batch.{no-line, line-first}
use Rattle.rules.specs.Job.{lines}
use Rattle.input.proofs.BatchLinesIterator.next.Goals.{After-position, In_ok-end}
use Rattle.rules.specs.Job.{lines}
use Rattle.input.proofs.BatchLinesIterator.next.Goals as goal

-- What is known of where the first byte 10 stands.
found : (c : After-position) → let s = c.args.self.now.rest.now in
    MatchOption c.position.result (AllWithin (λ b. b ≡ 10 → ⊥) s 0 (length s)) (λ i. (i < length s) × HoldsAt (λ b. b ≡ 10) s i × AllWithin (λ b. b ≡ 10 → ⊥) s 0 i)
found c =
    IsFirst-from_position _ _ c.position.result (λ b. b ≡ 10) (λ b. b ≡ 10 → ⊥) c.position.ensures.ran (YieldsList-from_slice c.args.self.now.rest.now c.iter.ensures.rest)
    (λ x q k. search (rules, tests)) (λ x q k. search (rules, tests))

pub returns-in_err-end-clause-steps : goal.returns-in_err-end-clause-steps
returns-in_err-end-clause-steps c =
    let f = rw c.in_err-end.was at (found (goal.at.returns-in_err-end-clause-steps c).After-position) in
    rw c.from_residual.ensures (no-line _ (λ k h. f k 0 (omega arith) h), refl)

-- The line comes off with its byte 10.
off : (c : In_ok-end) → let s = c.args.self.now.rest.now in let i = c.in_ok-end.end in let behind = take (length s - (i + 1)) (drop (i + 1) s) in
    (lines s ≡ take i s ∷ lines behind) × (s ≡ take i s ++ (10 ∷ behind))
off c =
    let s = c.args.self.now.rest.now in
    let f = rw c.in_ok-end.was at (found (goal.at.In_ok-end c).After-position) in
    let behind = take_all (length s - (c.in_ok-end.end + 1)) (drop (c.in_ok-end.end + 1) s) (omega (arith, length-drop (c.in_ok-end.end + 1) s)) in
    rw behind (line-first s c.in_ok-end.end f.0 (f.1 0) (λ k h. f.2 k 0 (omega arith) h))

pub returns-clause-steps : goal.returns-clause-steps
returns-clause-steps c = off (goal.at.returns-clause-steps c).In_ok-end

pub returns-clause-goes : goal.returns-clause-goes
returns-clause-goes c = let fewer = ap length (off (goal.at.returns-clause-goes c).In_ok-end).0 in search rules
