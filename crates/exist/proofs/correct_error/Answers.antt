use Prim.Native.Nat.{◌+◌, ◌≤◌}
use native.Mathlib.Omega.{arith}
use mathlib.Core.Path.{◌≡◌, sym, ap, ◌∙◌, subst}
use lib.ListN.{length, take}
use Rattle.std.specs.Prelude.{Some}
use Rattle.rules.specs.Set.{solid, set_of}
use Rattle.rules.specs.Counted.{Try, after}
use Rattle.rules.specs.Exist.{Mend, exist}
use Rattle.kmer.specs.Kmer.{kmer_of}
use Rattle.set.proofs.Counted.{with-count}
use Rattle.scenario.specs.Scenario.{of_code, spelled_out}
use Rattle.exist.specs.Exist.{MendIs}
use Rattle.successors.proofs.Laws.{alternative-few}
use Rattle.exist.proofs.Attempts.{exist-none, exist-answer, exist-lookups, refused, mended}
use Rattle.exist.proofs.correct_error.Given.{Over}
use Rattle.exist.proofs.correct_error.Goals.{After-choose-choice, In-Some, Joined-mend-out, Start, then-mend-out, else-mend-out}
use Rattle.exist.proofs.correct_error.Goals as goal

abbrev attempt : (g : Over) → Start g → Try Mend
attempt g c =
    let a = c.args in
    let sol = solid (set_of a.set.now.bytes.now) in
    after a.made (exist a.set.now.head.k sol a.c a.s.now (g.S.Scenario.scenarios a.set.now.head.k sol) (kmer_of a.kmer))

-- what was chosen, and what it cost, said of the attempt
picked : (g : Over) (c : After-choose-choice g)
    → MendIs (set_of c.args.set.now.bytes.now) (attempt g (goal.at.After-choose-choice g c).Start).answer c.choose-choice.result.answer
picked g c =
    rw (exist-answer _ _ _ _ _ _ _ c.in-Ok.ensures.0 c.get_scenarii-scenarii.result c.get_scenarii-scenarii.ensures)
    (rw c.as_slice.ensures at c.choose-choice.ensures.mend)

paid : (g : Over) (c : After-choose-choice g)
    → (attempt g (goal.at.After-choose-choice g c).Start).lookups ≡ c.args.made + 4 + c.get_scenarii-scenarii.result.lookups + c.choose-choice.result.lookups
paid g c =
    exist-lookups _ _ _ _ _ _ _ c.in-Ok.ensures.0 c.get_scenarii-scenarii.result c.get_scenarii-scenarii.ensures
    (rw c.as_slice.ensures at c.choose-choice.ensures.lookups)

used : (g : Over) (c : In-Some g)
    → MendIs (set_of c.args.set.now.bytes.now) (attempt g (goal.at.In-Some g c).Start).answer (Some c.in-Some.mend)
used g c = subst (MendIs _ _) c.in-Some.is (picked g (goal.at.In-Some g c).After-choose-choice)

pub overflow_add-result : goal.overflow_add-result
overflow_add-result g c = omega (arith, c.requires.2, alternative-few _ _ _ c.in-Err.ensures)

pub returns-in-Err : goal.returns-in-Err
returns-in-Err g c =
    let e = exist-none _ _ _ _ _ _ _ c.in-Err.ensures in
    refused (ap (λ (t : Try Mend). t.answer) e) (ap (λ (t : Try Mend). t.lookups) e)

pub returns-in_default : goal.returns-in_default
returns-in_default g c =
    refused (subst (MendIs _ _) c.in_default.is (picked g (goal.at.returns-in_default g c).After-choose-choice))
    (paid g (goal.at.returns-in_default g c).After-choose-choice)

-- The letters stand in the output if it has room for them.
written : (g : Over) (c : Joined-mend-out g)
    → let mend = c.in-Some.mend in
    (mend.letters ≤ length c.if-mend-out.out → take mend.letters c.if-mend-out.out ≡ (spelled_out mend).letters)
    × (length c.if-mend-out.out ≡ length c.args.out.now)
written g c =
    elim c.if-mend-out.branch [
      | then-mend-out v ↦ (λ le. rw v.out-is v.write.ensures.0, rw v.out-is v.write.ensures.1)
      | else-mend-out v ↦ (λ le. absurd (omega (arith, le, v.if-mend-out.false, ap length v.out-is)), ap length v.out-is)
    ]

pub shape_of-out : goal.shape_of-out
shape_of-out g c = (written g (goal.at.shape_of-out g c).Joined-mend-out).1

pub returns : goal.returns
returns g c =
    let mend = c.in-Some.mend in
    let set = c.args.set.now in
    let at = goal.at.returns g c in
    let chosen = used g at.In-Some in
    let out = written g at.Joined-mend-out in
    let count = with-count set.bytes.now set.counts.now (of_code mend.tried) mend.place chosen.1 ∙ sym c.count_at-support.ensures in
    mended mend chosen.0 (paid g at.After-choose-choice) out.0 out.1 count c.in_place-placed.ensures
