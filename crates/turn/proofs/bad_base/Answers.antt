use Prim.Native.Nat.{◌+◌, ◌<◌, ◌^◌}
use native.Mathlib.Omega.{arith}
use mathlib.Core.Path.{◌∙◌, subst}
use mathlib.Core.Bool.{false}
use mathlib.Core.List.{[]}
use Rattle.scan.specs.declared.Attempt.{Attempt}
use Rattle.scan.specs.declared.Attempt.TheVariants.{Mend, Refused}
use Rattle.set.proofs.Counted.{with-solid}
use Rattle.turn.specs.Turn.{Fits, mended_by}
use Rattle.turn.proofs.Parts.{tail-part}
use Rattle.turn.proofs.Turns.{rest-is, kept-lookups, keep-fits, kept-went, Tried, refused-keep, mended_fits, mended-is, no_room_lem, short}
use Rattle.turn.proofs.bad_base.Goals.{After-correct_error, In-Mend, In-Refused}
use Rattle.turn.proofs.bad_base.Goals as goal

-- What is said of an attempt that left what correct_error did, told of the whole read.
abbrev Told : After-correct_error → Attempt → Type 0
Told c = Tried c.requires.turning [] _ _ c.requires.bad_at c.args.out.now c.correct_error.new.out

tried : (c : After-correct_error) → Told c c.correct_error.result
tried c =
    let a = c.args in
    let set = a.set.now in
    rw (tail-part a.read.now a.p.at ∙ rest-is c.requires.turning [], ← (with-solid set.bytes.now set.counts.now)) at c.correct_error.ensures

mended : (c : In-Mend) → let m = c.in-Mend in Told (goal.at.In-Mend c).After-correct_error (Mend m.letters m.resume m.lookups m.support m.kmer)
mended c = subst (Told (goal.at.In-Mend c).After-correct_error) c.in-Mend.is (tried (goal.at.In-Mend c).After-correct_error)

refused : (c : In-Refused) → Told (goal.at.In-Refused c).After-correct_error (Refused c.in-Refused.lookups)
refused c = subst (Told (goal.at.In-Refused c).After-correct_error) c.in-Refused.is (tried (goal.at.In-Refused c).After-correct_error)

mend-fits : (c : In-Mend) → Fits c.args.p.done (mended_by c.in-Mend.letters (c.args.asked + c.in-Mend.lookups) c.in-Mend.support)
mend-fits c =
    let t = c.requires.turning in
    mended_fits t t.put _ _ c.requires.bad_at _ _ _ _ _ _ _ (mended c) t.many t.countable (omega (arith, c.well_formed))

pub overflow_add-asked : goal.overflow_add-asked
overflow_add-asked c = omega (arith, (mend-fits (goal.at.overflow_add-asked c).In-Mend).lookups)

pub mend-requires : goal.mend-requires
mend-requires c = (c.requires.turning.stands.at, mend-fits (goal.at.mend-requires c).In-Mend)

-- the lookups so far, with those of the whole turn
few : (c : In-Refused) → c.args.p.done.lookups + (c.args.asked + c.in-Refused.lookups) < 2 ^ 63
few c =
    let t = c.requires.turning in
    kept-lookups t t.put t.many t.countable (omega (arith, c.well_formed)) false 1 _ (refused-keep t t.put _ _ c.requires.bad_at _ _ _ (refused c))

pub overflow_add-asked-in-Refused : goal.overflow_add-asked-in-Refused
overflow_add-asked-in-Refused c = omega (arith, few (goal.at.overflow_add-asked-in-Refused c).In-Refused)

pub keep-requires : goal.keep-requires
keep-requires c =
    let t = c.requires.turning in
    let at = (goal.at.keep-requires c).In-Refused in
    let e = refused-keep t t.put _ _ c.requires.bad_at _ _ _ (refused at) in
    (omega (arith, c.well_formed, t.more), keep-fits t t.put t.many t.countable (omega (arith, c.well_formed)) false 1 _ e _ (omega (arith, few at)))

pub returns-in-Mend : goal.returns-in-Mend
returns-in-Mend c =
    let t = c.requires.turning in
    let m = mended (goal.at.returns-in-Mend c).In-Mend in
    let d = c.mend.ensures in (
      λ put. mended-is t put _ _ c.requires.bad_at _ _ _ _ _ _ _ m c.mend.result d,
      record { kmer = rw d.is m.is.0.placed.kmer; at = rw d.is (omega arith) },
    )

pub returns-in-Refused : goal.returns-in-Refused
returns-in-Refused c =
    let t = c.requires.turning in
    let e = c.keep.ensures in
    let r = refused (goal.at.returns-in-Refused c).In-Refused in (
      λ put. rw e.1
          (kept-went t put _ false 1 _ c.correct_error.new.out c.keep.result c.requires.bad_at.kmer (refused-keep t put _ _ c.requires.bad_at _ _ _ r) e.0),
      record { kmer = rw e.0.is c.requires.bad_at.kmer.kmer; at = rw e.0.is (omega (arith, t.more)) },
    )

pub returns-in-Full : goal.returns-in-Full
returns-in-Full c =
    let t = c.requires.turning in
    let at = (goal.at.returns-in-Full c).After-correct_error in
    let full = subst (Told at) c.in-Full.is (tried at) in
    (λ put. no_room_lem t put _ _ c.requires.bad_at _ _ full, short t [] _ _ c.requires.bad_at _ _ full)
