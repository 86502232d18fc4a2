use Prim.Native.Nat.{ℕ, ◌≤◌, ◌<◌}
use native.Mathlib.Omega.{arith}
use mathlib.Core.Path.{◌≡◌, refl, sym, ap, ◌∙◌, subst}
use mathlib.Core.Bool.{false≢true}
use mathlib.Core.List.{List}
use lib.ListN.{length, take}
use lib.Seq.{length-take-le}
use Rattle.std.specs.Prelude.{Result, Ok, Err, IsErr}
use Rattle.rules.specs.Job.{pass}
use Rattle.entries.specs.Entries.{entry_of}
use Rattle.turn.specs.declared.Counts.{Counts}
use Rattle.turn.specs.declared.Place.{Place}
use Rattle.turn.specs.declared.Full.{Full}
use Rattle.turn.specs.Turn.{offered, state_of, Countable, end_of}
use Rattle.correct.specs.Pass.{Tally, one_pass, PassIs, Passed, Small}
use Rattle.correct.specs.Drive.{DriveIs}
use Rattle.correct.proofs.Reached.{kept-pass}
use Rattle.correct.proofs.Limits.{pass-limited}
use Rattle.correct.proofs.Passes.{countable, one-pass-small, pass-short, pass-long, pass-begun, tally-begun, begun-stands}
use Rattle.correct.proofs.correct.Goals.{After-begin-first, After-copy, After-turns_of, Start}
use Rattle.correct.proofs.correct.Goals as goal

-- The pass.
abbrev passed : Start → Tally
passed c = (let a = c.args in one_pass (offered a.set.now) (entry_of a.entry) a.read.now)

-- Its counts are those of one pass.
one-pass : (c : Start) → Small 1 (passed c)
one-pass c =
    let a = c.args in
    one-pass-small a.set.now a.entry a.read.now c.requires (pass-limited a.set.now a.entry (omega (arith, c.well_formed)) a.read.now)

pub returns-then-read-k : goal.returns-then-read-k
returns-then-read-k c =
    let a = c.args in
    record {
      is = rw (pass-short a.set.now a.entry a.read.now c.if-read-k.true) c.copied.ensures;
      room = c.copied.auto.out;
      small = one-pass (goal.at.returns-then-read-k c).Start;
    }

pub returns-then-room-k : goal.returns-then-room-k
unfolding one_pass
returns-then-room-k c =
    let a = c.args in
    record {
      is = omega (arith, pass-long a.set.now a.entry a.read.now c.if-read-k.false, c.if-room-k.true);
      room = refl;
      small = one-pass (goal.at.returns-then-room-k c).Start;
    }

-- The first k-mer, copied.
first-copied : (c : After-copy) → let k = c.args.set.now.head.k in take k c.copy.new.dst ≡ take k c.args.read.now
first-copied c =
    let a = c.args in
    rw (length-take-le a.set.now.head.k a.read.now c.if-read-k.false) at c.copy.ensures.front

-- The first k-mer counts as put out.
first-put : (c : After-begin-first)
    → let k = c.args.set.now.head.k in
    let written = c.begin-first.result.done.written in
    let out = c.copy.new.dst in
    (length (take k c.args.read.now) ≡ written) × (written ≤ length c.args.out.now → take written out ≡ take k c.args.read.now)
first-put c =
    let a = c.args in
    let k = a.set.now.head.k in
    let is = ap (λ (q : Place). q.done.written) c.begin-first.ensures.is in
    (length-take-le k a.read.now c.if-read-k.false ∙ sym is, λ e. ap (λ (i : ℕ). take i c.copy.new.dst) is ∙ first-copied (goal.at.After-begin-first c).After-copy)

-- The pass from its first place.
begun : (c : After-begin-first)
    → let a = c.args in
    end_of a.set.now a.entry (state_of c.begin-first.result a.read.now (take a.set.now.head.k a.read.now))
    ≡ pass (offered a.set.now) (entry_of a.entry) a.read.now
begun c =
    let a = c.args in
    pass-begun a.set.now a.entry a.read.now c.begin-first.ensures c.if-read-k.false

pub turns_of-requires : goal.turns_of-requires
turns_of-requires c =
    let a = c.args in
    let b = c.begin-first.ensures in
    let at = (goal.at.turns_of-requires c).After-begin-first in
    let put = first-put at in
    record {
      long = c.if-read-k.false;
      stands = begun-stands a.set.now a.entry a.read.now b c.if-read-k.false;
      put = take a.set.now.head.k a.read.now;
      many = put.0;
      here = put.1;
      countable = subst Countable (sym (begun at))
          (countable _ _ c.requires (pass-limited a.set.now a.entry (omega (arith, c.well_formed)) a.read.now));
      room = omega (arith, c.copy.auto.dst);
    }

-- What the turns gave.
abbrev after : After-turns_of → List ℕ
after c = c.turns_of.new.out

same-room : (c : After-turns_of) → length (after c) ≡ length c.args.out.now
same-room c = c.turns_of.auto.out ∙ c.copy.auto.dst

abbrev Gave : After-turns_of → Result Counts Full → Type 0
Gave c = let a = c.args in DriveIs (length a.out.now) a.read.now c.copy.new.dst (after c) (passed (goal.at.After-turns_of c).Start)

gave : (c : After-turns_of) → Gave c c.turns_of.result
gave c =
    let a = c.args in
    let tally = tally-begun a.set.now a.entry a.read.now c.begin-first.ensures c.if-read-k.false in
    let put = first-put (goal.at.After-turns_of c).After-begin-first in
    subst (λ (n : Tally). DriveIs (length a.out.now) a.read.now c.copy.new.dst (after c) n c.turns_of.result) tally
    (c.turns_of.ensures (take a.set.now.head.k a.read.now) put.0 put.1)

-- How the pass ends.
ends : (c : After-turns_of) (r : Result Counts Full)
    → let n = passed (goal.at.After-turns_of c).Start in
    PassIs (length c.args.out.now) (after c) n r → Passed c.args.out.now (after c) n r
ends c r h = record { is = h; room = same-room c; small = one-pass (goal.at.After-turns_of c).Start }

full : (room : ℕ) (out : List ℕ) (n : Tally) (r : Result Counts Full) → IsErr r → room < length n.bytes → PassIs room out n r
full room out n (Err e) is h = h
full room out n (Ok r) is h = absurd (false≢true is)

pub returns-in_err-done : goal.returns-in_err-done
returns-in_err-done c =
    let at = (goal.at.returns-in_err-done c).After-turns_of in
    let short = (subst (Gave at) c.in_err-done.was (gave at)).0 in
    ends at _ (full _ _ _ _ c.from_residual.ensures.0 (omega (arith, short, c.copy.auto.dst)))

pub returns-then-room-done : goal.returns-then-room-done
returns-then-room-done c =
    let at = (goal.at.returns-then-room-done c).After-turns_of in
    ends at _ (omega (arith, (subst (Gave at) c.in_ok-done.was (gave at)).0.bytes, c.if-room-done.true))

pub returns : goal.returns
returns c =
    let at = (goal.at.returns c).After-turns_of in
    let done = subst (Gave at) c.in_ok-done.was (gave at) in
    let fits = c.if-room-done.false in
    ends at _ (kept-pass (after at) _ _ done.0 (done.1 fits), omega (arith, fits, same-room at))
