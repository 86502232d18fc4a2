use Prim.Native.Nat.{ℕ, ◌≤◌}
use mathlib.Core.Path.{◌≡◌, refl, sym, ap, ◌∙◌, subst}
use mathlib.Core.List.{List}
use native.Mathlib.Omega.{arith}
use lib.ListN.{length, take}
use lib.Seq.{length-take-le}
use Rattle.rules.specs.Job.{pass}
use Rattle.entries.specs.Entries.{entry_of}
use Rattle.set.proofs.Opened.{opened-k-low}
use Rattle.turn.specs.declared.Place.{Place}
use Rattle.turn.specs.Turn.{Countable, offered}
use Rattle.std.specs.Prelude.{Result, Ok, Err}
use Rattle.turn.specs.declared.Counts.{Counts}
use Rattle.turn.specs.declared.Full.{Full}
use Rattle.correct.specs.Pass.{Tally, one_pass}
use Rattle.correct.specs.Drive.{DriveIs}
use Rattle.correct.proofs.Limits.{Limited, pass-limited}
use Rattle.correct.proofs.Passes.{countable, one-pass-small, pass-short, pass-begun, tally-begun, begun-stands}
use Rattle.count.specs.Count.{CountIs, Counted}
use Rattle.count.proofs.count.Goals.{After-begin-first, Start}
use Rattle.count.proofs.count.Goals as goal

-- The pass, and what it can count.
abbrev passed : Start → Tally
passed c = (let a = c.args in one_pass (offered a.set.now) (entry_of a.entry) a.read.now)

limited : (c : Start) → (let a = c.args in Limited (length a.read.now) (pass (offered a.set.now) (entry_of a.entry) a.read.now))
limited c =
    let a = c.args in
    pass-limited a.set.now a.entry (omega (arith, c.well_formed)) a.read.now

counted : (c : Start) (r : Result Counts Full) → CountIs (length c.args.read.now) (length c.args.spare.now) (passed c) r
    → Counted (length c.args.read.now) (length c.args.spare.now) (passed c) r
unfolding one_pass
counted c r h =
    let a = c.args in
    record {
      is = h;
      bytes = (limited c).bytes;
      small = one-pass-small a.set.now a.entry a.read.now c.requires (limited c);
    }

pub returns-then-read-set : goal.returns-then-read-set
returns-then-read-set c =
    let a = c.args in
    counted (goal.at.returns-then-read-set c).Start _
    (rw (c.unchanged.ensures, pass-short a.set.now a.entry a.read.now c.if-read-set.true)
    (record { bytes = refl; turns = refl; lookups = refl; attempts = refl; accepted = refl; support = refl; bases = refl }))

-- The first k-mer counts as put out.
first-many : (c : After-begin-first) → (let a = c.args in length (take a.set.now.head.k a.read.now) ≡ c.begin-first.result.done.written)
first-many c =
    let a = c.args in
    length-take-le a.set.now.head.k a.read.now c.if-read-set.false ∙ sym (ap (λ (p : Place). p.done.written) c.begin-first.ensures.is)

-- Nothing is kept: the first k-mer has a letter.
none_kept : (c : After-begin-first) {A : Type 0} → c.begin-first.result.done.written ≤ 0 → A
none_kept c e =
    absurd (omega (arith, e, ap (λ (p : Place). p.done.written) c.begin-first.ensures.is, opened-k-low _ c.args.set.now.ready.table.opens, c.args.set.now.ready.k_is))

pub turns_of-requires : goal.turns_of-requires
turns_of-requires c =
    let a = c.args in
    let le = c.if-read-set.false in
    record {
      long = le;
      stands = begun-stands a.set.now a.entry a.read.now c.begin-first.ensures le;
      put = take a.set.now.head.k a.read.now;
      many = first-many (goal.at.turns_of-requires c).After-begin-first;
      here = none_kept (goal.at.turns_of-requires c).After-begin-first;
      countable = subst Countable (sym (pass-begun a.set.now a.entry a.read.now c.begin-first.ensures le))
          (countable _ _ c.requires (limited (goal.at.turns_of-requires c).Start));
      room = omega arith;
    }

-- the answer of a pass whose bytes are counted
counted-pass : (read out out' : List ℕ) (n : Tally) (r : Result Counts Full) → DriveIs 0 read out out' n r → CountIs (length read) (length out) n r
counted-pass read out out' n (Ok r) h = h.0
counted-pass read out out' n (Err full) h = omega (arith, h.1)

pub returns : goal.returns
returns c =
    let a = c.args in
    let begun = tally-begun a.set.now a.entry a.read.now c.begin-first.ensures c.if-read-set.false in
    counted (goal.at.returns c).Start _
    (subst (λ (n : Tally). CountIs (length a.read.now) (length a.spare.now) n c.turns_of.result) begun
    (counted-pass a.read.now a.spare.now _ _ c.turns_of.result (c.turns_of.ensures (take a.set.now.head.k a.read.now) (first-many (goal.at.returns c).After-begin-first) (none_kept (goal.at.returns c).After-begin-first))))
