use Prim.Native.Nat.{ℕ, ◌+◌, ◌<◌, ◌^◌}
use native.Mathlib.Omega.{arith}
use borrow.Author.Tests.{not-true, not-false}
use mathlib.Core.Path.{◌≡◌, sym, ◌∙◌}
use mathlib.Core.Bool.{true, false}
use mathlib.Core.List.{List}
use lib.ListN.{get_or, drop}
use Rattle.rules.specs.Letters.{add_base}
use Rattle.rules.specs.Set.{solid}
use Rattle.rules.specs.Scan.{ask}
use Rattle.rules.specs.Driver.{keep_base}
use Rattle.kmer.specs.Kmer.{kmer_of}
use Rattle.set.specs.Asked.{AskedIs}
use Rattle.set.proofs.Counted.{with-solid}
use Rattle.turn.specs.Turn.{offered, state_of, turn_of}
use Rattle.turn.proofs.Turns.{solid-turn, quiet-turn, kept-lookups, keep-fits, kept-went}
use Rattle.turn.proofs.turn.Goals.{After-ask-asked, Then-asked, Then-not-p}
use Rattle.turn.proofs.turn.Goals as goal

-- The next k-mer asked.
answer : (c : After-ask-asked)
    → let a = c.args in
    AskedIs (ask (solid (offered a.set.now)) (add_base a.set.now.head.k (kmer_of a.p.kmer) (get_or a.read.now a.p.at 0))) c.ask-asked.result
answer c =
    let set = c.args.set.now in
    rw (with-solid set.bytes.now set.counts.now, ← c.add_base-next.ensures.is) c.ask-asked.ensures

-- a solid k-mer's base
solid-kept : (c : Then-asked) (put : List ℕ)
    → let a = c.args in
    let st = state_of a.p a.read.now put in
    let b = get_or a.read.now a.p.at 0 in
    let rest = drop (a.p.at + 1) a.read.now in
    turn_of a.set.now a.entry st b rest ≡ keep_base st b rest (add_base a.set.now.head.k (kmer_of a.p.kmer) b) true 0 c.ask-asked.result.lookups
solid-kept c put = solid-turn c.requires put c.ask-asked.result (answer (goal.at.Then-asked c).After-ask-asked) c.if-asked.true

-- the base of a k-mer that is not solid, after one that did not count as solid
quiet-kept : (c : Then-not-p) (put : List ℕ)
    → let a = c.args in
    let st = state_of a.p a.read.now put in
    let b = get_or a.read.now a.p.at 0 in
    let rest = drop (a.p.at + 1) a.read.now in
    turn_of a.set.now a.entry st b rest ≡ keep_base st b rest (add_base a.set.now.head.k (kmer_of a.p.kmer) b) false 0 c.ask-asked.result.lookups
quiet-kept c put =
    quiet-turn c.requires put c.ask-asked.result (answer (goal.at.Then-not-p c).After-ask-asked) c.if-asked.false (not-true _ c.if-not-p.true)

pub keep-requires : goal.keep-requires
keep-requires c =
    let t = c.requires in
    let e = solid-kept (goal.at.keep-requires c).Then-asked t.put in
    let w : c.args.p.done.bases < 2 ^ 64 = omega (arith, c.well_formed) in
    (omega (arith, c.well_formed, t.more), keep-fits t t.put t.many t.countable w true 0 _ e _ (omega (arith, kept-lookups t t.put t.many t.countable w true 0 _ e)))

pub returns-then-asked : goal.returns-then-asked
returns-then-asked c =
    let e = c.keep.ensures in
    let h = c.add_base-next.ensures in (
      λ put. rw e.1 (kept-went c.requires put _ true 0 _ c.args.out.now c.keep.result h (solid-kept (goal.at.returns-then-asked c).Then-asked put) e.0),
      record { kmer = rw e.0.is h.kmer; at = rw e.0.is (omega (arith, c.requires.more)) },
    )

pub keep-requires-then-not-p : goal.keep-requires-then-not-p
keep-requires-then-not-p c =
    let t = c.requires in
    let e = quiet-kept (goal.at.keep-requires-then-not-p c).Then-not-p t.put in
    let w : c.args.p.done.bases < 2 ^ 64 = omega (arith, c.well_formed) in
    (omega (arith, c.well_formed, t.more), keep-fits t t.put t.many t.countable w false 0 _ e _ (omega (arith, kept-lookups t t.put t.many t.countable w false 0 _ e)))

pub returns-then-not-p : goal.returns-then-not-p
returns-then-not-p c =
    let e = c.keep-then-not-p.ensures in
    let h = c.add_base-next.ensures in (
      λ put. rw e.1 (kept-went c.requires put _ false 0 _ c.args.out.now c.keep-then-not-p.result h (quiet-kept (goal.at.returns-then-not-p c).Then-not-p put) e.0),
      record { kmer = rw e.0.is h.kmer; at = rw e.0.is (omega (arith, c.requires.more)) },
    )

pub bad_base-requires : goal.bad_base-requires
bad_base-requires c = record {
  turning = c.requires;
  bad_at = record {
    kmer = c.add_base-next.ensures;
    weak = sym c.ask-asked.ensures.solid ∙ c.if-asked.false;
    cost = c.ask-asked.ensures.lookups;
    previous = not-false _ c.if-not-p.false;
  };
}
