use Rattle.std.proofs.Common.{◌≡◌, Some}
use mathlib.Core.Path.{subst}
use Rattle.std.proofs.lemmas.Result.{err_from_is_err_and}
use Rattle.rules.specs.Set.{set_of}
use Rattle.rules_bridge.specs.Bridge.{told_of}
use Rattle.refusal.specs.declared.Refusal.TheVariants.{NotSolid}
use Rattle.bridge_ends.specs.Ends.{SolidIs}
use Rattle.bridge_ends.proofs.Ends.{known-all, known_is}
use Rattle.bridge.proofs.Call.{not_first, not-second, both-solid}
use Rattle.bridge.proofs.between.Goals.{In_ok-start}
use Rattle.bridge.proofs.between.Goals as goal

pub returns-in_err-start : goal.returns-in_err-start
unfolding told_of
returns-in_err-start c =
    let a = c.args.set.now in
    let none = c.in_err-start.ensures.ok_part in
    let p = err_from_is_err_and c.from_residual.result c.from_residual.ensures.1 in
    let value = rw none at c.in_err-start.ensures.value in
    let e : c.in_err-start.field-0.0 ≡ NotSolid 0 = cc in
    record {
      told = rw (p.1, p.2, e, not_first _ _ _ _ c.requires (subst (SolidIs a.head.k (set_of a.bytes.now) c.args.from) none c.solid_kmer.ensures));
      moved = rw p.1 tt;
    }

-- The first end is solid.
starting : (c : In_ok-start) → let a = c.args in
    SolidIs a.set.now.head.k (set_of a.set.now.bytes.now) a.from (Some c.in_ok-start.start)
starting c = let a = c.args.set.now in subst (SolidIs a.head.k (set_of a.bytes.now) c.args.from) c.in_ok-start.ensures.ok_part c.solid_kmer.ensures

pub returns-in_err-ok_or : goal.returns-in_err-ok_or
unfolding told_of
returns-in_err-ok_or c =
    let a = c.args.set.now in
    let none = c.in_err-ok_or.ensures.ok_part in
    let p = err_from_is_err_and c.from_residual-in_err-ok_or.result c.from_residual-in_err-ok_or.ensures.1 in
    let value = rw none at c.in_err-ok_or.ensures.value in
    let e : c.in_err-ok_or.field-0.0 ≡ NotSolid 1 = cc in
    let first = (starting (goal.at.returns-in_err-ok_or c).In_ok-start).0 in
    record {
      told = rw (p.1, p.2, e, not-second _ _ _ _ c.requires first (subst (SolidIs a.head.k (set_of a.bytes.now) c.args.to) none c.solid_kmer-2.ensures));
      moved = rw p.1 tt;
    }

pub shortest-requires : goal.shortest-requires
shortest-requires c =
    let e = (starting (goal.at.shortest-requires c).In_ok-start).1 in
    (e.kmer, known-all c.in_ok-start.start e.is)

pub returns : goal.returns
unfolding told_of
returns c =
    let a = c.args.set.now in
    let from = starting (goal.at.returns c).In_ok-start in
    let to = subst (SolidIs a.head.k (set_of a.bytes.now) c.args.to) c.in_ok-ok_or.ensures.ok_part c.solid_kmer-2.ensures in
    record {
      told = rw (both-solid _ _ _ _ c.requires _ _ a.ready.k_is (known_is c.in_ok-start.start from.1.is) from.0 to.0, ← c.shortest.ensures.told);
      moved = c.shortest.ensures.moved;
    }
