use Prim.Native.Nat.{ℕ, ◌+◌, ◌-◌, ◌≤◌, min}
use native.Mathlib.Omega.{arith}
use mathlib.Core.Path.{◌≡◌, refl, sym, ap, ◌∙◌, subst}
use mathlib.Core.List.{List, ◌++◌}
use lib.ListN.{length, take, drop, length-append, length-drop}
use lib.Seq.{length-take-le}
use Rattle.turn.specs.declared.Place.{Place}
use Rattle.turn.specs.declared.Full.{Full}
use Rattle.std.specs.Prelude.{Result}
use Rattle.turn.specs.Turn.{state_of, Countable, end_of, Turning, Went, TurnIs}
use Rattle.turn.proofs.Parts.{tail-part}
use Rattle.turn.proofs.Turns.{fewer-left}
use Rattle.correct.proofs.Room.{tail-back, behind}
use Rattle.correct.proofs.Reached.{Reached, reached-next, reached-end, reached-bytes}
use Rattle.correct.proofs.turns_of.Goals.{After-turn, At-loop-p, In_ok-p, In-loop-p}
use Rattle.correct.proofs.turns_of.Goals as goal

pub loop-p-init : goal.loop-p-init
loop-p-init c =
    let q = c.requires in
    (q.stands, refl, λ put many here. record { put = put; many = many; here = here; same = refl })

-- The bytes put out so far.
reached : (c : At-loop-p)
    → let a = c.args in
    Reached a.set.now a.entry c.loop-p.p a.read.now a.limit c.loop-p.out
    (end_of a.set.now a.entry (state_of a.first a.read.now c.requires.put))
reached c = let q = c.requires in c.loop-p.invariant.2 q.put q.many q.here

-- What a turn asks.
turning : (c : In-loop-p)
    → let a = c.args in
    Turning a.set.now a.entry c.loop-p.p a.read.now
turning c =
    let q = c.requires in
    let r = reached (goal.at.In-loop-p c).At-loop-p in
    record {
      stands = c.loop-p.invariant.0;
      more = c.loop-p-test.true;
      put = r.put;
      many = r.many;
      countable = subst Countable (sym r.same) q.countable;
    }

-- The part that a turn is lent begins inside the buffer.
below_out : {from : ℕ} (c : At-loop-p) → from ≡ min c.loop-p.p.done.written c.args.limit → from ≤ length c.loop-p.out
below_out c e = omega (arith, e, c.loop-p.invariant.1, c.requires.room)

pub turn-requires : goal.turn-requires
turn-requires c = turning (goal.at.turn-requires c).In-loop-p

abbrev from : After-turn → ℕ
from c = c.min-from.result

from_is : (c : After-turn) → from c ≡ min c.loop-p.p.done.written c.args.limit
from_is c = c.min-from.ensures

abbrev lent : After-turn → List ℕ
lent c = take (length c.loop-p.out - from c) (drop (from c) c.loop-p.out)

abbrev part : After-turn → List ℕ
part c = c.turn.new.out

-- the buffer afterwards
abbrev after : After-turn → List ℕ
after c = (let out = c.loop-p.out in take (from c) out ++ (part c ++ drop (length out - from c) (drop (from c) out)))

abbrev Did : After-turn → Result Place Full → Type 0
Did c =
    let a = c.args in
    TurnIs a.set.now a.entry c.loop-p.p a.read.now (lent c) (part c)

inside : (c : After-turn) → from c ≤ length c.loop-p.out
inside c = below_out (goal.at.After-turn c).At-loop-p (from_is c)

lent_length : (c : After-turn) → length (lent c) ≡ length c.loop-p.out - from c
lent_length c = ap length (tail-part c.loop-p.out (from c)) ∙ length-drop (from c) c.loop-p.out

part_length : (c : After-turn) → length (part c) ≡ length c.loop-p.out - from c
part_length c = c.turn.auto.out ∙ lent_length c

after_is : (c : After-turn) → after c ≡ take (from c) c.loop-p.out ++ part c
after_is c = tail-back c.loop-p.out (part c) (from c)

room : (c : After-turn) → length (after c) ≡ length c.args.out.now
room c =
    let out = c.loop-p.out in
    ap length (after_is c) ∙ length-append (take (from c) out) (part c)
    ∙ omega (arith, length-take-le (from c) out (inside c), part_length c, inside c, c.loop-p.invariant.1)

-- what was put out, whatever before
went : (c : In_ok-p) (put : List ℕ)
    → let a = c.args in
    Went a.set.now a.entry c.loop-p.p a.read.now put (part (goal.at.In_ok-p c).After-turn) c.in_ok-p.p
went c = ((subst (Did (goal.at.In_ok-p c).After-turn) c.in_ok-p.was c.turn.ensures).0)

pub loop-p-smaller : goal.loop-p-smaller
loop-p-smaller c =
    let g = turning (goal.at.loop-p-smaller c).In-loop-p in
    fewer-left g g.put _ _ (went c g.put)

pub loop-p-preserved : goal.loop-p-preserved
loop-p-preserved c =
    let next = c.in_ok-p.p in (
      (subst (Did (goal.at.loop-p-preserved c).After-turn) c.in_ok-p.was c.turn.ensures).1,
      room (goal.at.loop-p-preserved c).After-turn,
      λ put many here.
          let r = c.loop-p.invariant.2 put many here in
          reached-next r (turning (goal.at.loop-p-preserved c).In-loop-p) (went c)
          (λ e.
          let w = went c r.put in
          let p-written = c.loop-p.p.done.written in
          let f : from (goal.at.loop-p-preserved c).After-turn ≡ p-written = omega (arith, from_is (goal.at.loop-p-preserved c).After-turn, w.many, e) in
          let fits : length w.more ≤ length (part (goal.at.loop-p-preserved c).After-turn) = omega (arith, w.many, part_length (goal.at.loop-p-preserved c).After-turn, f, c.loop-p.invariant.1, e, c.requires.room) in
          ap (λ (i : ℕ). take i (after (goal.at.loop-p-preserved c).After-turn)) w.many
          ∙ ap (λ (i : ℕ). take (i + length w.more) (after (goal.at.loop-p-preserved c).After-turn)) (sym f)
          ∙ ap (take (from (goal.at.loop-p-preserved c).After-turn + length w.more)) (after_is (goal.at.loop-p-preserved c).After-turn)
          ∙ behind c.loop-p.out (part (goal.at.loop-p-preserved c).After-turn) w.more (from (goal.at.loop-p-preserved c).After-turn) (inside (goal.at.loop-p-preserved c).After-turn) (w.written fits)
          ∙ ap (λ (i : ℕ). take i c.loop-p.out ++ w.more) f
          ∙ ap (λ (q : List ℕ). q ++ w.more) (r.here (omega (arith, w.many, e)))),
    )

pub returns : goal.returns
returns c =
    let over = c.loop-p-test.false in
    λ put many here.
    let r = c.loop-p.invariant.2 put many here in
    (reached-end r _ over, reached-bytes r over)
