use Rattle.std.proofs.Common.{rules, ◌≡◌}
use Rattle.bridge.proofs.Deepening.{over-told, found-told, stopped-told, tried-on, found-moves}
use Rattle.bridge.proofs.rounds.Goals.{in-Stopped, in-Found}
use Rattle.bridge.proofs.rounds.Goals as goal

pub loop-round-preserved : goal.loop-round-preserved
loop-round-preserved c = (
  search rules,
  c.from_kmer-r.ensures.within,
  tried-on _ _ _ _ _ _ _ _ _ _ c.loop-round.invariant.2 c.loop-round-test.true c.from_kmer-r.result c.from_kmer-r.ensures c.in-Tried.is,
)

pub chain_of-chain-requires : goal.chain_of-chain-requires
chain_of-chain-requires c = found-moves _ _ _ _ _ _ _ c.from_kmer-r.result c.from_kmer-r.ensures _ c.in-Found.is

pub returns-in-loop-round : goal.returns-in-loop-round
returns-in-loop-round c =
    let r = c.from_kmer-r in
    let v = c.loop-round.invariant.2 in
    elim c.match-r.branch [
      | in-Stopped w ↦ record {
        told = rw w.chain-is
            (stopped-told _ _ _ _ _ _ _ _ _ _ v c.loop-round-test.true r.result r.ensures _ w.in-Stopped.is c.requires.5 c.requires.4);
        moved = rw w.chain-is c.requires.6;
      }
      | in-Found w ↦ let e = w.chain_of-chain.ensures in record {
        told = rw (w.chain-is, e.0, e.1) (found-told _ _ _ _ _ _ _ _ _ _ v c.loop-round-test.true r.result r.ensures _ w.in-Found.is);
        moved = rw (w.chain-is, e.0) (found-moves _ _ _ _ _ _ _ r.result r.ensures _ w.in-Found.is);
      }
    ]

pub returns : goal.returns
returns c =
    let l = c.loop-round in
    let e : l.round ≡ c.args.deep.moves = search rules in
    record {
      told = rw e at (over-told _ _ _ _ _ _ _ _ _ _ l.invariant.2 _ (search rules) c.requires.5 c.requires.4);
      moved = c.requires.6;
    }
