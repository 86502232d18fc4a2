use Rattle.std.proofs.Common.{arith, rules}
use Rattle.bridge.proofs.Deepening.{best-laid, best-moves, found-moves, chained, chain-deep, tried-deep, stopped-deep}
use Rattle.bridge.proofs.shortest.Goals as goal

pub chain_of-chain-requires : goal.chain_of-chain-requires
chain_of-chain-requires c = found-moves _ _ _ _ _ _ _ c.from_kmer-deep.result c.from_kmer-deep.ensures _ c.in-Found.is

pub rounds-requires : goal.rounds-requires
rounds-requires c =
    let f = chained _ _ _ _ _ c.from_kmer-deep.result c.from_kmer-deep.ensures _ c.in-Found.is in
    let e = c.chain_of-chain.ensures in (
      search rules,
      search rules,
      c.from_kmer-deep.ensures.within,
      omega (arith, e.0, f.moves, f.short),
      rw (e.0, e.1) (best-laid f),
      rw (e.0, e.1) (best-moves f),
      rw e.0 (found-moves _ _ _ _ _ _ _ c.from_kmer-deep.result c.from_kmer-deep.ensures _ c.in-Found.is),
    )

pub returns-in-Found : goal.returns-in-Found
returns-in-Found c =
    let e = c.chain_of-chain.ensures in
    record {
      told = chain-deep _ _ _ _ _ c.from_kmer-deep.result c.from_kmer-deep.ensures _ _ c.in-Found.is (rw (e.0, e.1) at c.rounds.ensures.told);
      moved = c.rounds.ensures.moved;
    }

pub returns-in-Tried : goal.returns-in-Tried
returns-in-Tried c =
    record {
      told = tried-deep _ _ _ _ _ c.from_kmer-deep.result c.from_kmer-deep.ensures _ c.in-Tried.is c.nothing.ensures.told;
      moved = c.nothing.ensures.moved;
    }

pub returns-in-Stopped : goal.returns-in-Stopped
returns-in-Stopped c =
    record {
      told = stopped-deep _ _ _ _ _ c.from_kmer-deep.result c.from_kmer-deep.ensures _ c.in-Stopped.is c.nothing-in-Stopped.ensures.told;
      moved = c.nothing-in-Stopped.ensures.moved;
    }
