use Rattle.bridge.proofs.Deepening.{none_told}
use Rattle.bridge.proofs.nothing.Goals as goal

pub returns : goal.returns
returns c = record { told = λ stop. none_told c.args.lookups c.args.floor stop; moved = tt }
