use Rattle.program.proofs.Call.{no-file, short-file, long-file}
use Rattle.program.proofs.taken.Goals as goal

pub returns-in_err-bytes : goal.returns-in_err-bytes
returns-in_err-bytes c = no-file c.args.most c.in_err-bytes.was c.from_residual.ensures

pub returns-then-bytes-most : goal.returns-then-bytes-most
returns-then-bytes-most c = short-file c.args.most c.in_ok-bytes.bytes c.in_ok-bytes.was c.if-bytes-most.true

pub returns-else-bytes-most : goal.returns-else-bytes-most
returns-else-bytes-most c = long-file c.args.most c.in_ok-bytes.bytes c.in_ok-bytes.was c.if-bytes-most.false
