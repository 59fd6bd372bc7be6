use Rattle.std.proofs.Common.{arith}
use Rattle.replies.proofs.reply.head_of.Goals as goal

pub returns-clause-fits : goal.returns-clause-fits
returns-clause-fits c = record { id = omega arith; opcode = omega arith; z = omega arith; rcode = omega arith }
