use Rattle.dns_wire.specs.declared.limits.TheConstants.{HEADER_OCTETS}
use Rattle.replies.specs.Dear.{QuestionTakes}
use Rattle.replies.proofs.Dearness.{Passes}
use Rattle.replies.proofs.dear.pass_questions.Given as goal

-- So many questions were read.
abbrev pub invariant-loop : goal.invariant-loop
invariant-loop l = Passes (QuestionTakes l.octets) l.count HEADER_OCTETS l.counter l.at l.fn.left l.left
