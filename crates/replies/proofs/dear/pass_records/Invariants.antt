use Rattle.replies.specs.Dear.{RecordTakes}
use Rattle.replies.proofs.Dearness.{Passes}
use Rattle.replies.proofs.dear.pass_records.Given as goal

-- So many records were read.
abbrev pub invariant-loop : goal.invariant-loop
invariant-loop l = Passes (RecordTakes l.octets l.copies) l.count l.start l.counter l.at l.fn.left l.left
