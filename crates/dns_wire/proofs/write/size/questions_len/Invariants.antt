use Rattle.std.proofs.Common.{◌≡◌, ◌+◌, ◌≤◌, length, take}
use Rattle.std.specs.List.{flat_map}
use Rattle.dns_wire.specs.Write.Question.{question_octets}
use Rattle.dns_wire.proofs.write.size.questions_len.Given as goal

abbrev pub invariant-loop-question : goal.invariant-loop-question
invariant-loop-question l = record {
  told : l.total ≡ 12 + length (flat_map question_octets (take l.question-index l.questions));
  fits : l.total ≤ 65535;
}
