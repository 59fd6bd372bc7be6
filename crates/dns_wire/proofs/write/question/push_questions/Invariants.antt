use Rattle.std.proofs.Common.{◌≡◌, ◌++◌, take}
use Rattle.std.specs.List.{flat_map, AllByRecursion}
use Rattle.dns_wire.specs.Write.Question.{question_octets}
use Rattle.dns_wire.specs.WellFormed.{IsQuestion}
use Rattle.dns_wire.proofs.write.question.push_questions.Given as goal

abbrev pub invariant-loop-question : goal.invariant-loop-question
invariant-loop-question l = record {
  told : l.out.items ≡ l.initial.out.items ++ flat_map question_octets (take l.question-index l.questions);
  each : AllByRecursion IsQuestion (take l.question-index l.questions);
}
