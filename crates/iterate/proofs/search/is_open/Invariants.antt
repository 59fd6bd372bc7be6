use Rattle.std.proofs.Common.{◌≡◌, take}
use Rattle.dns_text.specs.declared.record.Question.{Question}
use Rattle.dns_query.specs.Query.{address_question}
use Rattle.iterate.specs.Searching.{IsOther}
use Rattle.iterate.proofs.search.is_open.Given as goal

abbrev pub invariant-loop-frame : goal.invariant-loop-frame
invariant-loop-frame l = (last : Question) → (address_question l.target ≡ last → ⊥) → IsOther (address_question l.target) (take l.frame-index l.frames) last
