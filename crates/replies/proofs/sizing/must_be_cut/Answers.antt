use Rattle.std.proofs.Common.{◌≡◌, ◌+◌, Option, None, List, length, map, sym, ap, subst, ◌∙◌, arith}
use Rattle.std.proofs.lemmas.Bool.{leb-true}
use Rattle.dns_wire.specs.Lent.{in_order}
use Rattle.iterate.specs.declared.answer.AnswerSet.{AnswerSet}
use Rattle.iterate.specs.declared.answer.Soa.{Soa}
use Rattle.replies.specs.Lending.{answer_parts, authority_parts, records_written}
use Rattle.replies.specs.Sizing.{capped, records_size, MustBeCut}
use Rattle.replies.proofs.Sizes.{counted_out, none_if_not_some}
use Rattle.replies.proofs.sizing.must_be_cut.Goals as goal

pub returns : goal.returns
returns c = λ is.
    let query = c.args.query.now in
    let owner = query.question.owner in
    let few = leb-true c.saturating_add-size.result 65535 is in
    let before = c.in-Some-aliases_size.ensures ∙ ap (λ (sets : List AnswerSet). capped (records_size owner (in_order (map records_written sets)))) c.as_slice.ensures in
    let size : c.saturating_add-size.result ≡ capped (capped (c.in-Some-aliases_size.aliases + c.in-Some-set_size.last) + (12 + length query.octets)) = omega (arith, c.saturating_add-size.ensures, c.saturating_add.ensures, ap length c.as_slice-2.ensures) in
    let none = none_if_not_some c.args.authority.now (sym c.is_some.ensures ∙ c.if-is_some.false) in
    let cut = counted_out query c.args.aliases.now c.in-Some.set c.in-Some-aliases_size.aliases c.in-Some-set_size.last c.saturating_add-size.result before c.in-Some-set_size.ensures size c.if-size-le-MOST_UDP_REPLY.false few in
    let with_last = subst (λ (last : Option AnswerSet). MustBeCut query (answer_parts c.args.aliases.now last) (authority_parts None)) (sym c.in-Some.is) cut in
    subst (λ (authority : Option Soa). MustBeCut query (answer_parts c.args.aliases.now c.args.last.now) (authority_parts authority)) (sym none) with_last
