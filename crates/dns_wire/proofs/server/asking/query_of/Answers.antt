use Rattle.std.proofs.Common.{◌≡◌, ◌+◌, take, drop, refl, ap, ◌∙◌, arith}
use Rattle.dns_name.specs.ListLaws.{octets_all}
use Rattle.dns_wire.proofs.AskingLaws.{question_begins, question_stands, same_name}
use Rattle.dns_wire.proofs.server.asking.query_of.Goals as goal

pub split_at-requires-2 : goal.split_at-requires-2
split_at-requires-2 c = omega (arith, question_begins c.requires.name.1, c.split_at.ensures.front_len)

pub invariant_of-result : goal.invariant_of-result
invariant_of-result c =
    let m = c.args.message.now in
    let octets : c.in_ok-octets.octets ≡ drop 12 (take (c.args.at + 4) m) =
    c.in_ok-octets.ensures ∙ c.split_at-2.ensures.back ∙ ap (drop 12) c.split_at.ensures.front in
    let stands = question_stands (octets_all m (λ i. omega (arith, c.type_inv.message i))) c.requires.name.1 c.requires.class in
    let same = same_name c.requires.header c.requires.name.1.owner (rw c.plain.ensures at c.in-Ok.ensures.exact) in
    rw (octets, same, c.u16_at-kind.ensures) (record { spelled = stands })

pub returns : goal.returns
returns c =
    let m = c.args.message.now in
    let octets : c.in_ok-octets.octets ≡ drop 12 (take (c.args.at + 4) m) =
    c.in_ok-octets.ensures ∙ c.split_at-2.ensures.back ∙ ap (drop 12) c.split_at.ensures.front in
    λ labels asks.
    let same = same_name c.requires.header asks.owner (rw c.plain.ensures at c.in-Ok.ensures.exact) in
    record {
      id = ap (λ h. h.id) c.head_in-head.ensures;
      rd = ap (λ h. h.rd) c.head_in-head.ensures;
      question = rw (same, c.u16_at-kind.ensures) refl;
      octets = octets;
    }
