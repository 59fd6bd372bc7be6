use Rattle.std.proofs.Common.{List, subst, sym}
use Rattle.std.specs.List.{AllByRecursion}
use Rattle.dns_text.specs.declared.record.Data.{Data}
use Rattle.dns_text.specs.Data.{HasForm}
use Rattle.dns_wire.specs.LentLaws.{set_formed}
use Rattle.dns_calls.proofs.lent.lent_octets.Goals as goal

pub encode_lent-requires-clause-answer : goal.encode_lent-requires-clause-answer
encode_lent-requires-clause-answer c =
    let formed = subst (λ (bodies : List Data). AllByRecursion (HasForm c.in_ok-kind.kind) bodies) (sym c.deref.ensures.value) c.in_ok-data.ensures in
    (set_formed c.in_ok-owner.owner c.in_ok-kind.kind c.in_ok-ttl_of.field-0 c.deref.result.now formed, tt)
