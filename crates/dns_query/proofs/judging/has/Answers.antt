use Rattle.std.proofs.Common.{refl, map}
use Rattle.std.proofs.lemmas.Bool.{false≢true}
use Rattle.neg_rule.specs.Negative.{said_by}
use Rattle.harvest.specs.Learnt.{set_of}
use Rattle.dns_query.proofs.VerdictLaws.{believed_has}
use Rattle.dns_query.proofs.judging.has.Goals as goal

pub returns-in-Some : goal.returns-in-Some
returns-in-Some c =
    let harvest = c.args.harvest.now in
    (λ _. believed_has (map said_by harvest.finds) (map set_of harvest.passing) (record { owner = c.args.owner.now; kind = c.args.kind }) c.in-Some.field-0 c.in-Some.ensures, λ _. refl)

pub returns-in-None : goal.returns-in-None
returns-in-None c = (λ told. absurd (false≢true told), λ h. absurd (c.in-None.ensures h))
