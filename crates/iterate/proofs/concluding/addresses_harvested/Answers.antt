use Rattle.std.proofs.Common.{sym, subst}
use Rattle.std.proofs.lemmas.Result.{IfOk-weaker}
use Rattle.dns_text.specs.declared.record.Question.{Question}
use Rattle.dns_query.specs.Believed.{HarvestHasSet}
use Rattle.iterate.specs.Following.{IsToldBy}
use Rattle.iterate.proofs.Hearing.{addresses_known}
use Rattle.iterate.proofs.concluding.addresses_harvested.Goals as goal

pub returns-in-Some-clause-each : goal.returns-in-Some-clause-each
returns-in-Some-clause-each c = λ log is.
    let had = rw c.in-Some.is at (c.in_ok-told.ensures.had c.args.port log is) in
    IfOk-weaker c.addresses.result _ _
    (λ addrs all. addresses_known c.args.port log c.in_ok-address_question.field-0 c.in-Some.told c.args.target.now had c.in_ok-address_question.ensures addrs.items all)
    c.addresses.ensures.each

pub returns-in-Some-clause-all : goal.returns-in-Some-clause-all
returns-in-Some-clause-all c =
    let told = rw c.in-Some.is at c.in_ok-told.ensures.exact in
    let here = subst (λ (q : Question). IsToldBy c.args.harvest.now q c.in-Some.told) c.in_ok-address_question.ensures told in
    IfOk-weaker c.addresses.result _ _ (λ addrs all had. (c.in-Some.told, here, all)) c.addresses.ensures.all

pub returns-clause-all : goal.returns-clause-all
returns-clause-all c = λ had.
    let none = rw c.in-None.is at c.in_ok-told.ensures.exact in
    absurd (none (subst (λ (q : Question). HarvestHasSet c.args.harvest.now q) (sym c.in_ok-address_question.ensures) had))
