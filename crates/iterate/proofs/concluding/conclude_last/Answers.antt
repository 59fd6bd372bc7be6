use Rattle.std.proofs.Common.{◌≡◌, ◌<◌, ℕ, List, Option, None, false, sym, ap, ◌∙◌, subst}
use Rattle.std.proofs.lemmas.Result.{IfOk-weaker}
use Rattle.harvest.specs.declared.harvest_type.Harvest.{Harvest}
use Rattle.history.specs.declared.servers.Servers.{Servers}
use Rattle.dns_query.specs.declared.verdict.Referral.{Referral}
use Rattle.std.specs.Option.{option_map}
use Rattle.ranked.specs.declared.find.Find.{Find}
use Rattle.iterate.specs.declared.answer.Answer.TheVariants.{Reply as Replies}
use Rattle.iterate.specs.declared.path.Path.{Path}
use Rattle.iterate.specs.declared.want.Want.TheVariants.{Finish}
use Rattle.iterate.specs.Told.{soa_whole}
use Rattle.iterate.specs.declared.search.Hunt.{Hunt}
use Rattle.iterate.specs.declared.search.Nested.{Nested}
use Rattle.iterate.specs.Following.{IsAnswering, FollowsHarvest}
use Rattle.iterate.specs.Hunting.{AsksOneOf, IsFresh}
use Rattle.iterate.specs.Known.{servers_referred}
use Rattle.iterate.specs.Searching.{hunt_behind}
use Rattle.iterate.proofs.Asking.{asks_fresh}
use Rattle.iterate.proofs.Coming.{from_less}
use Rattle.iterate.proofs.Hearing.{answering_last, denying_last, referring_last, ended_hearing, refers_same, denies_same}
use Rattle.iterate.proofs.concluding.conclude_last.Goals as goal

pub returns-in_ok-harvest-in-Answers-clause-goes : goal.returns-in_ok-harvest-in-Answers-clause-goes
returns-in_ok-harvest-in-Answers-clause-goes g c = λ port question log allowed h.
    c.follow_answer.ensures.goes port _ question log
    (subst (λ (x : Harvest). IsAnswering port log c.args.search.path.last x) (sym c.in_ok-harvest-in-Answers.ensures.ok) (answering_last h c.requires c.in-Answers.is))
    (record { is_path = h.is_search.path; unknown = h.is_search.base.unknown })

pub returns-in-Denies-clause-goes : goal.returns-in-Denies-clause-goes
returns-in-Denies-clause-goes g c = λ port question log allowed h.
    c.denied.ensures.goes port c.args.moment _ _ question log (ended_hearing c.args.search.path 1 h.is_search.path) h.is_search.path (denying_last c.in-Denies.rcode c.in-Denies.negative h c.requires c.in-Denies.is)

pub returns-in_ok-refer_base-in-Refers-clause-goes : goal.returns-in_ok-refer_base-in-Refers-clause-goes
returns-in_ok-refer_base-in-Refers-clause-goes g c = λ port question log allowed h.
    let r = referring_last c.in-Refers.referral c.in_ok-servers-in-Refers.servers h c.requires c.in-Refers.is c.in_ok-servers-in-Refers.ensures in
    let s = c.in_ok-refer_base-in-Refers.ensures.reached port question log h.was_allowed.came.after h.is_search r in
    IfOk-weaker c.go_on.result _ _ (λ t goes. from_less s.falls goes) (c.go_on.ensures.goes port question log s.is_search s.orderly)

pub returns-in_ok-harvest-in-Answers-clause-answers : goal.returns-in_ok-harvest-in-Answers-clause-answers
returns-in_ok-harvest-in-Answers-clause-answers g c = λ says.
    IfOk-weaker c.follow_answer.result _ _ (λ t follows. subst (λ (x : Harvest). FollowsHarvest x c.args.search.path c.args.moment t.want) c.in_ok-harvest-in-Answers.ensures.ok follows)
    c.follow_answer.ensures.follows

pub returns-in-Denies-clause-answers : goal.returns-in-Denies-clause-answers
returns-in-Denies-clause-answers g c = λ says. let is = c.in-Denies.is in let e : ⊥ = cc in absurd e

pub returns-in_ok-refer_base-in-Refers-clause-answers : goal.returns-in_ok-refer_base-in-Refers-clause-answers
returns-in_ok-refer_base-in-Refers-clause-answers g c = λ says. let is = c.in-Refers.is in let e : ⊥ = cc in absurd e

pub returns-in_ok-refer_base-in-Refers-clause-refers : goal.returns-in_ok-refer_base-in-Refers-clause-refers
returns-in_ok-refer_base-in-Refers-clause-refers g c = λ referral says few.
    let after = c.in_ok-refer_base-in-Refers.field-0 in
    let list = c.in_ok-servers-in-Refers.servers in
    let same : c.in-Refers.referral ≡ referral = refers_same (sym c.in-Refers.is ∙ says) in
    let servers : list ≡ servers_referred referral = c.in_ok-servers-in-Refers.ensures ∙ ap (λ (r : Referral). servers_referred r) same in
    let base : hunt_behind after.frames.items after.base ≡ after.base = ap (λ (fs : List Nested). hunt_behind fs after.base) c.in_ok-refer_base-in-Refers.ensures.frames in
    let fresh = subst (λ (h : Hunt). IsFresh list h) (sym base) c.in_ok-refer_base-in-Refers.ensures.fresh in
    let few_there = subst (λ (p : Path). p.sent < 64) (sym c.in_ok-refer_base-in-Refers.ensures.path) few in
    let asked = asks_fresh list after c.go_on.result fresh (λ server rest is. c.go_on.ensures.asks server rest is few_there) in
    IfOk-weaker c.go_on.result _ _ (λ t one. subst (λ (s : Servers). AsksOneOf s.addrs t.want) servers one) asked

pub returns-in-Denies-clause-denies : goal.returns-in-Denies-clause-denies
returns-in-Denies-clause-denies g c = λ rcode negative says.
    let same = denies_same (sym c.in-Denies.is ∙ says) in
    let sets = c.args.search.path.sets.items in
    c.denied.ensures.want ∙ ap (λ (r : ℕ). Finish (Replies r false sets None (option_map soa_whole c.in-Denies.negative))) same.0
    ∙ ap (λ (n : Option Find). Finish (Replies rcode false sets None (option_map soa_whole n))) same.1
