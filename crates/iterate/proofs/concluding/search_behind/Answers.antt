use Rattle.std.proofs.Common.{◌≡◌, List, drop, sym, ap, ◌∙◌, subst}
use Rattle.std.specs.List.{Contains}
use Rattle.dns_text.specs.declared.record.Question.{Question}
use Rattle.dns_query.specs.declared.verdict.Referral.{Referral}
use Rattle.history.specs.declared.servers.Servers.{Servers}
use Rattle.iterate.specs.Known.{servers_referred}
use Rattle.std.proofs.lemmas.Result.{IfOk-weaker}
use Rattle.dns_text.specs.declared.addr.Addr.{Addr}
use Rattle.iterate.specs.Hunting.{AllServe, AreReferred, Supplies}
use Rattle.iterate.specs.Searching.{Turn, hunt_behind}
use Rattle.iterate.proofs.Hearing.{harvest_heard, referring, addresses_serve, closed_heard, first_asked_for, refers_same}
use Rattle.iterate.proofs.Supplying.{supplied_all}
use Rattle.iterate.proofs.concluding.search_behind.Goals as goal

pub returns-in-Answers-clause-smaller : goal.returns-in-Answers-clause-smaller
returns-in-Answers-clause-smaller c = λ question log allowed h.
    let search_in = c.args.search in
    let all = c.in_ok-addrs-in-Answers.ensures.each log (harvest_heard h) in
    let serve = addresses_serve search_in c.index.result.now c.requires c.index.ensures h.is_search c.in_ok-addrs-in-Answers.addrs.items all in
    IfOk-weaker c.close.result _ _ (λ after k. closed_heard search_in after h.is_search k)
    (c.close.ensures.further c.args.port question log Turn.heard h.is_search h.orderly
    (subst (λ (addrs : List Addr). AllServe c.args.port log (hunt_behind (drop 1 search_in.frames.items) search_in.base).servers addrs) (sym c.deref.ensures.value) serve))

pub returns-in-Denies-clause-smaller : goal.returns-in-Denies-clause-smaller
returns-in-Denies-clause-smaller c = λ question log allowed h.
    IfOk-weaker c.close-in-Denies.result _ _ (λ after k. closed_heard c.args.search after h.is_search k)
    (c.close-in-Denies.ensures.further c.args.port question log Turn.heard h.is_search h.orderly tt)

pub returns-clause-smaller : goal.returns-clause-smaller
returns-clause-smaller c = λ question log allowed h.
    let r = referring c.in-Refers.referral c.in_ok-servers-in-Refers.servers h c.in-Refers.is c.in_ok-servers-in-Refers.ensures in
    c.refer_frame.ensures.reached c.args.port question log h.was_allowed.came.after Turn.heard h.is_search h.orderly r

pub returns-in-Answers-clause-answers : goal.returns-in-Answers-clause-answers
returns-in-Answers-clause-answers c = λ says.
    let search_in = c.args.search in
    let asked = first_asked_for search_in.frames.items search_in.path.last c.index.result.now c.requires c.index.ensures in
    let found = subst (λ (q : Question). Supplies c.args.port c.args.heard.harvest q c.in_ok-addrs-in-Answers.addrs.items) asked c.in_ok-addrs-in-Answers.ensures.all in
    IfOk-weaker c.close.result _ _
    (λ after i had.
    let given = found had in (
      given.0,
      given.1,
      λ addr is. supplied_all (drop 1 search_in.frames.items) after.frames.items search_in.base after.base _ i addr (subst (λ (xs : List Addr). Contains xs addr) (sym c.deref.ensures.value) (given.2 addr is)),
    ))
    c.close.ensures.supplied

pub returns-clause-refers : goal.returns-clause-refers
returns-clause-refers c = λ referral says.
    let same : c.in-Refers.referral ≡ referral = refers_same (sym c.in-Refers.is ∙ says) in
    let servers = c.in_ok-servers-in-Refers.ensures ∙ ap (λ (r : Referral). servers_referred r) same in
    IfOk-weaker c.refer_frame.result _ _ (λ after is. subst (λ (s : Servers). AreReferred c.args.search.frames.items s after.frames.items) servers is) c.refer_frame.ensures.fresh
