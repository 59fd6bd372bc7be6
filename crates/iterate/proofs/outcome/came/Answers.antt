use Rattle.std.proofs.Common.{◌≡◌, ℕ, ◌<◌, ◌∷◌, length, sym, ap, ◌∙◌, subst, arith, IfOk}
use Rattle.iterate.specs.declared.want.Want.TheVariants.{Book}
use Rattle.iterate.specs.Room.{IsHanded, allowed_in}
use Rattle.ranked.specs.declared.find.Find.{Find}
use Rattle.history.specs.declared.event.Event.TheVariants.{Admit}
use Rattle.std.proofs.lemmas.Result.{IfOk-weaker}
use Rattle.dns_query.specs.declared.verdict.Heard.{Heard}
use Rattle.iterate.specs.declared.search.Hunt.{Hunt}
use Rattle.iterate.specs.declared.search.Search.{Search}
use Rattle.iterate.specs.declared.want.Want.{Want}
use Rattle.iterate.specs.declared.phase.Attempt.TheVariants as attempt
use Rattle.iterate.specs.Measure.{attempts_left, left_of_sending}
use Rattle.iterate.specs.Phase.{IsHearing, Suits}
use Rattle.iterate.specs.Searching.{hunt_of, question_of}
use Rattle.history.specs.declared.servers.Servers.{Servers}
use Rattle.iterate.proofs.Coming.{counted, asked_once, orderly_heard, orderly_cut, cut_udp, same_next, meant, useless, vain, was_truncated, from_less, below, going_less, again_less, ended_less, hearing_less, hearing, acts_struck, acts_cut, acts_heard, next_after}
use Rattle.iterate.specs.declared.path.Path.{Path}
use Rattle.iterate.specs.Hunting.{one_vain}
use Rattle.iterate.proofs.Lists.{next_within}
use Rattle.iterate.proofs.Handing.{sent_no_room}
use Rattle.iterate.proofs.outcome.came.Goals as goal

pub returns-in-Struck-clause-goes : goal.returns-in-Struck-clause-goes
returns-in-Struck-clause-goes g c = λ question before log want w suits adds.
    let search_in = c.args.search in
    let here = subst (λ (v : Want). Suits v c.args.input.now) w.wanted suits in
    let zone : c.get.result.now.zone ≡ (hunt_of search_in).servers.zone = ap (λ (s : Servers). s.zone) c.get.ensures ∙ ap (λ (h : Hunt). h.servers.zone) c.hunt.ensures in
    let judged = meant c.args.port c.args.over c.args.id c.args.input.now _ zone c.in_ok-question.ensures (rw c.in-Struck.is at (c.in_ok-judged.ensures c.args.server w.bytes here)) in
    let same : c.counted.result ≡ counted search_in = c.counted.ensures (omega (arith, w.some)) in
    let v = vain c.counted.result same w adds (useless c.args.port c.args.over (hunt_of search_in).servers.zone c.args.id (question_of search_in) c.args.input.now judged) in
    let after = c.in_ok-strike-in-Struck.field-0 in
    let s = c.in_ok-strike-in-Struck.ensures.further c.args.port question log c.args.server w.rest v.is_search (same_next c.counted.result same w) v.struck in
    let heard = orderly_heard c.one_meaning.ensures.message c.counted.result same w adds in
    let orderly = c.in_ok-strike-in-Struck.ensures.orderly c.args.port log c.args.server w.rest (same_next c.counted.result same w) heard in
    let path = c.in_ok-strike-in-Struck.ensures.path ∙ ap (λ (x : Search). x.path) same in
    IfOk-weaker c.go_on.result _ _ (λ t goes. from_less (going_less search_in.path after path s) goes) (c.go_on.ensures.goes c.args.port question log s orderly)

pub returns-in-Cut-clause-goes : goal.returns-in-Cut-clause-goes
returns-in-Cut-clause-goes g c = λ question before log want w suits adds.
    let search_in = c.args.search in
    let here = subst (λ (v : Want). Suits v c.args.input.now) w.wanted suits in
    let zone : c.get.result.now.zone ≡ (hunt_of search_in).servers.zone = ap (λ (s : Servers). s.zone) c.get.ensures ∙ ap (λ (h : Hunt). h.servers.zone) c.hunt.ensures in
    let judged = meant c.args.port c.args.over c.args.id c.args.input.now _ zone c.in_ok-question.ensures (rw c.in-Cut.is at (c.in_ok-judged.ensures c.args.server w.bytes here)) in
    let same : c.counted-in-Cut.result ≡ counted search_in = c.counted-in-Cut.ensures (omega (arith, w.some)) in
    let path = ap (λ (x : Search). x.path) same in
    c.again.ensures.goes c.args.port c.args.moment (left_of_sending search_in.path) question log w.rest (asked_once c.counted-in-Cut.result same w adds) (same_next c.counted-in-Cut.result same w)
    (orderly_cut c.one_meaning.ensures.message (cut_udp c.args.port c.args.over (hunt_of search_in).servers.zone c.args.id (question_of search_in) c.args.input.now judged) c.counted-in-Cut.result same w adds)
    (was_truncated c.args.port (hunt_of search_in).servers.zone c.args.input.now c.counted-in-Cut.result same w adds judged) (λ few. again_less search_in.path c.counted-in-Cut.result.path path few) (ended_less search_in.path w.is_search.path)

pub returns-clause-goes : goal.returns-clause-goes
returns-clause-goes g c = λ question before log want w suits adds.
    let search_in = c.args.search in
    let here = subst (λ (v : Want). Suits v c.args.input.now) w.wanted suits in
    let zone : c.get.result.now.zone ≡ (hunt_of search_in).servers.zone = ap (λ (s : Servers). s.zone) c.get.ensures ∙ ap (λ (h : Hunt). h.servers.zone) c.hunt.ensures in
    let judged = meant c.args.port c.args.over c.args.id c.args.input.now _ zone c.in_ok-question.ensures (rw c.in-Heard.is at (c.in_ok-judged.ensures c.args.server w.bytes here)) in
    let after = c.in_ok-search-in-Heard.search.value in
    let same : after ≡ counted search_in = c.in_ok-search-in-Heard.ensures.ok ∙ c.counted-in-Heard.ensures (omega (arith, w.some)) in
    let path = ap (λ (x : Search). x.path) same in
    c.admit.ensures.goes question log (left_of_sending search_in.path)
    (subst (λ (n : ℕ). IsHearing c.args.port question log after c.in_ok-heard-in-Heard.heard.value n) (sym c.allowed_in-allowed.ensures)
    (subst (λ (h : Heard). IsHearing c.args.port question log after h (allowed_in c.args.input.now c.in-Heard.heard.says)) (sym c.in_ok-heard-in-Heard.ensures.ok)
    (hearing c.args.port question before log want search_in c.args.server c.args.id c.args.over c.args.input.now after c.in-Heard.heard same w adds judged c.one_meaning.ensures.message)))
    (sent_no_room w.wanted adds)
    (below _ _ (hearing_less search_in.path after.path 1 path (omega arith)))
    (hearing_less search_in.path after.path (attempts_left 0 attempt.Admit) path (omega arith))

pub returns-in-Struck-clause-acts : goal.returns-in-Struck-clause-acts
returns-in-Struck-clause-acts g c = λ bytes suits few.
    let search_in = c.args.search in
    let zone : c.get.result.now.zone ≡ (hunt_of search_in).servers.zone = ap (λ (s : Servers). s.zone) c.get.ensures ∙ ap (λ (h : Hunt). h.servers.zone) c.hunt.ensures in
    let judged = meant c.args.port c.args.over c.args.id c.args.input.now _ zone c.in_ok-question.ensures (rw c.in-Struck.is at (c.in_ok-judged.ensures c.args.server bytes suits)) in
    let same : c.counted.result ≡ counted search_in = c.counted.ensures (omega (arith, few)) in
    let after = c.in_ok-strike-in-Struck.field-0 in
    let path : after.path ≡ (counted search_in).path = c.in_ok-strike-in-Struck.ensures.path ∙ ap (λ (x : Search). x.path) same in
    let hunt : hunt_of c.counted.result ≡ hunt_of search_in = ap (λ (x : Search). hunt_of x) same in
    acts_struck c.args.port search_in c.args.server c.args.id c.args.over c.args.input.now c.go_on.result judged (λ other rest next.
    let some : (hunt_of c.counted.result).asked < length (hunt_of c.counted.result).addrs.items =
    subst (λ (h : Hunt). h.asked < length h.addrs.items) (sym hunt) (next_within (hunt_of search_in).asked (hunt_of search_in).addrs.items c.args.server (other ∷ rest) next) in
    let becomes = c.in_ok-strike-in-Struck.ensures.vain some ∙ ap (λ (h : Hunt). one_vain h) hunt in
    c.go_on.ensures.asks other rest (next_after search_in after c.args.server other rest becomes next) (subst (λ (p : Path). p.sent < 64) (sym path) few))

pub returns-in-Cut-clause-acts : goal.returns-in-Cut-clause-acts
returns-in-Cut-clause-acts g c = λ bytes suits few.
    let search_in = c.args.search in
    let zone : c.get.result.now.zone ≡ (hunt_of search_in).servers.zone = ap (λ (s : Servers). s.zone) c.get.ensures ∙ ap (λ (h : Hunt). h.servers.zone) c.hunt.ensures in
    let judged = meant c.args.port c.args.over c.args.id c.args.input.now _ zone c.in_ok-question.ensures (rw c.in-Cut.is at (c.in_ok-judged.ensures c.args.server bytes suits)) in
    let same : c.counted-in-Cut.result ≡ counted search_in = c.counted-in-Cut.ensures (omega (arith, few)) in
    acts_cut c.args.port search_in c.args.server c.args.id c.args.over c.args.input.now c.again.result judged (c.again.ensures.tcp (subst (λ (x : Search). x.path.sent < 64) (sym same) few))

pub returns-clause-acts : goal.returns-clause-acts
returns-clause-acts g c = λ bytes suits few.
    let search_in = c.args.search in
    let zone : c.get.result.now.zone ≡ (hunt_of search_in).servers.zone = ap (λ (s : Servers). s.zone) c.get.ensures ∙ ap (λ (h : Hunt). h.servers.zone) c.hunt.ensures in
    let judged = meant c.args.port c.args.over c.args.id c.args.input.now _ zone c.in_ok-question.ensures (rw c.in-Heard.is at (c.in_ok-judged.ensures c.args.server bytes suits)) in
    acts_heard c.args.port search_in c.args.server c.args.id c.args.over c.args.input.now c.args.moment c.admit.result c.in-Heard.heard judged
    (subst (λ (n : ℕ). (find : Find) → IsHanded c.in-Heard.heard.harvest.chosen n 0 find → IfOk c.admit.result (λ t. t.want ≡ Book (Admit c.args.moment find))) c.allowed_in-allowed.ensures
    (subst (λ (h : Heard). (find : Find) → IsHanded h.harvest.chosen c.allowed_in-allowed.result 0 find → IfOk c.admit.result (λ t. t.want ≡ Book (Admit c.args.moment find)))
    c.in_ok-heard-in-Heard.ensures.ok c.admit.ensures.hands))
