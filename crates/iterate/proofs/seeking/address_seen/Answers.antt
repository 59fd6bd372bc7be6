use Rattle.std.proofs.Common.{◌<◌, List, [], sym, ap, subst, refl, arith}
use Rattle.dns_text.specs.declared.addr.Addr.{Addr}
use Rattle.history.specs.declared.event.Reply.TheVariants.{Seen as SeenReply}
use Rattle.iterate.specs.declared.want.Input.TheVariants.{Reply as Replied}
use Rattle.iterate.specs.declared.lookup_reply.Looked.{Looked}
use Rattle.iterate.specs.declared.path.Path.{Path}
use Rattle.iterate.specs.Hunting.{AllServe, AreSupplied, IsAddressSeen, IsTried}
use Rattle.iterate.specs.Looked.{seen_of, IsSetSeen}
use Rattle.iterate.specs.Searching.{hunt_of}
use Rattle.iterate.proofs.Asking.{from_more_ok, smaller_goes}
use Rattle.iterate.proofs.Finding.{tried_address, none_shown, shown_seen, seeking_unknown, serving, supplied_inner, spent_next}
use Rattle.iterate.proofs.Lists.{of_all}
use Rattle.std.proofs.lemmas.Result.{IfOk-weaker}
use Rattle.iterate.proofs.seeking.address_seen.Goals as goal

pub returns-in-Unknown-clause-goes : goal.returns-in-Unknown-clause-goes
returns-in-Unknown-clause-goes g c = λ m question before log k adds lawful.
    let more = seeking_unknown c.args.port m question before log c.args.search c.args.target (seen_of c.args.what) (ap seen_of c.in-Unknown.is) k adds in
    c.seek_on.ensures.goes c.args.port question log (tried_address c.args.port m question before log c.args.search c.args.target _ [] k adds
    (λ addr shown. absurd (none_shown shown (ap (λ w. Replied (SeenReply (seen_of w))) c.in-Unknown.is)))) more

pub returns-in_ok-after-in_default-clause-goes : goal.returns-in_ok-after-in_default-clause-goes
returns-in_ok-after-in_default-clause-goes g c = λ m question before log k adds lawful.
    let serve = serving c.args.port m question before log c.args.search c.args.target (seen_of c.args.what) c.in_ok-found-in_default.found.items k adds lawful c.in_ok-found-in_default.ensures.each in
    let there = subst (λ (xs : List Addr). AllServe c.args.port log (hunt_of c.args.search).servers xs) (sym c.deref.ensures.value) serve in
    let found = c.in_ok-found-in_default.found.items in
    let tried = subst (λ (xs : List Addr). IsTried c.args.port question log c.args.search c.args.target xs) (sym c.deref.ensures.value)
    (tried_address c.args.port m question before log c.args.search c.args.target (Replied (SeenReply (seen_of c.args.what))) found k adds
    (λ addr shown. c.in_ok-found-in_default.ensures.all addr (shown_seen (seen_of c.args.what) shown))) in
    let small = c.in_ok-after-in_default.ensures.further c.args.port question log c.args.target tried there in
    from_more_ok c.args.port question log c.args.moment c.go_on.result refl (smaller_goes c.args.search c.in_ok-after-in_default.after 3 (omega arith) tried.is_search small) (c.go_on.ensures.goes c.args.port question log small.is_search small.orderly)

pub returns-in-Unknown-clause-asks : goal.returns-in-Unknown-clause-asks
returns-in-Unknown-clause-asks g c = λ addr seen new spent few.
    absurd (subst (λ (w : Looked). IsSetSeen (seen_of w) seen.told) c.in-Unknown.is seen.is_set)

pub returns-in_ok-after-in_default-clause-asks : goal.returns-in_ok-after-in_default-clause-asks
returns-in_ok-after-in_default-clause-asks g c = λ addr seen new spent few.
    let before = c.args.search in
    let after = c.in_ok-after-in_default.after in
    let found = c.in_ok-found-in_default.found.items in
    let supplied = subst (λ (xs : List Addr). AreSupplied before.frames.items before.base xs after.frames.items after.base) c.deref.ensures.value c.in_ok-after-in_default.ensures.supplied in
    let i = supplied_inner before.frames.items after.frames.items before.base after.base found supplied in
    let next = spent_next (hunt_of before) (hunt_of after) found i spent addr (c.in_ok-found-in_default.ensures.all addr seen) new in
    let few_there = subst (λ (p : Path). p.sent < 64) (sym c.in_ok-after-in_default.ensures.path) few in
    IfOk-weaker c.go_on.result _ _ (λ t asked. (next.0, of_all (IsAddressSeen c.args.port (seen_of c.args.what)) found next.0 c.in_ok-found-in_default.ensures.each next.3, asked))
    (c.go_on.ensures.asks next.0 next.1 next.2 few_there)
