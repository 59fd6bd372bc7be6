use Rattle.std.proofs.Common.{◌≤◌, sym, ap, ◌∙◌, subst}
use Rattle.std.proofs.lemmas.Result.{IfOk-weaker}
use Rattle.dns_query.specs.declared.verdict.Heard.{Heard}
use Rattle.ranked.specs.declared.find.Find.{Find}
use Rattle.history.specs.declared.event.Event.TheVariants.{Admit}
use Rattle.iterate.specs.declared.search.Search.{Search}
use Rattle.iterate.specs.declared.want.Want.TheVariants.{Book}
use Rattle.iterate.specs.Measure.{left_of_hearing}
use Rattle.iterate.specs.Phase.{IsHearing}
use Rattle.iterate.specs.Room.{IsHanded}
use Rattle.iterate.proofs.PathTurns.{turned, less_left}
use Rattle.iterate.proofs.Handing.{handing, one_find}
use Rattle.iterate.proofs.admitting.hand.Goals as goal

pub returns-in-Some-clause-hands : goal.returns-in-Some-clause-hands
returns-in-Some-clause-hands g c = λ find handed.
    let told = rw c.in-Some.is at c.in_ok-find.ensures in
    let here = subst (λ (x : Heard). IsHanded x.harvest.chosen c.args.handing.allowed c.args.handing.next c.in-Some.find) c.deref.ensures told in
    c.ask_book.ensures.want ∙ ap (λ (f : Find). Book (Admit c.args.moment f)) (one_find here handed)

pub returns-in-Some-clause-goes : goal.returns-in-Some-clause-goes
returns-in-Some-clause-goes g c = λ question log left h by few less.
    let told = rw c.in-Some.is at c.in_ok-find.ensures in
    let here = subst (λ (x : Heard). IsHanded x.harvest.chosen c.args.handing.allowed c.args.handing.next c.in-Some.find) c.deref.ensures told in
    turned c.ask_book.ensures.phase c.ask_book.ensures.want
    (handing c.args.port question log c.args.moment _ left c.args.handing c.args.attempt c.in-Some.find h here (by c.in-Some.find here) (less here.early))

pub returns-in-None-clause-hands : goal.returns-in-None-clause-hands
returns-in-None-clause-hands g c = λ find handed.
    let none = rw c.in-None.is at c.in_ok-find.ensures in
    absurd (none find (subst (λ (x : Heard). IsHanded x.harvest.chosen c.args.handing.allowed c.args.handing.next find) (sym c.deref.ensures) handed))

pub returns-in-None-clause-goes : goal.returns-in-None-clause-goes
returns-in-None-clause-goes g c = λ question log left h by few less.
    let search = c.into_inner-search.result in
    let told = subst (λ (x : Search). IsHearing c.args.port question log x c.into_inner.result c.args.handing.allowed) (sym c.into_inner-search.ensures)
    (subst (λ (x : Heard). IsHearing c.args.port question log c.args.handing.search.value x c.args.handing.allowed) (sym c.into_inner.ensures) h) in
    let most : left_of_hearing search.path 1 ≤ left = subst (λ (x : Search). left_of_hearing x.path 1 ≤ left) (sym c.into_inner-search.ensures) few in
    IfOk-weaker c.conclude.result _ _ (λ t goes. less_left most goes) (c.conclude.ensures question log c.args.handing.allowed told)
