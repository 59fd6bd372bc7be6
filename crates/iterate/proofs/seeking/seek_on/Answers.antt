use Rattle.std.proofs.Common.{◌+◌, sym, subst, refl, arith}
use Rattle.iterate.specs.declared.phase.Stage.TheVariants as stage
use Rattle.iterate.specs.declared.search.Search.{Search}
use Rattle.iterate.specs.Measure.{left_of_search}
use Rattle.iterate.specs.Phase.{IsSeeking}
use Rattle.iterate.proofs.Asking.{from_more_ok, begun_less, smaller_goes}
use Rattle.iterate.proofs.Finding.{begun_seeking}
use Rattle.iterate.proofs.seeking.seek_on.Goals as goal

pub returns-then-may_begin-clause-goes : goal.returns-then-may_begin-clause-goes
returns-then-may_begin-clause-goes g c = λ port question log tried further.
    let may = c.may_begin.ensures.0 c.if-may_begin.true in
    let k = further may.1 in
    let more = subst (λ (s : Search). IsSeeking port question log s c.args.target stage.Alias) (sym c.begun.ensures) (begun_seeking port question log c.args.search c.args.target stage.Alias (c.args.search.path.begun + 1) k) in
    let less = begun_less c.args.search c.begun.result may.0 c.begun.ensures tried.is_search in
    c.seek.ensures.goes port _ (left_of_search c.args.search 3) question log more less

pub returns-clause-goes : goal.returns-clause-goes
returns-clause-goes g c = λ port question log tried k.
    let small = c.in_ok-after.ensures.further port question log c.args.target tried tt in
    from_more_ok port question log c.args.moment c.go_on.result refl (smaller_goes c.args.search c.in_ok-after.after 3 (omega arith) tried.is_search small) (c.go_on.ensures.goes port question log small.is_search small.orderly)

pub returns-then-may_begin-clause-begins : goal.returns-then-may_begin-clause-begins
returns-then-may_begin-clause-begins g c = λ begun early. c.seek.ensures.want

pub returns-clause-begins : goal.returns-clause-begins
returns-clause-begins g c = λ begun early. let may = c.may_begin.ensures.1 (begun, early) in let e : ⊥ = cc in absurd e
