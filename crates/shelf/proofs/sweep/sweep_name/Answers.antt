use Rattle.std.proofs.Common.{[], refl, ap, ◌∙◌, arith}
use Rattle.std.proofs.lemmas.List.{get_or_default}
use Rattle.cell_store.specs.declared.owner.KindColumn.{KindColumn}
use Rattle.shelf.specs.Sweep.{numbers_of}
use Rattle.shelf.proofs.SweepLaws.{swept_more, swept_all}
use Rattle.shelf.proofs.sweep.sweep_name.Goals as goal

pub loop-place-preserved : goal.loop-place-preserved
loop-place-preserved c =
    let kinds = c.loop-place.cells.kinds.items in
    let place = c.loop-place.place in (
      swept_more c.args.kept.now c.args.moment c.args.name.now place c.args.cells.now c.loop-place.cells c.sweep_type.new.cells c.index.result.now.kind (numbers_of c.args.kept.now (record { owner = c.args.name.now; kind = c.index.result.now.kind })) c.loop-place.invariant.0
          (λ d. ap (λ (own : KindColumn). own.kind) (c.index.ensures ∙ get_or_default kinds place c.index.result.now d (omega arith)))
          refl c.sweep_type.ensures.cells c.sweep_type.ensures.seen c.sweep_type.ensures.lost,
      c.sweep_type.ensures.capacity ∙ c.loop-place.invariant.1,
    )

pub returns-clause-swept : goal.returns-clause-swept
returns-clause-swept c = swept_all c.args.kept.now c.args.moment c.args.name.now c.loop-place.place c.args.cells.now c.loop-place.cells c.drop_empty.new.self (record { kind = 0; column = record { versions = []; upto = 0 } }) c.loop-place.invariant.0 (omega arith)
    c.drop_empty.ensures.same c.drop_empty.ensures.upto c.drop_empty.ensures.whole c.drop_empty.ensures.tidy

pub drop_empty-requires : goal.drop_empty-requires
drop_empty-requires c = record { top = (c.requires.top.0, c.loop-place.invariant.0.lost.gains.upto c.requires.top.0 c.requires.top.1) }
