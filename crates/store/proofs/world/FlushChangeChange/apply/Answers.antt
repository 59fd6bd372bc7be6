use Rattle.std.proofs.Common.{true, refl, arith}
use Rattle.shelf.specs.declared.shelf.KeptFlush.{KeptFlush}
use Rattle.store.specs.World.{shelved}
use Rattle.store.specs.WorldLaws.{row_more, row_same, on_err}
use Rattle.store.proofs.world.FlushChangeChange.apply.Goals as goal

pub returns-clause-row : goal.returns-clause-row
returns-clause-row c = rw (← c.world.view_is) (λ kept h next newest.
    let own : KeptFlush = record { flush = c.args.self.flush; number = c.args.ticket; shown = true } in
    row_more (shelved c.world.inside.shelf) (shelved c.open_flush.new.self) kept own (record { number = c.args.ticket }) h
    c.in_ok-open_flush.ensures.flushed.kept refl refl c.in_ok-open_flush.ensures.flushed.faces)

pub returns-in_err-open_flush-clause-same : goal.returns-in_err-open_flush-clause-same
returns-in_err-open_flush-clause-same c = rw (← c.world.view_is)
    (let before = shelved c.world.inside.shelf in
    let after = shelved c.open_flush.new.self in
    let is = c.in_err-open_flush.ensures.same in
    on_err c.from_residual.result (row_same before after is.kept is.faces, omega (arith, is.top), is.stored, λ pair has. is.pairs pair has))

pub returns-clause-store : goal.returns-clause-store
returns-clause-store c = rw (← c.world.view_is) ((omega (arith, c.open_flush.ensures.stored), c.open_flush.ensures.limit, λ pair has. c.in_ok-open_flush.ensures.flushed.pairs pair has))

pub returns-in_err-open_flush-clause-store : goal.returns-in_err-open_flush-clause-store
returns-in_err-open_flush-clause-store c = rw (← c.world.view_is) ((omega (arith, c.open_flush.ensures.stored), c.open_flush.ensures.limit, λ pair has. c.in_err-open_flush.ensures.same.pairs pair has))
