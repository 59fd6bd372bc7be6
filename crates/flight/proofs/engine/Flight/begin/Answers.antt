use Rattle.std.proofs.Common.{◌∙◌, ℕ, ap, max, refl, subst}
use Rattle.dns_text.specs.declared.record.Question.{Question}
use Rattle.dns_wire.specs.declared.server.query.Asked.TheVariants.{Good}
use Rattle.flight.specs.Told.{faulty}
use Rattle.flight.specs.Origin.{origin_of}
use Rattle.flight.specs.FirstLook.{HeedsFirstLook, uncalled}
use Rattle.flight.specs.Waiting.{FlightState}
use Rattle.flight.proofs.Answering.{header_fits}
use Rattle.flight.proofs.Settling.{said_less, settled_now}
use Rattle.flight.proofs.engine.Flight.begin.Goals as goal

pub give-requires-clause-told : goal.give-requires-clause-told
give-requires-clause-told g c = faulty (rw c.in-Fault.is at c.in-Ok.ensures.asked) c.fault_of.ensures.octets

pub give-requires-clause-short : goal.give-requires-clause-short
give-requires-clause-short g c = rw c.fault_of.ensures.short (header_fits (g.K.Client.over c.args.client))

pub returns-in-Err-clause-settles : goal.returns-in-Err-clause-settles
returns-in-Err-clause-settles g c = settled_now _ _ _ _ _ _ c.requires.own refl (rw c.no_memory.ensures.client at c.fail.ensures)

pub returns-in-Drop-clause-settles : goal.returns-in-Drop-clause-settles
returns-in-Drop-clause-settles g c = settled_now _ _ _ _ _ _ c.requires.own refl c.pass_over.ensures

pub returns-in-Fault-clause-settles : goal.returns-in-Fault-clause-settles
returns-in-Fault-clause-settles g c = settled_now _ _ _ _ _ _ c.requires.own refl c.give.ensures

pub returns-in-Good-clause-settles : goal.returns-in-Good-clause-settles
returns-in-Good-clause-settles g c =
    let asks = rw c.in-Good.is at c.in-Ok.ensures.asked in
    let origin = λ (began : ℕ). origin_of began c.in-Good.query.question.owner (g.K.Client.network c.args.client) in
    said_less c.begin_query.ensures.settles
    (λ o is. record { query = c.in-Good.query; asks = asks; is = is ∙ ap origin (c.since-began.ensures ∙ ap (λ (state : FlightState). max c.args.now state.latest) c.self.view_is) })

pub returns-in-Err-clause-heeds : goal.returns-in-Err-clause-heeds
returns-in-Err-clause-heeds g c = λ query asks. uncalled refl

pub returns-in-Drop-clause-heeds : goal.returns-in-Drop-clause-heeds
returns-in-Drop-clause-heeds g c = λ query asks. uncalled refl

pub returns-in-Fault-clause-heeds : goal.returns-in-Fault-clause-heeds
returns-in-Fault-clause-heeds g c = λ query asks. uncalled refl

-- The octets ask one query, so it is the one that was read.
pub returns-in-Good-clause-heeds : goal.returns-in-Good-clause-heeds
returns-in-Good-clause-heeds g c = λ query asks.
    let read = rw c.in-Good.is at c.in-Ok.ensures.asked in
    let same = c.one_verdict.ensures c.args.octets.now (Good c.in-Good.query) (Good query) read asks in
    let outbox = g.O.Sockets.outbox in
    subst (λ (question : Question). HeedsFirstLook g.D.Desk.calls question c.args.desk.now c.args.self.now (outbox c.args.sockets.now) c.begin_query.new.desk c.begin_query.new.self (outbox c.begin_query.new.sockets)) same.2 c.begin_query.ensures.heeds
