use Rattle.std.proofs.Common.{◌≡◌, ◌∙◌, ap, arith, refl, sym}
use Rattle.flight.specs.Asking.{attempt_of, origin_in}
use Rattle.flight.specs.Flight.{failed}
use Rattle.flight.specs.Waiting.{attempted}
use Rattle.flight.proofs.Flying.{asked_on, due, flown, lands_at, open_on}
use Rattle.flight.proofs.Flights.{stays_as, stays_same, stays_then, stays_tried}
use Rattle.flight.proofs.Keeping.{kept_on}
use Rattle.flight.proofs.Settling.{own_client, said_less, settled_there, settles_later}
use Rattle.flight.proofs.engine.Flight.drive.Goals as goal

pub step-requires : goal.step-requires
step-requires g c = due c.due_law.ensures.first c.due_law.ensures.next c.loop-want.asking.task.phase c.loop-want.invariant.flies

pub loop-want-preserved-in-Book : goal.loop-want-preserved-in-Book
loop-want-preserved-in-Book g c =
    let before = c.loop-want.invariant in
    let task = c.loop-want.asking.task in
    let is = open_on task.port task.question task.steps.items c.now-moment.result (g.G.Rng.stream c.self.inside.ids) before.asked.port_is before.asked.question
    before.flies c.now-moment.ensures c.in-Ok.ensures.ok.steps c.in-Ok.ensures.ok.wants c.in-Ok.ensures.ok.drawn c.in-Book.is in
    record {
      asked = asked_on before.asked c.step.ensures.same.question c.step.ensures.same.port;
      flies = flown is c.ask_soon-input.ensures.answered;
      port = before.port;
      known = omega (arith, c.ask_soon-input.ensures.known);
      client_kept = before.client_kept;
      origin_kept = before.origin_kept;
      keeps = before.keeps;
      counts_kept = before.counts_kept;
      stays = stays_then c.args.now _ c.args.self.now c.loop-want.self _ before.stays (stays_same c.args.now _ c.loop-want.self _ c.self.view_is);
    }

pub send-requires-clause-asked : goal.send-requires-clause-asked
send-requires-clause-asked g c = asked_on c.loop-want.invariant.asked c.step.ensures.same.question c.step.ensures.same.port

pub send-requires-clause-awaits : goal.send-requires-clause-awaits
send-requires-clause-awaits g c =
    let before = c.loop-want.invariant in
    let task = c.loop-want.asking.task in
    let is = open_on task.port task.question task.steps.items c.now-moment.result (g.G.Rng.stream c.self.inside.ids) before.asked.port_is before.asked.question
    before.flies c.now-moment.ensures c.in-Ok.ensures.ok.steps c.in-Ok.ensures.ok.wants c.in-Ok.ensures.ok.drawn c.in-Send.is in
    is

-- The question comes back as it was, so it goes on without a reply.
pub loop-want-preserved : goal.loop-want-preserved
loop-want-preserved g c =
    let before = c.loop-want.invariant in
    let task = c.loop-want.asking.task in
    let is = open_on task.port task.question task.steps.items c.now-moment.result (g.G.Rng.stream c.self.inside.ids) before.asked.port_is before.asked.question
    before.flies c.now-moment.ensures c.in-Ok.ensures.ok.steps c.in-Ok.ensures.ok.wants c.in-Ok.ensures.ok.drawn c.in-Send.is in
    let unsent = c.in-Some.ensures in
    let tried = stays_tried c.args.now (origin_in g.K.Client.network c.loop-want.asking) c.loop-want.self c.send.new.self (attempt_of c.args.now c.loop-want.asking) (unsent.same ∙ ap (attempted (attempt_of c.args.now c.loop-want.asking)) c.self.view_is) refl in
    rw unsent.unsent.0 (record {
      asked = asked_on before.asked c.step.ensures.same.question c.step.ensures.same.port;
      flies = flown is (failed unsent.unsent.1);
      port = before.port ∙ sym unsent.keeps.port;
      known = before.known;
      client_kept = before.client_kept;
      origin_kept = before.origin_kept;
      keeps = kept_on before.keeps unsent.keeps;
      counts_kept = unsent.counts ∙ before.counts_kept;
      stays = stays_then c.args.now _ c.args.self.now c.loop-want.self c.send.new.self before.stays (stays_as c.args.now (λ o. o ≡ origin_in g.K.Client.network c.loop-want.asking) _ c.loop-want.self c.send.new.self tried (λ o is. is ∙ before.origin_kept));
    })

pub conclude-requires-clause-lands : goal.conclude-requires-clause-lands
conclude-requires-clause-lands g c =
    let before = c.loop-want.invariant in
    let task = c.loop-want.asking.task in
    let is = open_on task.port task.question task.steps.items c.now-moment.result (g.G.Rng.stream c.self.inside.ids) before.asked.port_is before.asked.question
    before.flies c.now-moment.ensures c.in-Ok.ensures.ok.steps c.in-Ok.ensures.ok.wants c.in-Ok.ensures.ok.drawn c.in-Finish.is in
    lands_at before.port is

pub returns-in-Finish : goal.returns-in-Finish
returns-in-Finish g c =
    let before = c.loop-want.invariant in
    own_client before.client_kept (settled_there c.args.now c.args.self.now _ c.args.sockets.now c.loop-want.sockets c.conclude.new.sockets c.args.octets.now before.asked.own before.keeps before.counts_kept
    (stays_then c.args.now _ c.args.self.now c.loop-want.self _ before.stays (stays_same c.args.now _ c.loop-want.self _ c.self.view_is)) c.conclude.ensures.2)

pub returns-in-Err : goal.returns-in-Err
returns-in-Err g c =
    let before = c.loop-want.invariant in
    own_client before.client_kept (settled_there c.args.now c.args.self.now _ c.args.sockets.now c.loop-want.sockets c.refuse.new.sockets c.args.octets.now before.asked.own before.keeps before.counts_kept
    (stays_then c.args.now _ c.args.self.now c.loop-want.self _ before.stays (stays_same c.args.now _ c.loop-want.self _ c.self.view_is)) c.refuse.ensures)

-- The question waits for its exchange, or found no place.
pub returns-in_default : goal.returns-in_default
returns-in_default g c =
    let before = c.loop-want.invariant in
    own_client before.client_kept (settles_later c.args.self.now _ c.send.new.self c.args.sockets.now c.loop-want.sockets c.send.new.sockets before.keeps before.counts_kept
    (stays_then c.args.now _ c.args.self.now c.loop-want.self _ before.stays (stays_same c.args.now _ c.loop-want.self _ c.self.view_is))
    (said_less {of' = λ o. o ≡ origin_in g.K.Client.network c.args.asking} c.in_default.ensures.settles (λ origin is. is ∙ before.origin_kept)))
