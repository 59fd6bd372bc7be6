use Rattle.std.proofs.Common.{[], refl}
use Rattle.rand_core.specs.Stream.{Stream}
use Rattle.flight.specs.Told.{silent}
use Rattle.flight.proofs.Answering.{is_good}
use Rattle.flight.proofs.Looking.{looked_lands, looked_resolves, looked_silent, looked_unsettled}
use Rattle.flight.proofs.Settling.{settled_now}
use Rattle.flight.proofs.engine.Flight.begin_looked.Goals as goal

-- No number was drawn, so the words may be any.
pub pass_over-requires-clause-untold : goal.pass_over-requires-clause-untold
pass_over-requires-clause-untold g c =
    let port = g.O.Sockets.server_port c.args.sockets.now in
    let words : Stream = record { u32_after = λ calls. 0; u64_after = λ calls. 0; bytes_after = λ calls count. [] } in
    silent c.requires.good (looked_silent c.requires.looked port words (c.is_silence.ensures.0 c.if-is_silence.true))

pub tell-requires-clause-lands : goal.tell-requires-clause-lands
tell-requires-clause-lands g c =
    let port = g.O.Sockets.server_port c.args.sockets.now in
    let resolves = looked_resolves c.requires.looked port c.in-Ok-Some.answer c.in-Ok-Some.field-0 c.in-Ok-Some.field-0-is c.in-Ok-Some.ensures in
    looked_lands c.requires.looked port (g.G.Rng.stream c.self.inside.ids) c.in-Ok-Some.answer resolves

pub tell-requires-clause-fit : goal.tell-requires-clause-fit
tell-requires-clause-fit g c =
    let port = g.O.Sockets.server_port c.args.sockets.now in
    let resolves = looked_resolves c.requires.looked port c.in-Ok-Some.answer c.in-Ok-Some.field-0 c.in-Ok-Some.field-0-is c.in-Ok-Some.ensures in
    c.resolved_law.ensures port _ _ c.in-Ok-Some.answer resolves

pub fail-requires-clause-good : goal.fail-requires-clause-good
fail-requires-clause-good g c = is_good c.requires.good

pub returns-then-is_silence-clause-settles : goal.returns-then-is_silence-clause-settles
returns-then-is_silence-clause-settles g c = settled_now _ _ _ _ _ _ c.requires.own refl c.pass_over.ensures

pub returns-in-Ok-Some-clause-settles : goal.returns-in-Ok-Some-clause-settles
returns-in-Ok-Some-clause-settles g c = settled_now _ _ _ _ _ _ c.requires.own refl c.tell.ensures.2

pub returns-in-Err-clause-settles : goal.returns-in-Err-clause-settles
returns-in-Err-clause-settles g c = settled_now _ _ _ _ _ _ c.requires.own refl (rw c.no_memory.ensures.client at c.fail.ensures)

pub returns-in-Ok-None-clause-settles : goal.returns-in-Ok-None-clause-settles
returns-in-Ok-None-clause-settles g c = c.begin_task.ensures

pub returns-then-is_silence-clause-heeds : goal.returns-then-is_silence-clause-heeds
returns-then-is_silence-clause-heeds g c = record { settled = λ settled. (refl, refl); silent = λ silent. c.pass_over.ensures.left }

pub returns-in-Ok-Some-clause-heeds : goal.returns-in-Ok-Some-clause-heeds
returns-in-Ok-Some-clause-heeds g c = record {
  settled = λ settled. (refl, refl);
  silent = λ silent. absurd (cc (c.is_silence.ensures.1 silent, c.if-is_silence.false));
}

pub returns-in-Err-clause-heeds : goal.returns-in-Err-clause-heeds
returns-in-Err-clause-heeds g c = record {
  settled = λ settled. (refl, refl);
  silent = λ silent. absurd (cc (c.is_silence.ensures.1 silent, c.if-is_silence.false));
}

-- A task begins only if the lookup settled nothing.
pub returns-in-Ok-None-clause-heeds : goal.returns-in-Ok-None-clause-heeds
returns-in-Ok-None-clause-heeds g c =
    let port = g.O.Sockets.server_port c.args.sockets.now in
    let unsettled = looked_unsettled c.requires.looked port c.in-Ok-None.field-0 c.in-Ok-None.field-0-is c.in-Ok-None.ensures in
    record {
      settled = λ settled. absurd (settled unsettled);
      silent = λ silent. absurd (cc (c.is_silence.ensures.1 silent, c.if-is_silence.false));
    }
