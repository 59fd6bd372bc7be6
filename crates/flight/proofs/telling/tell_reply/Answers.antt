use Rattle.std.proofs.Common.{inl, inr, refl}
use Rattle.flight.specs.Told.{IsGiven}
use Rattle.flight.proofs.Answering.{told_by, untold_by}
use Rattle.flight.proofs.Settling.{settles_behind}
use Rattle.flight.proofs.telling.tell_reply.Goals as goal

pub give-requires-clause-told : goal.give-requires-clause-told
give-requires-clause-told g c =
    let tells = rw c.over-over.ensures at (rw c.in-Ok-Some.field-0-is at c.in-Ok-Some.ensures.tells) in
    rw c.buffer-buffer.ensures.keeps.port (told_by _ c.requires.good c.requires.lands tells)

pub pass_over-requires-clause-untold : goal.pass_over-requires-clause-untold
pass_over-requires-clause-untold g c =
    let tells = rw c.over-over.ensures at (rw c.in-Ok-None.field-0-is at c.in-Ok-None.ensures.tells) in
    rw c.buffer-buffer.ensures.keeps.port (untold_by _ _ c.requires.good c.requires.lands tells)

pub returns-in-Ok-Some : goal.returns-in-Ok-Some
returns-in-Ok-Some g c =
    let tells = rw c.over-over.ensures at (rw c.in-Ok-Some.field-0-is at c.in-Ok-Some.ensures.tells) in
    settles_behind (IsGiven (g.K.Client.over c.args.client) c.args.octets.now c.args.query.now c.args.answer.now) (inl tells) c.buffer-buffer.ensures.keeps c.buffer-buffer.ensures.counts c.give.ensures

pub returns-in-Ok-None : goal.returns-in-Ok-None
returns-in-Ok-None g c =
    let tells = rw c.over-over.ensures at (rw c.in-Ok-None.field-0-is at c.in-Ok-None.ensures.tells) in
    settles_behind (IsGiven (g.K.Client.over c.args.client) c.args.octets.now c.args.query.now c.args.answer.now) (inl tells) c.buffer-buffer.ensures.keeps c.buffer-buffer.ensures.counts c.pass_over.ensures

pub returns-in-Err : goal.returns-in-Err
returns-in-Err g c =
    settles_behind (IsGiven (g.K.Client.over c.args.client) c.args.octets.now c.args.query.now c.args.answer.now) (inr (c.requires.loud, refl)) c.buffer-buffer.ensures.keeps c.buffer-buffer.ensures.counts (rw c.no_memory.ensures.client at c.fail.ensures)
