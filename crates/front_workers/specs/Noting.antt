-- What a worker notes of the servers that it asked.
use Rattle.std.specs.Prelude.{◌≡◌, ℕ, Option}
use Rattle.dns_name.specs.Labels.{Labels}
use Rattle.flight.specs.declared.sockets.Listened.{Listened}
use Rattle.flight.specs.Flight.{Sent}
use Rattle.outside.specs.declared.flaw.Flaw.{Flaw}
use Rattle.outside.specs.declared.pauses.Pauses.{Pauses}
use Rattle.outside.specs.Pauses.{Loses, NotesHeard}
use Rattle.outside.specs.Refusals.{NotesAnswer}
use Rattle.front_workers.specs.declared.worker_sockets.WorkerSockets.{WorkerSockets}

-- These sockets note nothing of any server, and ask for no permit.
abbrev pub NotesNothing : {L R B : Type 0} → WorkerSockets L R B → WorkerSockets L R B → Type 0
NotesNothing old new = (new.pauses ≡ old.pauses) × (new.refusals ≡ old.refusals) × (new.permits.asked ≡ old.permits.asked)

-- This was heard of a query about this zone: these sockets remember a refusal of the zone, and ask for no permit.
abbrev pub NotesAnswerTo : {L R B : Type 0} → Listened → Sent → Option Labels → WorkerSockets L R B → WorkerSockets L R B → Type 0
NotesAnswerTo heard asked zone old new =
    NotesAnswer heard asked.server asked.over zone old.moment old.refusals new.refusals × (new.permits.asked ≡ old.permits.asked)

-- This was heard of a query, with this flaw, if any: what it shows of the server is remembered.
abbrev pub NotesHeardOf : Listened → Option Flaw → Sent → ℕ → Pauses → Pauses → Type 0
NotesHeardOf heard flaw asked now old new = NotesHeard heard flaw asked.server asked.over asked.query now old new

-- A query got no reply, which is remembered of its server.
abbrev pub LosesReplyTo : Sent → ℕ → Pauses → Pauses → Type 0
LosesReplyTo asked now old new = Loses asked.server asked.over asked.query now old new
