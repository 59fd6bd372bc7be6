use Rattle.std.proofs.Common.{◌≡◌}
use Rattle.front_workers.specs.Sockets.{asking_of}
use Rattle.front_workers.proofs.tcp.turns.note_events.Given as goal

abbrev pub invariant-loop-event : goal.invariant-loop-event
invariant-loop-event g l = record {
  connections : l.sockets.outbox ≡ l.initial.sockets.outbox;
  counts : l.sockets.counts ≡ l.initial.sockets.counts;
  asks : asking_of l.sockets ≡ asking_of l.initial.sockets;
}
