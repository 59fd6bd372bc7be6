use Rattle.std.specs.Io.{StartsWith, appended_bytes}
use Rattle.std.specs.Io.KnownBytes.{Consumes}
use Rattle.outside.proofs.framed_reply.read_on.Given as goal

-- what has come since was read
abbrev pub invariant-loop : goal.invariant-loop
invariant-loop g l = record {
  came : StartsWith l.reply.octets.items l.fn.reply.octets.items;
  read : Consumes (g.S.Read.remaining l.fn.stream) (g.S.Read.remaining l.stream) (appended_bytes l.fn.reply.octets.items l.reply.octets.items);
}
