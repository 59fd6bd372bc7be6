use Rattle.std.proofs.Common.{◌≡◌, ◌-◌, ◌≤◌, List, length}
use Rattle.dns_text.specs.declared.record.Record.{Record}
use Rattle.dns_wire.specs.declared.message.Classed.{Classed}
use Rattle.dns_wire.specs.Read.Section.{section_after}
use Rattle.dns_wire.specs.Read.Message.{records_read}
use Rattle.dns_wire.specs.Read.Record.{record_read}
use Rattle.dns_wire.proofs.server.walking.records_end.Given as goal

-- Records were passed, and reading goes on after them.
abbrev pub invariant-loop : goal.invariant-loop
invariant-loop l = record {
  before : List (Classed Record);
  told : section_after (λ i. record_read l.message i) before (l.count - l.counter) l.place ≡ records_read l.message l.count l.at;
  within : l.place ≤ length l.message;
}
