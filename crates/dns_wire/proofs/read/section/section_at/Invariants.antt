use Rattle.std.proofs.Common.{◌≡◌, ◌-◌, ◌≤◌, length}
use Rattle.dns_wire.specs.Read.Section.{section_after, section_read}
use Rattle.dns_wire.proofs.read.section.section_at.Given as goal

abbrev pub invariant-loop : goal.invariant-loop
invariant-loop g l = record {
  told : section_after (λ i. g.T.SectionItem.read l.message i) l.items.items (l.count - l.counter) l.at ≡ section_read (λ i. g.T.SectionItem.read l.message i) l.count l.fn.at;
  within : l.at ≤ length l.message;
}
