use Rattle.dns_wire.specs.WellFormed.{HasItsForm}
use Rattle.dns_wire.proofs.LentLaws.{all_in_order}
use Rattle.dns_wire.proofs.write.encoding.encode_lent.Goals as goal

pub encode_sections-requires : goal.encode_sections-requires
encode_sections-requires g c = record {
  answer = all_in_order HasItsForm (g.A.Section.parts c.args.answer.now) c.requires.answer;
  authority = all_in_order HasItsForm (g.B.Section.parts c.args.authority.now) c.requires.authority;
  additional = tt;
}
