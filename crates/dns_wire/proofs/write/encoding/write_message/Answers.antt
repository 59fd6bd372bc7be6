use Rattle.std.proofs.Common.{◌≤◌, subst, sym}
use Rattle.dns_wire.specs.Write.Size.{records_len}
use Rattle.dns_wire.specs.Write.Question.{first_name}
use Rattle.dns_wire.proofs.WrittenSize.{sections_fit}
use Rattle.dns_wire.proofs.write.encoding.write_message.Goals as goal

pub push_sections-requires-clause-short : goal.push_sections-requires-clause-short
push_sections-requires-clause-short c =
    subst (λ first. records_len first c.sections-sections.result ≤ 65535) (sym c.first_name.ensures) (subst (λ records. records_len (first_name c.args.message.now.questions) records ≤ 65535) (sym c.sections-sections.ensures) (sections_fit c.args.message.now c.requires.fits))
