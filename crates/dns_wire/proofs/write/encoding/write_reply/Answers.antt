use Rattle.dns_wire.specs.Lent.{reply_of}
use Rattle.dns_wire.proofs.WrittenSize.{sections_fit}
use Rattle.dns_wire.proofs.write.encoding.write_reply.Goals as goal

pub push_sections-requires-clause-short : goal.push_sections-requires-clause-short
push_sections-requires-clause-short g c = sections_fit (reply_of c.args.head.now c.args.query.now.question c.args.sections.now) c.requires.fits
