use Rattle.dns_text.proofs.RecordReading.{record_stands, record_every}
use Rattle.dns_text.proofs.record_text.read_record.Goals as goal

pub returns-clause-stands : goal.returns-clause-stands
returns-clause-stands c = record_stands c.text_law.ensures.records c.args.text.now _ c.parse_record.ensures.value

pub returns-clause-every : goal.returns-clause-every
returns-clause-every c = record_every c.text_law.ensures.records c.args.text.now _ c.parse_record.ensures.value
