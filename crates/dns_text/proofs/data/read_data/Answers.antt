use Rattle.dns_text.proofs.DataReading.{data_stands, data_every}
use Rattle.dns_text.proofs.data.read_data.Goals as goal

pub returns-clause-stands : goal.returns-clause-stands
returns-clause-stands c = data_stands c.text_law.ensures.data c.args.kind c.args.text.now _ c.parse_data.ensures.value

pub returns-clause-every : goal.returns-clause-every
returns-clause-every c = data_every c.text_law.ensures.data c.args.kind c.args.text.now _ c.parse_data.ensures.value
