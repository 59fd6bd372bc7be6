use Rattle.std.proofs.Common.{List, ap, ◌∙◌}
use Rattle.dns_text.specs.declared.record.Record.{Record}
use Rattle.local_zone.specs.Change.{is_there}
use Rattle.local_zone.proofs.SetLaws.{there_in_set}
use Rattle.local_zone.proofs.records.is_there.Goals as goal

pub returns : goal.returns
returns c = c.is_among.ensures ∙ ap (λ (rs : List Record). is_there rs c.args.new.now) c.set_of.ensures ∙ there_in_set c.args.new.now c.args.records.now
