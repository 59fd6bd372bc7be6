use Rattle.std.proofs.Common.{List, sym, subst}
use Rattle.dns_text.specs.declared.record.Record.{Record}
use Rattle.local_zone.specs.CountsBelow.{AreZoned}
use Rattle.local_zone.proofs.records.pop.Goals as goal

pub returns-clause-zoned : goal.returns-clause-zoned
returns-clause-zoned c h = subst (λ (rs : List Record). AreZoned c.args.zones.now rs c.uncount_last.new.zoned) (sym c.pop.ensures) (c.uncount_last.ensures h)
