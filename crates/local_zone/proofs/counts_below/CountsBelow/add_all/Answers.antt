use Rattle.std.proofs.Common.{ap, arith}
use Rattle.dns_name.specs.Labels.{octets_of}
use Rattle.local_zone.specs.CountsBelow.{counted}
use Rattle.local_zone.proofs.CountsBelowLaws.{on_ok, seen}
use Rattle.local_zone.proofs.Keyed.{spelled}
use Rattle.local_zone.proofs.SumLaws.{if_err}
use Rattle.local_zone.proofs.counts_below.CountsBelow.add_all.Goals as goal

pub returns-clause-ok : goal.returns-clause-ok
returns-clause-ok c =
    let start = c.self.inside.counts.entries in
    let more = c.more.inside.counts.entries in
    on_ok c.raise_all.result
    (λ added name. omega (
      arith,
      added (octets_of name),
      seen spelled (octets_of name) start,
      seen spelled (octets_of name) more,
      seen spelled (octets_of name) c.raise_all.new.counts.entries,
      ap (counted name) c.self.view_is,
      ap (counted name) c.more.view_is,
    ))
    c.raise_all.ensures.ok

pub returns-clause-err : goal.returns-clause-err
returns-clause-err c =
    let start = c.self.inside.counts.entries in
    if_err c.raise_all.result
    (λ same name. omega (
      arith,
      same (octets_of name),
      seen spelled (octets_of name) start,
      seen spelled (octets_of name) c.raise_all.new.counts.entries,
      ap (counted name) c.self.view_is,
    ))
    c.raise_all.ensures.err
