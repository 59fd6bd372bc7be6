use Rattle.std.proofs.Common.{ap, arith}
use Rattle.dns_name.specs.Labels.{octets_of}
use Rattle.local_zone.specs.CountsBelow.{counted}
use Rattle.local_zone.proofs.CountsBelowLaws.{seen}
use Rattle.local_zone.proofs.Keyed.{spelled}
use Rattle.local_zone.proofs.SumLaws.{sum_all}
use Rattle.local_zone.proofs.counts_below.CountsBelow.remove_all.Goals as goal

pub returns : goal.returns
returns c name =
    let o = octets_of name in
    let start = c.self.inside.counts.entries in
    let less = c.less.inside.counts.entries in
    omega (
      arith,
      c.lower_first.ensures.count o,
      sum_all spelled less c.len.result o c.len.ensures.len,
      seen spelled o start,
      seen spelled o less,
      seen spelled o c.lower_first.new.counts.entries,
      ap (counted name) c.self.view_is,
      ap (counted name) c.less.view_is,
    )
