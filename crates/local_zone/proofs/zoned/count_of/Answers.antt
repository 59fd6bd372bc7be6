use Rattle.std.proofs.Common.{length, ap, ◌∙◌, arith}
use Rattle.named_list.specs.ListLaws.{length_filter}
use Rattle.local_zone.specs.Count.{counts_for}
use Rattle.local_zone.proofs.ZonedLaws.{count_is}
use Rattle.local_zone.proofs.zoned.count_of.Goals as goal

pub returns : goal.returns
returns c zones h =
    let name = c.args.name.now in
    let records = c.args.records.now in
    let are = count_is zones name records c.count_of-own.result c.count_below.result c.of.result c.count_of-own.ensures c.count_below.ensures (c.of.ensures ∙ h name) in
    omega (arith, are, c.saturating_add.ensures, c.saturating_sub-others.ensures, length_filter (counts_for zones name) records, ap length c.as_slice-all.ensures)
