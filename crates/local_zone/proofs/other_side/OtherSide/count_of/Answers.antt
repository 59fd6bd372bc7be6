use Rattle.std.proofs.Common.{◌≡◌, List, length, ap, sym, ◌∙◌, arith}
use Rattle.dns_text.specs.declared.record.Record.{Record}
use Rattle.named_list.specs.ListLaws.{length_filter}
use Rattle.named_list.specs.Turn.{other_of}
use Rattle.local_zone.specs.declared.added.RecordTurn.{RecordTurn}
use Rattle.local_zone.specs.declared.added.RecordTurn.TheVariants.{Removed}
use Rattle.local_zone.specs.Added.{records_other}
use Rattle.local_zone.specs.Count.{count_of, counts_for, counts_there}
use Rattle.local_zone.specs.Gaps.{put_back}
use Rattle.local_zone.specs.Tables.{Tables}
use Rattle.local_zone.proofs.CountsBelowLaws.{count_back}
use Rattle.local_zone.proofs.OtherLaws.{side_brings, side_goes}
use Rattle.local_zone.proofs.other_side.OtherSide.count_of.Goals as goal

pub returns-in-Nothing : goal.returns-in-Nothing
returns-in-Nothing c =
    let zones = other_of c.self.inside.saved.now.zones c.self.inside.zones.now in
    let name = c.args.name.now in
    c.count_over.ensures
    ∙ ap (λ (x : RecordTurn). count_of zones name (records_other x c.self.inside.records.now)) (sym c.in-Nothing.is)
    ∙ ap (λ (t : Tables). count_of t.zones name t.records) c.self.view_is

pub returns-in-Removed : goal.returns-in-Removed
returns-in-Removed c =
    let saved = c.self.inside.saved.now in
    let zones = other_of saved.zones c.self.inside.zones.now in
    let left : List Record = c.self.inside.records.now in
    let name = c.args.name.now in
    let taken = c.in-Removed.removed in
    let goes = side_goes saved.records (Removed taken) left c.in-Removed.is c.self.invariant.back.goes in
    let brings = side_brings saved c.self.inside.zones.now left taken c.in-Removed.is c.self.invariant.back in
    let over : put_back taken left ≡ records_other saved.records left = ap (λ (x : RecordTurn). records_other x left) (sym c.in-Removed.is) in
    omega (
      arith,
      c.count_over-count.ensures,
      c.count_back.ensures left goes.1 brings,
      c.saturating_add.ensures,
      count_back (counts_there zones name) taken left,
      length_filter (counts_for zones name) (put_back taken left),
      ap length over,
      c.self.invariant.back.sound.few_records,
    )
    ∙ ap (count_of zones name) over
    ∙ ap (λ (t : Tables). count_of t.zones name t.records) c.self.view_is
