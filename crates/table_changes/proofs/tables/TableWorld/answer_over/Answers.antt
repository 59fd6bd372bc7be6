use Rattle.std.proofs.Common.{Some, None, ap, subst, ◌≡◌}
use Rattle.std.specs.Prelude.{IfOk}
use Rattle.local_zone.specs.Answer.{local_of}
use Rattle.local_zone.specs.Saved as zone
use Rattle.local_zone.specs.Tables as local
use Rattle.stub_table.specs.Saved as stub
use Rattle.table_changes.specs.Both.{of_zones, of_stubs, saved_table, KeepsBoth}
use Rattle.table_changes.specs.BothLaws.{zones_numbered, stubs_numbered, zones_apart}
use Rattle.table_changes.proofs.BothRows.{zones_tab, stubs_tab, zones_with_stubs, zones_split, zones_join}
use Rattle.table_changes.proofs.OverLaws.{holds_over}
use Rattle.table_changes.proofs.PartRows.{both_leads}
use Rattle.table_changes.proofs.tables.TableWorld.answer_over.Goals as goal

pub answer_over-requires : goal.answer_over-requires
answer_over-requires c =
    let r = c.requires.1 in (
      zone.before_of c.in-Zones.saved c.args.self.now.tables.local,
      both_leads zones_tab stubs_tab zones_with_stubs of_zones of_stubs zone.before_of zone.TakesBack stub.before_of stub.TakesBack saved_table 1 2 zones_numbered stubs_numbered zones_apart KeepsBoth zones_split zones_join
          c.args.self.now c.requires.0 r.0 r.1.0 c.args.saved.now r.1.1.0 c.in-Zones.saved (ap of_zones c.in-Zones.is) r.1.1.1,
    )

pub returns-in-Zones : goal.returns-in-Zones
returns-in-Zones c =
    holds_over c.args.self.now c.args.saved.now (Some c.in-Zones.saved) (λ (t : local.Tables). local_of t c.args.question.now) (λ answer. answer) c.answer_over.result (ap of_zones c.in-Zones.is) c.answer_over.ensures.ok

pub returns-in-Stubs : goal.returns-in-Stubs
returns-in-Stubs c =
    holds_over c.args.self.now c.args.saved.now None (λ (t : local.Tables). local_of t c.args.question.now) (λ answer. answer) c.share_answer.result (ap of_zones c.in-Stubs.is)
    (subst (λ is. IfOk c.share_answer.result (λ answer. answer ≡ is)) c.answer.ensures c.share_answer.ensures)
