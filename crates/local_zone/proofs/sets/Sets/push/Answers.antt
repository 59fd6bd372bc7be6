use Rattle.std.proofs.Common.{◌≡◌, ◌<◌, List, length, subst}
use Rattle.std.specs.List.{AllWithin}
use Rattle.dns_text.specs.declared.record.Record.{Record}
use Rattle.local_zone.proofs.HeldLaws.{same_left}
use Rattle.local_zone.proofs.OrderLaws.{pushed}
use Rattle.local_zone.proofs.sets.Sets.push.Goals as goal

pub returns-clause-ok : goal.returns-clause-ok
returns-clause-ok c all h =
    let items : List Record = c.self.inside.records.items in
    let new : Record = c.args.new in
    let e = c.count_up_to-end.result in
    let is : c.deref.result.now ≡ items = c.deref.ensures.value in
    let over : AllWithin (λ r. new.kind < r.kind) items e (length items) =
    subst (λ (l : List Record). AllWithin (λ r. new.kind < r.kind) l e (length l)) is (subst (λ k. AllWithin (λ r. k < r.kind) c.deref.result.now e (length c.deref.result.now)) c.kind.ensures c.count_up_to-end.ensures.others) in
    same_left c.in_ok-insert.ensures.items (pushed e items all new over (same_left c.self.view_is h))
