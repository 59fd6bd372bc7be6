use Rattle.std.proofs.Common.{List, [], ◌∷◌, ◌++◌, map, ap, sym, ◌∙◌}
use Rattle.dns_text.specs.declared.record.Record.{Record}
use Rattle.local_zone.specs.Show.{shown_as, timed_as}
use Rattle.local_zone.proofs.OtherSetLaws.{shown_none, shown_some}
use Rattle.local_zone.proofs.other_set.OtherSet.to_items.Goals as goal
use Rattle.local_zone.proofs.other_set.OtherSet.to_items.Goals.{in-Some+in_ok-new, in_default}

pub returns : goal.returns
returns c =
    let shown = c.args.shown.now in
    let records : List Record = c.self.inside.records.now in
    let ttl = c.self.inside.ttl in
    let last = c.self.inside.last in
    let over = ap (λ (rs : List Record). map (shown_as shown) rs) c.self.view_is in
    elim c.match-branch-3.branch [
      | in-Some+in_ok-new w ↦
          c.new-2.ensures ∙ ap (λ v. v.items) w.seen-is ∙ w.push_reserved.ensures.items ∙ ap (λ (rs : List Record). rs ++ w.in_ok-new.field-0 ∷ []) c.in_ok-seen.ensures.items
          ∙ ap (λ (r : Record). map (λ r. shown_as shown (timed_as ttl r)) records ++ r ∷ []) w.in_ok-new.ensures
          ∙ shown_some shown ttl records last w.in-Some.last (sym w.in-Some.is ∙ c.in_ok-last.ensures.ok) ∙ over
      | in_default w ↦ c.new-2.ensures ∙ ap (λ v. v.items) w.seen-is ∙ c.in_ok-seen.ensures.items ∙ shown_none shown ttl records last (sym w.in_default.is ∙ c.in_ok-last.ensures.ok) ∙ over
    ]
