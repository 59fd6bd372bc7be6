use Rattle.std.proofs.Common.{◌≡◌, Some, None, sym, ◌∙◌, nat_eq}
use Rattle.std.specs.Map.{KeepsOthers}
use Rattle.std.specs.Cmp.Lexicographic.{pointwise}
use Rattle.dns_name.specs.Labels.{octets_of}
use Rattle.local_zone.specs.Index.{under}
use Rattle.local_zone.proofs.GroupLaws.{IsMoved, absent_here, apart_moved, moved_some, grouped_moved, still_none, is_ok_of, key_found}
use Rattle.local_zone.proofs.Keyed.{items, octets}
use Rattle.local_zone.proofs.groups.move_group.Goals as goal

gone : (c : goal.After-drop) → under octets (octets_of c.args.owner.now) c.swap_remove_entry.new.self.entries ≡ None
gone c = c.swap_remove_entry.ensures.updates.1

keeps : (c : goal.After-drop) → KeepsOthers (λ x y. pointwise nat_eq (octets x) (octets y)) (λ k. pointwise nat_eq (octets_of c.args.owner.now) (octets k)) c.args.owners.now.entries c.swap_remove_entry.new.self.entries
keeps c = c.swap_remove_entry.ensures.updates.3

moved : (c : goal.After-drop) → IsMoved octets items c.args.owner.now c.args.groups.now.entries c.args.owners.now.entries c.insert.new.self.entries c.swap_remove_entry.new.self.entries
moved c =
    let es = c.args.owners.now.entries in
    let groups = c.args.groups.now.entries in
    let key : octets c.in-Some.key ≡ octets_of c.args.owner.now = key_found octets (octets_of c.args.owner.now) es c.in-Some.key (sym c.in-Some.ensures.key) in
    let found : under octets (octets_of c.args.owner.now) es ≡ Some c.in-Some.records = sym c.in-Some.ensures.value in
    let none = absent_here octets items c.args.owner.now groups es c.in-Some.records found (c.requires.apart c.args.owner.now) in
    let updates = is_ok_of c.insert.result (c.insert.ensures.succeeds c.requires.room) c.insert.ensures.updates in
    moved_some octets items c.args.owner.now groups c.insert.new.self.entries es c.swap_remove_entry.new.self.entries c.in-Some.key c.in-Some.records key none found (gone c) (keeps c) updates.1 updates.3

pub returns-in-Some-clause-index : goal.returns-in-Some-clause-index
returns-in-Some-clause-index c records h =
    grouped_moved octets items c.args.owner.now c.args.groups.now.entries c.args.owners.now.entries c.insert.new.self.entries c.swap_remove_entry.new.self.entries (moved c) records h

pub returns-in-Some-clause-stays : goal.returns-in-Some-clause-stays
returns-in-Some-clause-stays c other none =
    still_none octets items c.args.owner.now other c.args.owners.now.entries c.swap_remove_entry.new.self.entries (gone c) (keeps c) none

pub returns-in-Some-clause-only : goal.returns-in-Some-clause-only
returns-in-Some-clause-only c other e none = (moved c).others other e ∙ none

pub returns-in-Some-clause-apart : goal.returns-in-Some-clause-apart
returns-in-Some-clause-apart c other =
    apart_moved octets items c.args.owner.now c.args.groups.now.entries c.args.owners.now.entries c.insert.new.self.entries c.swap_remove_entry.new.self.entries (moved c) (gone c) c.requires.apart other
