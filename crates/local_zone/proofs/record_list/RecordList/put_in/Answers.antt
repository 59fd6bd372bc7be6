use Rattle.std.proofs.Common.{◌≡◌, ℕ, ◌+◌, List, ap, sym, subst, ◌∙◌}
use Rattle.dns_text.specs.declared.record.Record.{Record}
use Rattle.local_zone.specs.declared.taken.Taken.{Taken}
use Rattle.local_zone.specs.CountsBelow.{counted, AreCounted, lies_below}
use Rattle.local_zone.specs.Gaps.{put_back, records_of, AreApart}
use Rattle.local_zone.specs.Index.{IsGrouped}
use Rattle.local_zone.proofs.CountsBelowLaws.{counted_back}
use Rattle.local_zone.proofs.GroupLaws.{grouped_joined, parts_back, share_none}
use Rattle.local_zone.proofs.Keyed.{items, octets}
use Rattle.local_zone.proofs.record_list.RecordList.put_in.Goals as goal

pub join-requires : goal.join-requires
join-requires c =
    let taken : List Taken = c.removed.inside.taken.items in
    let left : List Record = c.self.inside.list.items in
    let parted : AreApart taken left
    = subst (λ (x : List Taken). AreApart x left) (sym c.removed.view_is) (subst (λ (y : List Record). AreApart c.args.removed.now y) (sym c.self.view_is) c.requires.apart) in
    share_none octets items (records_of taken) left (put_back taken left) c.removed.inside.groups.entries c.self.inside.owners.entries (parts_back taken left parted) c.removed.invariant.0 c.self.invariant.0

pub invariant_of-self-2 : goal.invariant_of-self-2
invariant_of-self-2 c =
    let taken : List Taken = c.removed.inside.taken.items in
    let left : List Record = c.self.inside.list.items in
    let list_is : c.put_all.new.list.items ≡ put_back taken left = c.put_all.ensures ∙ (λ i. put_back ((ap (λ v. v.items) c.replace-taken.ensures.value) i) (c.room_for.ensures.items i)) in
    let parted : AreApart taken left
    = subst (λ (x : List Taken). AreApart x left) (sym c.removed.view_is) (subst (λ (y : List Record). AreApart c.args.removed.now y) (sym c.self.view_is) c.requires.apart) in
    let both = grouped_joined octets items (records_of taken) left (put_back taken left) c.removed.inside.groups.entries c.self.inside.owners.entries (parts_back taken left parted) c.removed.invariant.0 c.self.invariant.0 in (
      subst (λ (x : List Record). IsGrouped octets items x c.join.new.owners.entries) (sym list_is) (c.in_ok-join.ensures.index (put_back taken left) both),
      subst (λ (x : List Record). AreCounted x c.join.new.below) (sym list_is) (counted_back lies_below taken left c.self.inside.below c.join.new.below c.self.invariant.1
          (λ name. c.in_ok-join.ensures.counts name ∙ ap {B = ℕ} (λ n. counted name c.self.inside.below + n) (c.removed.invariant.1 name))),
    )
