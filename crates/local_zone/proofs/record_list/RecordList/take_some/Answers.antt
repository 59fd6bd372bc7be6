use Rattle.std.proofs.Common.{◌≡◌, ℕ, List, ◌-◌, ◌++◌, length, None, ap, sym, subst, ◌∙◌, inl, arith}
use Rattle.std.specs.List.{AllByRecursion}
use Rattle.dns_name.specs.Labels.{octets_of}
use Rattle.dns_text.specs.declared.record.Record.{Record}
use Rattle.local_zone.specs.declared.taken.Taken.{Taken}
use Rattle.local_zone.specs.CountsBelow.{counted, AreCounted, lies_below}
use Rattle.local_zone.specs.Gaps.{records_of, at_gaps, rest_of, AreApart, AreWithin}
use Rattle.local_zone.specs.Index.{of_owner, under, IsGrouped}
use Rattle.local_zone.proofs.CountsBelowLaws.{counted_left}
use Rattle.local_zone.proofs.GapLaws.{length_at}
use Rattle.local_zone.proofs.GroupLaws.{parts_cut, taken_parts}
use Rattle.local_zone.proofs.Keyed.{items, octets, nothing}
use Rattle.local_zone.proofs.record_list.RecordList.take_some.Goals as goal

pub move_groups-requires-clause-room : goal.move_groups-requires-clause-room
move_groups-requires-clause-room c =
    let taken_is : c.cut_out.new.taken.items ≡ at_gaps c.args.gaps.now c.self.inside.list.items = c.in_ok-cut_out.ensures.taken ∙ ap (λ (x : List Taken). x ++ at_gaps c.args.gaps.now c.self.inside.list.items) c.in_ok-taken.ensures.items in
    omega (arith, c.in_ok-groups.ensures.spare, ap (λ (x : List Taken). length x) (c.deref.ensures.value ∙ taken_is), length_at c.args.gaps.now c.self.inside.list.items)

pub move_groups-requires-clause-apart : goal.move_groups-requires-clause-apart
move_groups-requires-clause-apart c name =
    inl (ap (λ gs. under octets (octets_of name) gs) (nothing c.in_ok-groups.groups.entries c.in_ok-groups.ensures.len))

pub invariant_of-self : goal.invariant_of-self
invariant_of-self c =
    let same = c.in_err-cut_out.ensures.err.0 in (
      subst (λ (x : List Record). IsGrouped octets items x c.self.inside.owners.entries) (sym same) c.self.invariant.0,
      subst (λ (x : List Record). AreCounted x c.self.inside.below) (sym same) c.self.invariant.1,
    )

pub invariant_of-result : goal.invariant_of-result
invariant_of-result c =
    let before : List Record = c.self.inside.list.items in
    let gaps : List ℕ = c.args.gaps.now in
    let taken : List Taken = c.cut_out.new.taken.items in
    let left : List Record = c.cut_out.new.list.items in
    let within : AreWithin gaps before = subst (λ (x : List Record). AreWithin gaps x) (sym c.self.view_is) c.requires.within in
    let apart : AreApart (at_gaps gaps before) (rest_of gaps before) = subst (λ (x : List Record). AreApart (at_gaps gaps x) (rest_of gaps x)) (sym c.self.view_is) c.requires.apart in
    let taken_is : taken ≡ at_gaps gaps before = c.in_ok-cut_out.ensures.taken ∙ ap (λ (x : List Taken). x ++ at_gaps gaps before) c.in_ok-taken.ensures.items in
    let left_is : left ≡ rest_of gaps before = c.in_ok-cut_out.ensures.list in
    let both =
    taken_parts octets items before taken left c.move_groups.new.groups.entries c.move_groups.new.owners.entries c.self.inside.owners.entries
    (parts_cut before gaps taken left within apart taken_is left_is) c.self.invariant.0
    (λ records h. c.move_groups.ensures.index records (subst (λ gs. IsGrouped octets items records (gs ++ c.self.inside.owners.entries)) (sym (nothing c.in_ok-groups.groups.entries c.in_ok-groups.ensures.len)) h))
    (subst (λ (ts : List Taken). AllByRecursion (λ (t : Taken). under octets (octets_of t.item.owner) c.move_groups.new.owners.entries ≡ None) ts) c.deref.ensures.value c.move_groups.ensures.gone)
    (λ owner none. c.move_groups.ensures.only owner (ap (λ (ts : List Taken). of_owner owner (records_of ts)) c.deref.ensures.value ∙ none) (ap (λ gs. under octets (octets_of owner) gs) (nothing c.in_ok-groups.groups.entries c.in_ok-groups.ensures.len))) in
    let are : AreCounted (records_of taken) c.in_ok-below.below
    = subst (λ (ts : List Taken). AreCounted (records_of ts) c.in_ok-below.below) (ap (λ (rs : List Record). at_gaps gaps rs) c.as_slice.ensures.value ∙ sym taken_is) c.in_ok-below.ensures in
    (both.0, are)

pub invariant_of-self-2 : goal.invariant_of-self-2
invariant_of-self-2 c =
    let before : List Record = c.self.inside.list.items in
    let gaps : List ℕ = c.args.gaps.now in
    let taken : List Taken = c.cut_out.new.taken.items in
    let left : List Record = c.cut_out.new.list.items in
    let within : AreWithin gaps before = subst (λ (x : List Record). AreWithin gaps x) (sym c.self.view_is) c.requires.within in
    let apart : AreApart (at_gaps gaps before) (rest_of gaps before) = subst (λ (x : List Record). AreApart (at_gaps gaps x) (rest_of gaps x)) (sym c.self.view_is) c.requires.apart in
    let taken_is : taken ≡ at_gaps gaps before = c.in_ok-cut_out.ensures.taken ∙ ap (λ (x : List Taken). x ++ at_gaps gaps before) c.in_ok-taken.ensures.items in
    let left_is : left ≡ rest_of gaps before = c.in_ok-cut_out.ensures.list in
    let both =
    taken_parts octets items before taken left c.move_groups.new.groups.entries c.move_groups.new.owners.entries c.self.inside.owners.entries
    (parts_cut before gaps taken left within apart taken_is left_is) c.self.invariant.0
    (λ records h. c.move_groups.ensures.index records (subst (λ gs. IsGrouped octets items records (gs ++ c.self.inside.owners.entries)) (sym (nothing c.in_ok-groups.groups.entries c.in_ok-groups.ensures.len)) h))
    (subst (λ (ts : List Taken). AllByRecursion (λ (t : Taken). under octets (octets_of t.item.owner) c.move_groups.new.owners.entries ≡ None) ts) c.deref.ensures.value c.move_groups.ensures.gone)
    (λ owner none. c.move_groups.ensures.only owner (ap (λ (ts : List Taken). of_owner owner (records_of ts)) c.deref.ensures.value ∙ none) (ap (λ gs. under octets (octets_of owner) gs) (nothing c.in_ok-groups.groups.entries c.in_ok-groups.ensures.len))) in
    let are : AreCounted (records_of taken) c.in_ok-below.below
    = subst (λ (ts : List Taken). AreCounted (records_of ts) c.in_ok-below.below) (ap (λ (rs : List Record). at_gaps gaps rs) c.as_slice.ensures.value ∙ sym taken_is) c.in_ok-below.ensures in (
      both.1,
      counted_left lies_below before gaps taken left c.self.inside.below c.remove_all.new.self within taken_is left_is c.self.invariant.1
          (λ name. c.remove_all.ensures name ∙ ap {B = ℕ} (λ n. counted name c.self.inside.below - n) (are name)),
    )
