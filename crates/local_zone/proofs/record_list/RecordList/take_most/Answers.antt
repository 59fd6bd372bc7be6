use Rattle.std.proofs.Common.{◌≡◌, ℕ, List, ◌-◌, ◌++◌, length, None, ap, sym, subst, ◌∙◌, inl, arith}
use Rattle.std.specs.List.{AllByRecursion}
use Rattle.dns_name.specs.Labels.{octets_of}
use Rattle.dns_text.specs.declared.record.Record.{Record}
use Rattle.local_zone.specs.declared.taken.Taken.{Taken}
use Rattle.local_zone.specs.CountsBelow.{counted, AreCounted, lies_below}
use Rattle.local_zone.specs.Gaps.{records_of, at_gaps, rest_of, AreApart, AreWithin}
use Rattle.local_zone.specs.Index.{of_owner, under, IsGrouped}
use Rattle.local_zone.proofs.CountsBelowLaws.{counted_gone}
use Rattle.local_zone.proofs.GroupLaws.{kept_parts, parts_cut}
use Rattle.local_zone.proofs.InPlaceLaws.{length_rest}
use Rattle.local_zone.proofs.Keyed.{items, octets, nothing}
use Rattle.local_zone.proofs.record_list.RecordList.take_most.Goals as goal

pub overflow_sub-stay : goal.overflow_sub-stay
overflow_sub-stay c =
    let gaps : List ℕ = c.args.gaps.now in
    let before : List Record = c.self.inside.list.items in
    let within : AreWithin gaps before = subst (λ (x : List Record). AreWithin gaps x) (sym c.self.view_is) c.requires.within in
    omega (arith, length_rest gaps before within, c.self.inside.list.ok.0)

pub keep_groups-requires-clause-room : goal.keep_groups-requires-clause-room
keep_groups-requires-clause-room c =
    let gaps : List ℕ = c.args.gaps.now in
    let before : List Record = c.self.inside.list.items in
    let within : AreWithin gaps before = subst (λ (x : List Record). AreWithin gaps x) (sym c.self.view_is) c.requires.within in
    omega (arith, c.in_ok-kept.ensures.spare, ap (λ (x : List Record). length x) (c.deref.ensures.value ∙ c.in_ok-cut_out.ensures.list), length_rest gaps before within, c.self.inside.list.ok.0)

pub keep_groups-requires-clause-apart : goal.keep_groups-requires-clause-apart
keep_groups-requires-clause-apart c name =
    inl (ap (λ gs. under octets (octets_of name) gs) (nothing c.in_ok-kept.kept.entries c.in_ok-kept.ensures.len))

pub invariant_of-self : goal.invariant_of-self
invariant_of-self c =
    let same = c.in_err-cut_out.ensures.err.0 in (
      subst (λ (x : List Record). IsGrouped octets items x c.self.inside.owners.entries) (sym same) c.self.invariant.0,
      subst (λ (x : List Record). AreCounted x c.self.inside.below) (sym same) c.self.invariant.1,
    )

pub invariant_of-self-2 : goal.invariant_of-self-2
invariant_of-self-2 c =
    let before : List Record = c.self.inside.list.items in
    let gaps : List ℕ = c.args.gaps.now in
    let taken : List Taken = c.cut_out.new.taken.items in
    let left : List Record = c.cut_out.new.list.items in
    let within : AreWithin gaps before = subst (λ (x : List Record). AreWithin gaps x) (sym c.self.view_is) c.requires.within in
    let apart : AreApart (at_gaps gaps before) (rest_of gaps before) = subst (λ (x : List Record). AreApart (at_gaps gaps x) (rest_of gaps x)) (sym c.self.view_is) c.requires.apart in
    let taken_is : taken ≡ at_gaps gaps before = c.in_ok-cut_out.ensures.taken ∙ ap (λ (x : List Taken). x ++ at_gaps gaps before) c.in_ok-taken.ensures.items in
    let left_is : left ≡ rest_of gaps before = c.in_ok-cut_out.ensures.list in
    let both =
    kept_parts octets items before taken left c.keep_groups.new.kept.entries c.keep_groups.new.owners.entries c.self.inside.owners.entries
    (parts_cut before gaps taken left within apart taken_is left_is) c.self.invariant.0
    (λ records h. c.keep_groups.ensures.index records (subst (λ gs. IsGrouped octets items records (gs ++ c.self.inside.owners.entries)) (sym (nothing c.in_ok-kept.kept.entries c.in_ok-kept.ensures.len)) h))
    (subst (λ (rs : List Record). AllByRecursion (λ (r : Record). under octets (octets_of r.owner) c.keep_groups.new.owners.entries ≡ None) rs) c.deref.ensures.value c.keep_groups.ensures.gone)
    (λ owner none. c.keep_groups.ensures.only owner (ap (λ (rs : List Record). of_owner owner rs) c.deref.ensures.value ∙ none) (ap (λ gs. under octets (octets_of owner) gs) (nothing c.in_ok-kept.kept.entries c.in_ok-kept.ensures.len))) in
    let are : AreCounted left c.in_ok-counts.counts
    = subst (λ (rs : List Record). AreCounted rs c.in_ok-counts.counts) (ap (λ (rs : List Record). rest_of gaps rs) c.as_slice.ensures.value ∙ sym left_is) c.in_ok-counts.ensures in (
      subst (λ gs. IsGrouped octets items left gs) (sym (ap (λ m. m.entries) c.replace-groups.ensures.after)) both.0,
      subst (λ (cs : List (List ℕ × ℕ)). AreCounted left cs) (sym c.replace-below.ensures.after) are,
    )

pub invariant_of-result : goal.invariant_of-result
invariant_of-result c =
    let before : List Record = c.self.inside.list.items in
    let gaps : List ℕ = c.args.gaps.now in
    let taken : List Taken = c.cut_out.new.taken.items in
    let left : List Record = c.cut_out.new.list.items in
    let within : AreWithin gaps before = subst (λ (x : List Record). AreWithin gaps x) (sym c.self.view_is) c.requires.within in
    let apart : AreApart (at_gaps gaps before) (rest_of gaps before) = subst (λ (x : List Record). AreApart (at_gaps gaps x) (rest_of gaps x)) (sym c.self.view_is) c.requires.apart in
    let taken_is : taken ≡ at_gaps gaps before = c.in_ok-cut_out.ensures.taken ∙ ap (λ (x : List Taken). x ++ at_gaps gaps before) c.in_ok-taken.ensures.items in
    let left_is : left ≡ rest_of gaps before = c.in_ok-cut_out.ensures.list in
    let both =
    kept_parts octets items before taken left c.keep_groups.new.kept.entries c.keep_groups.new.owners.entries c.self.inside.owners.entries
    (parts_cut before gaps taken left within apart taken_is left_is) c.self.invariant.0
    (λ records h. c.keep_groups.ensures.index records (subst (λ gs. IsGrouped octets items records (gs ++ c.self.inside.owners.entries)) (sym (nothing c.in_ok-kept.kept.entries c.in_ok-kept.ensures.len)) h))
    (subst (λ (rs : List Record). AllByRecursion (λ (r : Record). under octets (octets_of r.owner) c.keep_groups.new.owners.entries ≡ None) rs) c.deref.ensures.value c.keep_groups.ensures.gone)
    (λ owner none. c.keep_groups.ensures.only owner (ap (λ (rs : List Record). of_owner owner rs) c.deref.ensures.value ∙ none) (ap (λ gs. under octets (octets_of owner) gs) (nothing c.in_ok-kept.kept.entries c.in_ok-kept.ensures.len))) in
    let are : AreCounted left c.in_ok-counts.counts
    = subst (λ (rs : List Record). AreCounted rs c.in_ok-counts.counts) (ap (λ (rs : List Record). rest_of gaps rs) c.as_slice.ensures.value ∙ sym left_is) c.in_ok-counts.ensures in (
      subst (λ gs. IsGrouped octets items (records_of taken) gs) (sym (ap (λ m. m.entries) c.replace-groups.ensures.value)) both.1,
      subst (λ (cs : List (List ℕ × ℕ)). AreCounted (records_of taken) cs) (sym c.replace-below.ensures.value)
          (counted_gone lies_below before gaps taken left c.self.inside.below c.remove_all.new.self within taken_is left_is c.self.invariant.1
          (λ name. c.remove_all.ensures name ∙ ap {B = ℕ} (λ n. counted name c.self.inside.below - n) (are name))),
    )
