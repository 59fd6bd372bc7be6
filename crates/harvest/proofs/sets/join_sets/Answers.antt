use Rattle.std.proofs.Common.{◌≡◌, None, Some, get_or, sym, ap, ◌∙◌}
use Rattle.std.specs.Prelude.{slice_set}
use Rattle.std.specs.BTreeMap.{get}
use Rattle.harvest.specs.Indexed.{place_cmp, place_key}
use Rattle.harvest.specs.Sets.{Set, joined, key_of}
use Rattle.harvest.proofs.IndexedLaws.{none_there, one_there}
use Rattle.harvest.proofs.sets.join_sets.Goals as goal

pub returns-in-None-clause-sets : goal.returns-in-None-clause-sets
returns-in-None-clause-sets c =
    let absent : get place_cmp c.args.places.now (place_key (key_of c.args.r.now)) ≡ None = sym c.in_ok-place_of.ensures ∙ c.in-None.is in
    sym (none_there c.args.places.now c.args.sets.now c.requires c.args.r.now absent).0

pub returns-in-None-clause-told : goal.returns-in-None-clause-told
returns-in-None-clause-told c =
    let absent : get place_cmp c.args.places.now (place_key (key_of c.args.r.now)) ≡ None = sym c.in_ok-place_of.ensures ∙ c.in-None.is in
    sym (none_there c.args.places.now c.args.sets.now c.requires c.args.r.now absent).1

pub returns-in_ok-join-in-Some-clause-sets : goal.returns-in_ok-join-in-Some-clause-sets
returns-in_ok-join-in-Some-clause-sets c =
    let sets = c.args.sets.now in
    let i = c.in-Some.i in
    let d = c.index-sets-i.result in
    let there : get place_cmp c.args.places.now (place_key (key_of c.args.r.now)) ≡ Some i = sym c.in_ok-place_of.ensures ∙ c.in-Some.is in
    let now : c.join.new.self ≡ joined c.args.r.now (get_or sets i d) = c.in_ok-join-in-Some.ensures.set in
    ap (λ (s : Set). slice_set sets i s) now ∙ (one_there c.args.places.now sets c.requires c.args.r.now i d there).0

pub returns-in_ok-join-in-Some-clause-told : goal.returns-in_ok-join-in-Some-clause-told
returns-in_ok-join-in-Some-clause-told c =
    let there : get place_cmp c.args.places.now (place_key (key_of c.args.r.now)) ≡ Some c.in-Some.i = sym c.in_ok-place_of.ensures ∙ c.in-Some.is in
    sym (one_there c.args.places.now c.args.sets.now c.requires c.args.r.now c.in-Some.i c.index-sets-i.result there).1
