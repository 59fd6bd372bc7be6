use Rattle.std.proofs.Common.{◌≡◌, List, [], ◌++◌, ap, sym, ◌∙◌}
use Rattle.std.specs.Vec.Iter.{into_iter_items}
use Rattle.std.proofs.lemmas.List.{append-nil, nil_from_length}
use Rattle.dns_text.specs.declared.record.Record.{Record}
use Rattle.local_zone.specs.declared.taken.Taken.{Taken}
use Rattle.local_zone.specs.Gaps.{records_of}
use Rattle.local_zone.proofs.InPlaceLaws.{put_parts}
use Rattle.local_zone.proofs.in_place.put_few.Goals as goal

pub returns : goal.returns
returns c =
    let all : List Record = c.loop-t.list.items in
    let left : List Record = c.args.list.now.items in
    let none : into_iter_items c.loop-t.t-iterator ≡ [] = nil_from_length (into_iter_items c.loop-t.t-iterator) (sym c.loop-t.t-iterator.rest.ok.0 ∙ c.in-None.ensures.steps.0) in
    let is : all ≡ left ++ records_of c.args.taken.items = sym (append-nil all) ∙ ap (λ (x : List Taken). all ++ records_of x) (sym none) ∙ c.loop-t.invariant.list in
    put_parts c.args.taken.items c.args.gaps.now left all c.as_mut_slice.result.now c.restore.new.list _ c.len-left.result c.loop-t.list.len
    c.requires.gaps is (c.len-left.ensures ∙ c.args.list.now.ok.0) c.loop-t.list.ok.0 c.as_mut_slice.ensures.value c.restore.ensures c.restore.auto.list
