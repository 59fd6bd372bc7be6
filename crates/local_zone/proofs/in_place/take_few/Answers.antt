use Rattle.std.proofs.Common.{◌-◌, List, ◌++◌, length, take, drop, ap, ◌∙◌}
use Rattle.dns_text.specs.declared.record.Record.{Record}
use Rattle.local_zone.specs.declared.taken.Taken.{Taken}
use Rattle.local_zone.specs.InPlace.{paired}
use Rattle.local_zone.proofs.InPlaceLaws.{gathered_parts, paired_at, written}
use Rattle.local_zone.proofs.in_place.take_few.Goals as goal

pub pop_taken-requires-clause-enough : goal.pop_taken-requires-clause-enough
pop_taken-requires-clause-enough c =
    let list = c.args.list.now in
    (gathered_parts c.args.gaps.now list.items c.as_mut_slice.result.now c.gather.new.list list.len c.requires.within list.ok.0 c.as_mut_slice.ensures.value c.gather.ensures).0

pub returns-clause-list : goal.returns-clause-list
returns-clause-list c =
    let list = c.args.list.now in
    let made = c.gather.new.list in
    let parts = gathered_parts c.args.gaps.now list.items c.as_mut_slice.result.now made list.len c.requires.within list.ok.0 c.as_mut_slice.ensures.value c.gather.ensures in
    c.pop_taken.ensures.list ∙ ap (λ (x : List Record). take (list.len - length c.args.gaps.now) x) (written made list.items list.len parts.3) ∙ parts.1

pub returns-clause-taken : goal.returns-clause-taken
returns-clause-taken c =
    let gaps = c.args.gaps.now in
    let list = c.args.list.now in
    let taken : List Taken = c.args.taken.now.items in
    let made = c.gather.new.list in
    let parts = gathered_parts gaps list.items c.as_mut_slice.result.now made list.len c.requires.within list.ok.0 c.as_mut_slice.ensures.value c.gather.ensures in
    c.pop_taken.ensures.taken
    ∙ ap (λ (x : List Record). taken ++ paired gaps (drop (list.len - length gaps) x)) (written made list.items list.len parts.3)
    ∙ ap (λ (x : List Record). taken ++ paired gaps x) parts.2
    ∙ ap (λ (x : List Taken). taken ++ x) (paired_at gaps list.items c.requires.within)
