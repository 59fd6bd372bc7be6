use Rattle.std.proofs.Common.{arith}
use Rattle.outside.proofs.Remembering.{freed, freed_len}
use Rattle.outside.proofs.kept.make_room.Goals as goal

pub returns-clause-room : goal.returns-clause-room
returns-clause-room g c =
    freed g.K.PartialEq.eq g.V.Expires.until c.args.most c.args.now c.args.kept.now c.swap_remove_index.new.self c.in-Some.place c.swap_remove_index.result
    (omega arith) c.in-Some.ensures c.swap_remove_index.ensures.entry c.swap_remove_index.ensures.updates

pub returns-clause-made : goal.returns-clause-made
returns-clause-made g c = λ _.
    let free = c.in-Some.ensures in
    freed_len c.swap_remove_index.result _ (free.key, free.note) _ _ c.args.most c.swap_remove_index.ensures.entry free.here c.swap_remove_index.ensures.len c.requires

pub returns-clause-bound : goal.returns-clause-bound
returns-clause-bound g c =
    let free = c.in-Some.ensures in
    let low = freed_len c.swap_remove_index.result _ (free.key, free.note) _ _ c.args.most c.swap_remove_index.ensures.entry free.here c.swap_remove_index.ensures.len c.requires in
    omega arith
