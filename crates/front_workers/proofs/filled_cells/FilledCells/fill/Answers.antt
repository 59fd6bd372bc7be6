use Rattle.std.proofs.Common.{◌<◌, length, is_some, None, refl, arith}
use Rattle.std.proofs.lemmas.Option.{get_or_from_slice_get, slice_get_within}
use Rattle.front_workers.proofs.filled_cells.FilledCells.fill.Goals as goal
use Rattle.front_workers.proofs.Filling.{few_held, filled, filled_each, read_as}

pub overflow_add-index_mut : goal.overflow_add-index_mut
overflow_add-index_mut c =
    let was = c.args.self.now in
    let within = slice_get_within was.places.items c.args.place None c.requires.vacant in
    let few = few_held was.places.items c.args.place within was.held.items was.each c.args.cell.counter in
    let known : c.args.cell.counter < length was.held.items = omega (arith, was.counters, c.requires.known) in
    omega (arith, few, read_as was.held.items c.args.cell.counter _ 0 known c.index_mut-2.ensures.value)

pub invariant_of-self : goal.invariant_of-self
invariant_of-self c =
    let was = c.args.self.now in
    let within = slice_get_within was.places.items c.args.place None c.requires.vacant in
    let vacant = get_or_from_slice_get was.places.items c.args.place None None c.requires.vacant in
    let known : c.args.cell.counter < length was.held.items = omega (arith, was.counters, c.requires.known) in
    let read = read_as was.held.items c.args.cell.counter _ 0 known c.index_mut-2.ensures.value in
    record {
      counters = was.counters;
      all = omega (arith, was.all, filled was.places.items c.args.place within is_some c.args.cell refl vacant);
      each = λ counter. rw read at (filled_each was.places.items c.args.place within was.held.items was.each c.args.cell vacant known counter);
    }
