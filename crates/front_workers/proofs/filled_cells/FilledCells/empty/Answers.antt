use Rattle.std.proofs.Common.{◌≡◌, ◌<◌, get_or, length, None, Some, ◌∙◌, arith}
use Rattle.front_workers.proofs.filled_cells.FilledCells.empty.Goals as goal
use Rattle.front_workers.proofs.Filling.{is_counted, is_known, read_as}

pub index_mut-requires-in-Some : goal.index_mut-requires-in-Some
index_mut-requires-in-Some c =
    let was = c.args.self.now in
    let within : c.args.place < length was.places.items = omega arith in
    let at : get_or was.places.items c.args.place None ≡ Some c.in-Some.cell = read_as was.places.items c.args.place _ None within c.index-was.ensures ∙ c.in-Some.is in
    let known = is_known was.places.items c.args.place within was.held.items was.each c.in-Some.cell at in
    omega (arith, known)

pub overflow_sub-index_mut : goal.overflow_sub-index_mut
overflow_sub-index_mut c =
    let was = c.args.self.now in
    let within : c.args.place < length was.places.items = omega arith in
    let at : get_or was.places.items c.args.place None ≡ Some c.in-Some.cell = read_as was.places.items c.args.place _ None within c.index-was.ensures ∙ c.in-Some.is in
    let known = is_known was.places.items c.args.place within was.held.items was.each c.in-Some.cell at in
    let counted = is_counted was.places.items c.args.place within was.held.items was.each c.in-Some.cell at in
    omega (arith, counted, read_as was.held.items c.in-Some.cell.counter _ 0 known c.index_mut-in-Some.ensures.value)
