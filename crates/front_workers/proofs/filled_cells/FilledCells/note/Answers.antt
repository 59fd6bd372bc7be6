use Rattle.std.proofs.Common.{◌≡◌, ◌∙◌, List, Option, None, Some, ap, length, slice_set, arith}
use Rattle.std.proofs.lemmas.List.{set-set}
use Rattle.front_workers.specs.declared.filled_cells.Filled.{Filled}
use Rattle.front_workers.proofs.filled_cells.FilledCells.note.Goals as goal

pub returns-clause-noted : goal.returns-clause-noted
returns-clause-noted c whole =
    let was = c.args.self.now in
    let count : c.len-rows.result ≡ length was.places.items = omega arith in
    let chosen = rw count at c.place_of-place.ensures.place in
    let emptied = ap (λ (places : List (Option Filled)). slice_set places c.place_of-place.result (Some c.args.cell)) c.empty.ensures in
    (c.place_of-place.result, chosen, c.fill.ensures ∙ emptied ∙ set-set was.places.items c.place_of-place.result None (Some c.args.cell))
