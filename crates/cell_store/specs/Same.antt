-- Cells with the same content: the same find, admitted at the same moment.
use Rattle.std.specs.Prelude.{◌==◌, ◌&&◌, Bool, true, false, Option, Some, None}
use Rattle.std.specs.Option.{option_map}
use Rattle.std.specs.Borrow.{Bor}
use Rattle.ranked.specs.declared.find.Find.{Find}
use Rattle.ranked.specs.declared.cell.Admitted.{Admitted}
use Rattle.ranked.specs.Cell.{admitted_map}
use Rattle.ranked.specs.Equal.{find_eq}
use Rattle.cell_store.specs.declared.version.Place.{Place}

-- whether two cells have the same find from the same moment, or none
abbrev pub same_cell : Option (Admitted Find) → Option (Admitted Find) → Bool
same_cell None None = true
same_cell (Some a) (Some b) = a.since == b.since && find_eq a.body b.body
same_cell None (Some b) = false
same_cell (Some a) None = false

-- a borrowed cell, with the find itself
abbrev pub cell_now : Option (Admitted (Bor Find)) → Option (Admitted Find)
cell_now held = option_map (admitted_map (λ find. find.now)) held

-- a borrowed place, with the find itself
abbrev pub place_now : Place (Bor Find) → Place Find
place_now place = record { left = place.left; cell = record { held = cell_now place.cell.held } }
