-- Room for a find: whether a version would cache it, and whether there is room for its place.
use Rattle.std.specs.Prelude.{◌≡◌, ◌≤◌, ◌+◌, ℕ, Bool, true, false, ◌==◌, ◌&&◌, not, position, List, Option, fold, if◌then◌else◌}
use Rattle.std.specs.Map.{keys_of}
use Rattle.dns_name.specs.Order.{name_eq}
use Rattle.dns_text.specs.declared.record.Question.{Question}
use Rattle.ranked.specs.declared.find.Find.{Find}
use Rattle.ranked.specs.declared.find.Scope.{Scope}
use Rattle.ranked.specs.declared.find.Scope.TheVariants.{One, Whole}
use Rattle.ranked.specs.declared.cell.Admitted.{Admitted}
use Rattle.ranked.specs.declared.cell.Fate.{Fate}
use Rattle.ranked.specs.declared.cell.Fate.TheVariants.{Taken, Outranked}
use Rattle.ranked.specs.Find.{admission_of}
use Rattle.ranked.specs.Cell.{turns_away}
use Rattle.cell_store.specs.Count.{has_place_for, one_if}
use Rattle.shelf.specs.declared.shelf.KeptFlush.{KeptFlush}
use Rattle.shelf.specs.declared.shelf.Shelf.{Shelf}
use Rattle.shelf.specs.declared.room.Room.{Room}
use Rattle.shelf.specs.declared.room.Room.TheVariants as room
use Rattle.shelf.specs.declared.fault.StoreFault.{StoreFault}
use Rattle.shelf.specs.declared.fault.StoreFault.TheVariants.{Full, NoMemory}
use Rattle.ranked.specs.Flush.{covers}
use Rattle.shelf.specs.Told.{cell_at, shown_version}

-- whether a version would cache the find: its content is dead by then, or not of higher rank
abbrev pub takes : (Question → ℕ → Option (Admitted Find)) → Find → ℕ → Question → ℕ → Bool
takes cells find moment question v = not (turns_away (cells question v) (admission_of find find moment))

-- whether a version has content of a type that is alive at a moment and outranks a find
abbrev pub is_outranked : Shelf → Find → ℕ → ℕ → ℕ → Bool
is_outranked shelf find kind version moment =
    turns_away (cell_at shelf (record { owner = find.owner; kind = kind }) version) (admission_of find find moment)

-- whether a version so far would, or that of this flush if it covers the question
abbrev pub taken_by : (Question → ℕ → Option (Admitted Find)) → Find → ℕ → Question → Bool → KeptFlush → Bool
taken_by cells find moment question taken own = if covers own.flush question && takes cells find moment question own.number then true else taken

-- whether some version would cache the find: version 0, or that of a kept flush that covers the question
abbrev pub is_taken : (Question → ℕ → Option (Admitted Find)) → List KeptFlush → Find → ℕ → Question → Bool
is_taken cells kept find moment question = fold (taken_by cells find moment question) (takes cells find moment question 0) kept

-- whether some version would cache a find of this scope: a find about every type is always cached
abbrev pub is_wanted : Shelf → Find → ℕ → Scope → Bool
is_wanted shelf find moment (One kind) = is_taken (cell_at shelf) shelf.kept.items find moment (record { owner = find.owner; kind = kind })
is_wanted shelf find moment Whole = true

-- whether the find needs a new place
abbrev pub needs_place : Shelf → Find → ℕ → Bool
needs_place shelf find moment = not (has_place_for shelf.owners find) && is_wanted shelf find moment find.scope

-- whether there is room for a find
abbrev pub room_for : Shelf → Find → ℕ → Room
room_for shelf find moment =
    if has_place_for shelf.owners find then room.Free else
    if is_wanted shelf find moment find.scope then (if shelf.stored == shelf.limit then room.Full else room.Free) else room.Unwanted

-- It is the place that a look-up finds for the owner of a find, and its own place counts already or there is room for one more.
abbrev pub HasRoomFor : Find → Option ℕ → Shelf → Type 0
HasRoomFor find place shelf =
    (place ≡ position (name_eq find.owner) (keys_of shelf.owners.entries)) × (shelf.stored + one_if (not (has_place_for shelf.owners find)) ≤ shelf.limit)

-- the outcome for a find about one type: it is outranked if the content in force is alive then and of higher rank
abbrev pub kind_fate : Shelf → Find → ℕ → ℕ → Fate
kind_fate shelf find moment kind =
    if turns_away (cell_at shelf (record { owner = find.owner; kind = kind }) (shown_version shelf.kept.items (record { owner = find.owner; kind = kind }))) (admission_of find find moment) then Outranked else Taken

-- the outcome of an admission; nothing outranks a find about every type
abbrev pub fate_of : Shelf → Find → ℕ → Scope → Fate
fate_of shelf find moment (One kind) = kind_fate shelf find moment kind
fate_of shelf find moment Whole = Taken

-- The fault of an admission: no memory, for a find whose place is not counted yet. Or the find needs a new place, and the counted ones are at the limit.
abbrev pub IsFault : Shelf → Find → ℕ → StoreFault → Type 0
IsFault shelf find moment NoMemory = has_place_for shelf.owners find ≡ false
IsFault shelf find moment (Full stored) = (stored ≡ shelf.stored) × (shelf.stored ≡ shelf.limit) × (needs_place shelf find moment ≡ true)
