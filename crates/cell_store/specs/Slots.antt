-- The finds of a column, each kept once: its cells refer to them by slot.
use Rattle.std.specs.Prelude.{ℕ, Bool, true, false, ◌≡◌, ◌<◌, ◌==◌, List, Option, None, Some, slice_get, if◌then◌else◌}
use Rattle.std.specs.List.{list_any}
use Rattle.std.specs.Option.{option_map}
use Rattle.ranked.specs.declared.cell.Admitted.{Admitted}
use Rattle.ranked.specs.Cell.{admitted_map}
use Rattle.cell_store.specs.declared.version.Place.{Place}
use Rattle.cell_store.specs.declared.version.Version.{Version}

-- the content of a cell, with the find in place of its slot
abbrev pub held_of : {F : Type 0} → List F → Option (Admitted ℕ) → Option (Admitted F)
held_of finds None = None
held_of finds (Some held) = option_map (λ find. admitted_map (λ _. find) held) (slice_get finds held.body)

-- a place with the find in place of its slot
abbrev pub place_of : {F : Type 0} → List F → Place ℕ → Place F
place_of finds place = record { left = place.left; cell = record { held = held_of finds place.cell.held } }

-- an entry with the find in place of its slot
abbrev pub version_of : {F : Type 0} → List F → Version ℕ → Version F
version_of finds version = record { from = version.from; place = place_of finds version.place }

-- whether a cell refers to a slot
abbrev pub held_names : ℕ → Option (Admitted ℕ) → Bool
held_names slot None = false
held_names slot (Some held) = held.body == slot

-- whether an entry refers to a slot
abbrev pub names : ℕ → Version ℕ → Bool
names slot version = held_names slot version.place.cell.held

-- A cell refers only to a slot that has a find.
abbrev pub IsHeldWithin : ℕ → Option (Admitted ℕ) → Type 0
IsHeldWithin slots None = Unit {0}
IsHeldWithin slots (Some held) = held.body < slots

-- An entry refers only to a slot that has a find.
abbrev pub IsWithin : ℕ → Version ℕ → Type 0
IsWithin slots version = IsHeldWithin slots version.place.cell.held

-- Some cell refers to each slot.
abbrev pub AreNamed : List (Version ℕ) → ℕ → Type 0
AreNamed versions slots = (slot : ℕ) → slot < slots → list_any (names slot) versions ≡ true

-- the content of a cell, with the new slot in place of the old one
abbrev pub renamed_held : ℕ → ℕ → Option (Admitted ℕ) → Option (Admitted ℕ)
renamed_held old new None = None
renamed_held old new (Some held) = Some (record { rank = held.rank; ttl = held.ttl; since = held.since; body = if held.body == old then new else held.body })

-- an entry, with the new slot in place of the old one
abbrev pub renamed : ℕ → ℕ → Version ℕ → Version ℕ
renamed old new version = record { from = version.from; place = record { left = version.place.left; cell = record { held = renamed_held old new version.place.cell.held } } }
