-- The flushes that a shelf keeps, and its faces.
use Rattle.std.specs.Prelude.{◌≡◌, ℕ, Bool, false, Option, None, List, map}
use Rattle.std.specs.List.{AllByRecursion}
use Rattle.dns_text.specs.declared.record.Question.{Question}
use Rattle.change_law.specs.declared.kept.KeptChange.{KeptChange}
use Rattle.change_law.specs.declared.fault.WorldFault.{WorldFault}
use Rattle.change_law.specs.declared.fault.WorldFault.TheVariants as world
use Rattle.change_law.specs.Choice.{is_done}
use Rattle.change_law.specs.Face.{Face}
use Rattle.std.specs.HashMap.{hasher_of}
use Rattle.std.specs.Map.{lookup}
use Rattle.std.specs.Option.{option_map_or}
use Rattle.dns_name.specs.Labels.{Labels}
use Rattle.dns_name.specs.Order.{name_eq}
use Rattle.ranked.specs.declared.find.Find.{Find}
use Rattle.ranked.specs.declared.find.Scope.{Scope}
use Rattle.ranked.specs.declared.cell.Admitted.{Admitted}
use Rattle.cell_store.specs.declared.owner.OwnerCells.{OwnerCells}
use Rattle.cell_store.specs.declared.seed.NameSeed.{NameSeed}
use Rattle.cell_store.specs.Store.{cell_by_owner}
use Rattle.cell_store.specs.Count.{has_place}
use Rattle.shelf.specs.declared.fault.StoreFault.{StoreFault}
use Rattle.shelf.specs.declared.fault.StoreFault.TheVariants as store
use Rattle.shelf.specs.declared.shelf.KeptFlush.{KeptFlush}
use Rattle.shelf.specs.declared.shelf.Shelf.{Shelf}
use Rattle.shelf.specs.declared.settling.Settling.{Settling}
use Rattle.shelf.specs.Settling.{settled_version}
use Rattle.shelf.specs.Sweep.{unswept}
use Rattle.ranked.specs.declared.cell.Shown.{Shown}
use Rattle.ranked.specs.Cell.{shown_at}
use Rattle.shelf.specs.Kept.{turned_over}
use Rattle.shelf.specs.Told.{chosen_version, shown_version}
use Rattle.store.specs.declared.world.SavedFlush.{SavedFlush}

-- what a shelf holds, by names, the seed of their hashes, the moments before which they need no sweep, which flushes it keeps, the permanent ones that have not reached each name, the greatest number so far, how many places count, and how many may
pub record Shelved : Type 0 where
  pub names : List (Labels × OwnerCells)
  pub seed : NameSeed
  pub moments : List ℕ
  pub flushes : List KeptFlush
  pub settlings : List Settling
  pub top : ℕ
  pub stored : ℕ
  pub limit : ℕ

abbrev pub shelved : Shelf → Shelved
shelved shelf = record { names = shelf.owners.entries; seed = hasher_of shelf.owners; moments = shelf.ends.moments; flushes = shelf.kept.items; settlings = shelf.settlings.items; top = shelf.top; stored = shelf.stored; limit = shelf.limit }

-- the cell of a question in a version
abbrev pub cell_at : Shelved → Question → ℕ → Option (Admitted Find)
cell_at shelf q v = cell_by_owner (lookup (name_eq q.owner) shelf.names) q.kind (settled_version shelf.settlings q.owner v)

-- the cell of a question, if of the kept flushes just the chosen ones were in force
abbrev pub cell_by : Shelved → (ℕ → Bool) → Question → Option (Admitted Find)
cell_by shelf chosen q = cell_at shelf q (chosen_version shelf.flushes q chosen)

-- whether the place of a pair counts
abbrev pub counts_in : Shelved → (Labels × Scope) → Bool
counts_in shelf pair = option_map_or (λ cells. has_place cells pair.1) (lookup (name_eq pair.0) shelf.names) false

-- a bound of what a sweep at a moment has left to do
abbrev pub unswept_in : Shelved → ℕ → ℕ
unswept_in shelf t = unswept shelf.moments shelf.settlings t

abbrev pub fault_told : StoreFault → WorldFault
fault_told (store.Full stored) = world.Full stored
fault_told store.NoMemory = world.NoMemory

-- the number of a flush, and whether it is in force: as the journal has it, and as the shelf has it
abbrev pub mark_of : KeptChange SavedFlush → ℕ × Bool
mark_of k = (k.ticket, is_done k.standing)

abbrev pub mark : KeptFlush → ℕ × Bool
mark own = (own.number, own.shown)

-- These are the flushes that the shelf keeps, by their numbers: the done ones are in force, the others are not.
pub record KeepsFlushes (shelf : Shelved) (kept : List (KeptChange SavedFlush)) : Type 0 where
  pub agree : map mark_of kept ≡ map mark shelf.flushes
  pub numbers : AllByRecursion (λ k. k.saved.number ≡ k.ticket) kept

-- what it would show, if of its flushes just the chosen ones were in force
abbrev pub face_by : Shelved → List (KeptChange SavedFlush) → (ℕ → Bool) → Face (Unit {0})
face_by shelf kept chosen = record { tables = tt; cell = cell_by shelf chosen }

-- what it shows: of each question, the cell of the last flush that is in force and covers it, or of none
abbrev pub shown_face : Shelved → Face (Unit {0})
shown_face shelf = record { tables = tt; cell = λ q. cell_at shelf q (shown_version shelf.flushes q) }

-- the kept flushes, if that of this number were undone, or redone
abbrev pub flushes_over : ℕ → Shelved → List KeptFlush
flushes_over number shelf = map (turned_over number) shelf.flushes

-- what it would show of a question at a moment, if a flush were undone, or redone
abbrev pub shows_over : Shelved → SavedFlush → ℕ → Question → Option (Shown Find)
shows_over shelf saved moment q = shown_at (cell_at shelf q (shown_version (flushes_over saved.number shelf) q)) moment

-- a face with no cell
abbrev pub empty_cells : Face (Unit {0})
empty_cells = record { tables = tt; cell = λ q. None }
