-- The book that keeps no history.
use Rattle.std.specs.Prelude.{ℕ, ◌+◌, List, Option, length}
use Rattle.dns_text.specs.declared.record.Question.{Question}
use Rattle.ranked.specs.declared.cell.Admitted.{Admitted}
use Rattle.ranked.specs.declared.find.Find.{Find}
use Rattle.change_law.specs.Pairs.{AreNeeded}
use Rattle.cell_store.specs.declared.seed.NameSeed.{NameSeed}
use Rattle.store.specs.Kept.{kept_in}
use Rattle.store.specs.Store.{KeepsStore, store_face}
use Rattle.store.specs.World.{counts_in}
use Rattle.store.specs.declared.store.Store.{Store}
use Rattle.store.specs.declared.shelf_book.ShelfBook.{ShelfBook}

-- the seed with which its cache hashes names
abbrev pub seed_of : ShelfBook → NameSeed
seed_of book = book.book.world.cells.seed

-- how many names its cache has
abbrev pub names_of : ShelfBook → ℕ
names_of book = length book.book.world.cells.names

-- how many permanent flushes of zones have names of its cache left to reach
abbrev pub reaching_of : ShelfBook → ℕ
reaching_of book = length book.book.world.cells.settlings

-- how many commands its journal keeps
abbrev pub commands_of : ShelfBook → ℕ
commands_of book = length book.book.changes.kept

-- how many versions a place of its cache may have: one for each flush of the journal, and one without them
abbrev pub versions_of : ShelfBook → ℕ
versions_of book = length book.book.world.cells.flushes + 1

-- the cells that its cache keeps for a question
abbrev pub cells_of : ShelfBook → Question → List (Option (Admitted Find))
cells_of book question = kept_in book.book.world.cells question

-- Each pair that counts in its cache is needed now: a find about it is alive by some choice of the kept commands.
abbrev pub CountsOnlyNeeded : ShelfBook → Type 0
CountsOnlyNeeded book = AreNeeded (λ (store : Store) pair. counts_in store.cells pair) KeepsStore store_face book.book.moment book.book.world
