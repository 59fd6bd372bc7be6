-- The index of a log: the entries that can change a cell.
use Rattle.std.specs.Prelude.{ℕ, ◌+◌, ◌==◌, Bool, true, Option, Some, None, List, [], ◌∷◌, fold, if◌then◌else◌, slice_get}
use Rattle.std.specs.List.{cons_option}
use Rattle.std.specs.Option.{option_map_or}
use Rattle.std.specs.Hash.FoldHasher as folding
use Rattle.dns_name.specs.Labels.{Labels}
use Rattle.dns_name.specs.Order.{name_hash_input}
use Rattle.dns_text.specs.declared.record.Question.{Question}
use Rattle.ranked.specs.declared.find.Find.{Find}
use Rattle.ranked.specs.declared.cell.Admitted.{Admitted}
use Rattle.history.specs.declared.event.Event.{Event}
use Rattle.history.specs.declared.event.Event.TheVariants.{Admit, Forget, Do}
use Rattle.undo_book.specs.declared.index.Indexed.{Indexed}
use Rattle.undo_book.specs.declared.log.Logged.{Logged}
use Rattle.undo_book.specs.Plain.{cell_after_logged}

-- a number of a name
abbrev pub tag_of : Labels → ℕ
tag_of name = folding.finish (fold folding.write folding.initial (name_hash_input name))

-- what the index of an entry holds: an admission or a forget is under its owner's tag, a command under none
abbrev pub index_of_entry : ℕ → Event → Option Indexed
index_of_entry at (Admit moment find) = Some (record { at = at; tag = Some (tag_of find.owner) })
index_of_entry at (Forget moment owner) = Some (record { at = at; tag = Some (tag_of owner) })
index_of_entry at (Do moment command) = Some (record { at = at; tag = None })
index_of_entry at event = None

-- the index of a log whose first entry is here
abbrev pub index_from : ℕ → List Logged → List Indexed
index_from at [] = []
index_from at (logged ∷ log) = cons_option (index_of_entry at logged.entry.event) (index_from (at + 1) log)

-- whether what is under this tag may be about a name of that one
abbrev pub concerns : ℕ → Option ℕ → Bool
concerns tag (Some own) = own == tag
concerns tag None = true

-- a cell after the entry that the index names
abbrev pub cell_after_indexed : Question → List Logged → Option (Admitted Find) → Indexed → Option (Admitted Find)
cell_after_indexed question log cell indexed =
    if concerns (tag_of question.owner) indexed.tag then option_map_or (λ logged. cell_after_logged question cell logged) (slice_get log indexed.at) cell else cell
