-- The cached data of each question: a replay, from nothing, of what is in force.
use Rattle.std.specs.Prelude.{ℕ, max, Option, None, List, fold, if◌then◌else◌}
use Rattle.std.specs.Borrow.{Bor}
use Rattle.std.specs.Option.{option_map}
use Rattle.dns_name.specs.Order.{name_eq}
use Rattle.dns_text.specs.declared.record.Question.{Question}
use Rattle.ranked.specs.declared.find.Find.{Find}
use Rattle.ranked.specs.declared.cell.Admitted.{Admitted}
use Rattle.ranked.specs.declared.cell.Shown.{Shown}
use Rattle.ranked.specs.Cell.{after_admission, shown_at, shown_map}
use Rattle.ranked.specs.Find.{touches, admission_of}
use Rattle.history.specs.declared.event.Event.{Event}
use Rattle.history.specs.declared.event.Event.TheVariants.{Admit, Forget, Do}
use Rattle.history.specs.declared.event.Entry.{Entry}
use Rattle.history.specs.Event.{covers}
use Rattle.history.specs.History.{Past, standing_of}

-- An admission that touches the question is held unless it is outranked; a forget of its owner empties its cell, and so does a command that covers it; anything else leaves it.
abbrev pub effect : Question → Option (Admitted Find) → ℕ → Event → Option (Admitted Find)
effect question cell moment (Admit given find) = if touches find question then after_admission cell (admission_of find find moment) else cell
effect question cell moment (Forget given owner) = if name_eq owner question.owner then None else cell
effect question cell moment (Do given command) = if covers command question then None else cell
effect question cell moment event = cell

-- the cell of a question after one entry more
abbrev pub cell_after : Question → Option (Admitted Find) → Entry → Option (Admitted Find)
cell_after question cell entry = effect question cell entry.moment entry.event

-- the cell of a question after these entries, from nothing
abbrev pub cell_by : Question → List Entry → Option (Admitted Find)
cell_by question entries = fold (cell_after question) None entries

-- the cell of a question
abbrev pub cell_of : Past → Question → Option (Admitted Find)
cell_of past question = cell_by question (standing_of past)

-- What the cell shows to a look that gives a moment. A look back is read at the greatest moment so far.
abbrev pub shows : Past → Question → ℕ → Option (Shown Find)
shows past question moment = shown_at (cell_of past question) (max past.now moment)

-- what a cell shows, with the find itself where it is lent
abbrev pub shown_now : Option (Shown (Bor Find)) → Option (Shown Find)
shown_now held = option_map (shown_map (λ find. find.now)) held
