-- How the name to forget first is found: by a replay of each cell that an admission can fill, over enough choices of the commands of the journal.
use Rattle.std.specs.Prelude.{ℕ, max, Bool, true, false, not, ◌==◌, ◌&&◌, ◌||◌, nat_lt, Option, Some, None, List, [], ◌∷◌, fold, map, flat_map, if◌then◌else◌}
use Rattle.std.specs.Ordering.{is_le}
use Rattle.dns_name.specs.Labels.{Labels}
use Rattle.dns_name.specs.Below.{is_at_or_below}
use Rattle.dns_name.specs.Order.{name_cmp, name_eq}
use Rattle.ranked.specs.declared.cell.Admitted.{Admitted}
use Rattle.ranked.specs.declared.find.Find.{Find}
use Rattle.ranked.specs.declared.find.Scope.{Scope}
use Rattle.ranked.specs.declared.find.Scope.TheVariants.{One, Whole}
use Rattle.ranked.specs.Cell.{after_admission, end_of, is_alive}
use Rattle.ranked.specs.Find.{admission_of, touches}
use Rattle.history.specs.declared.event.Command.{Command}
use Rattle.history.specs.declared.event.Command.TheVariants.{FlushZone}
use Rattle.history.specs.declared.event.Entry.{Entry}
use Rattle.history.specs.declared.event.Event.{Event}
use Rattle.history.specs.declared.event.Event.TheVariants.{Admit, Forget, Do}
use Rattle.history.specs.Event.{covers}
use Rattle.history.specs.History.{Past, is_unstruck, standing_with}
use Rattle.history.specs.Journal.{commands_of, is_among, tickets_of}

-- ---- the choices

-- the choice of what is in force and not of the journal
abbrev pub settled_of : Past → ℕ → Bool
settled_of past ticket = is_unstruck past.marks ticket && not (is_among (tickets_of (commands_of past)) ticket)

-- that choice and one command more
abbrev pub with_ticket : Past → ℕ → ℕ → Bool
with_ticket past own ticket = own == ticket || settled_of past ticket

-- None of the commands of the journal, or one alone. These are enough: the last flush that covers a cell decides it.
abbrev pub choices_of : Past → List (ℕ → Bool)
choices_of past = settled_of past ∷ map (with_ticket past) (tickets_of (commands_of past))

-- ---- the cells

-- whether it is every type
abbrev pub is_whole : Scope → Bool
is_whole (One kind) = false
is_whole Whole = true

-- The cell of a name for finds of one type is that of the type. For those of all types it is that of a type that no find and no flush names.
-- whether a find is about that type
abbrev pub scope_touches : Labels → Scope → Find → Bool
scope_touches owner (One kind) find = touches find (record { owner = owner; kind = kind })
scope_touches owner Whole find = is_whole find.scope && name_eq find.owner owner

-- whether a command empties the cells of a name of every type
abbrev pub covers_all : Labels → Command → Bool
covers_all owner (FlushZone name) = is_at_or_below owner name
covers_all owner command = false

-- whether a command empties the cell of that type
abbrev pub scope_covers : Labels → Scope → Command → Bool
scope_covers owner (One kind) command = covers command (record { owner = owner; kind = kind })
scope_covers owner Whole command = covers_all owner command

-- what an event makes of that cell
abbrev pub scope_effect : Labels → Scope → Option (Admitted Find) → ℕ → Event → Option (Admitted Find)
scope_effect owner scope cell moment (Admit given find) = if scope_touches owner scope find then after_admission cell (admission_of find find moment) else cell
scope_effect owner scope cell moment (Forget given name) = if name_eq name owner then None else cell
scope_effect owner scope cell moment (Do given command) = if scope_covers owner scope command then None else cell
scope_effect owner scope cell moment event = cell

-- that cell after an entry
abbrev pub scope_after : Labels → Scope → Option (Admitted Find) → Entry → Option (Admitted Find)
scope_after owner scope cell entry = scope_effect owner scope cell entry.moment entry.event

-- and after these entries, from nothing
abbrev pub scope_cell : Labels → Scope → List Entry → Option (Admitted Find)
scope_cell owner scope entries = fold (scope_after owner scope) None entries

-- ---- the ends

-- the second in which the life of a find ends that is alive at a moment; 0 where there is none
abbrev pub end_at : ℕ → Option (Admitted Find) → ℕ
end_at t None = 0
end_at t (Some held) = if is_alive held t then end_of held else 0

-- that of a cell, if these commands are in force
abbrev pub scope_end : Past → ℕ → Labels → Scope → (ℕ → Bool) → ℕ
scope_end past t owner scope chosen = end_at t (scope_cell owner scope (standing_with chosen past.log))

-- the last of them over the choices
abbrev pub last_scope_end : Past → ℕ → Labels → Scope → ℕ
last_scope_end past t owner scope = fold max 0 (map (scope_end past t owner scope) (choices_of past))

-- the owner of what an event admits, with the last end of its cell
abbrev pub ends_in : Past → ℕ → Event → List (Labels × ℕ)
ends_in past t (Admit moment find) = (find.owner, last_scope_end past t find.owner find.scope) ∷ []
ends_in past t event = []

-- those of a log
abbrev pub ends_of : Past → ℕ → List (Labels × ℕ)
ends_of past t = flat_map (λ entry. ends_in past t entry.event) past.log

-- ---- the name

-- the later of an end and that of a pair, if the pair has this name
abbrev pub later_end : Labels → ℕ → Labels × ℕ → ℕ
later_end name end pair = if name_eq pair.0 name then max end pair.1 else end

-- the last end of a name; 0 where it has none
abbrev pub last_end : List (Labels × ℕ) → Labels → ℕ
last_end ends name = fold (later_end name) 0 ends

-- whether the last end of a name comes before that of another, or is the same and the name isn't after the other
abbrev pub is_sooner : List (Labels × ℕ) → Labels → Labels → Bool
is_sooner ends name other =
    nat_lt (last_end ends name) (last_end ends other) || (last_end ends name == last_end ends other && is_le (name_cmp name other))

-- the sooner of the name found so far and another, if that has an end
abbrev pub sooner_of : List (Labels × ℕ) → Option Labels → Labels → Option Labels
sooner_of ends None name = if last_end ends name == 0 then None else Some name
sooner_of ends (Some found) name = if last_end ends name == 0 || is_sooner ends found name then Some found else Some name

-- the soonest of the names of these pairs
abbrev pub oldest_in : List (Labels × ℕ) → Option Labels
oldest_in ends = fold (λ found pair. sooner_of ends found pair.0) None ends

-- The name to forget first at a moment. `oldest_law` says that it is, and that no other is.
unfoldable pub oldest_of : Past → ℕ → Option Labels
oldest_of past t = oldest_in (ends_of past t)
