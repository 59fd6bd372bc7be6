-- How a plain book finds the name to forget first: it replays each cell that an admission can fill once, over the choices of none and of one of the commands of the journal.
use Rattle.std.specs.Prelude.{ℕ, ◌+◌, Bool, false, not, ◌&&◌, ◌||◌, nat_lt, Option, Some, None, List, [], ◌∷◌, ◌++◌, map, if◌then◌else◌, slice_get}
use Rattle.std.specs.List.{list_any}
use Rattle.std.specs.Option.{option_map, option_map_or}
use Rattle.std.specs.Borrow.{Bor}
use Rattle.dns_name.specs.Labels.{Labels}
use Rattle.dns_name.specs.Order.{name_eq}
use Rattle.ranked.specs.declared.cell.Admitted.{Admitted}
use Rattle.ranked.specs.declared.find.Find.{Find}
use Rattle.ranked.specs.declared.find.Scope.{Scope}
use Rattle.ranked.specs.Equal.{scope_eq}
use Rattle.history.specs.declared.event.Event.{Event}
use Rattle.history.specs.declared.event.Event.TheVariants.{Admit}
use Rattle.history.specs.History.{Past, stands_by}
use Rattle.history.specs.Journal.{is_among, tickets_of}
use Rattle.history.specs.OldestFound.{last_scope_end, scope_after, settled_of, with_ticket}
use Rattle.undo_book.specs.declared.index.Indexed.{Indexed}
use Rattle.undo_book.specs.declared.log.Logged.{Logged}
use Rattle.undo_book.specs.declared.oldest.ScopeEnd.{ScopeEnd}
use Rattle.undo_book.specs.declared.scope_replay.Replay.{Replay}
use Rattle.undo_book.specs.Index.{concerns, tag_of}
use Rattle.undo_book.specs.Plain.{has_taken}

-- the choice of none of the commands of the journal, or of this one
abbrev pub choice_of : Past → Option ℕ → ℕ → Bool
choice_of past None = settled_of past
choice_of past (Some own) = with_ticket past own

-- the same for an entry, by its flag and the tickets of the journal
abbrev pub chosen_by : List ℕ → Option ℕ → Bool → ℕ → Bool
chosen_by journal own struck ticket = has_taken ticket own || (not struck && not (is_among journal ticket))

-- whether an entry took a ticket that is chosen
abbrev pub has_chosen : List ℕ → Option ℕ → Logged → Bool
has_chosen journal own logged = option_map_or (chosen_by journal own logged.struck) logged.entry.ticket false

-- the cell of a name for finds of this scope, after an entry, if that is in force by a choice
abbrev pub scope_after_logged : Labels → Scope → List ℕ → Option ℕ → Option (Admitted Find) → Logged → Option (Admitted Find)
scope_after_logged owner scope journal own cell logged =
    if stands_by (chosen_by journal own logged.struck) logged.entry.event logged.entry.ticket then scope_after owner scope cell logged.entry else cell

-- the same after the entry that the index names
abbrev pub scope_after_indexed : Labels → Scope → List ℕ → Option ℕ → List Logged → Option (Admitted Find) → Indexed → Option (Admitted Find)
scope_after_indexed owner scope journal own log cell indexed =
    if concerns (tag_of owner) indexed.tag then option_map_or (λ logged. scope_after_logged owner scope journal own cell logged) (slice_get log indexed.at) cell else cell

-- the cell of a replay after an entry
abbrev pub replayed_after : Replay → Option (Admitted Find) → Logged → Option (Admitted Find)
replayed_after replay cell logged = scope_after_logged replay.owner.now replay.scope (tickets_of replay.journal.now) replay.own cell logged

-- the same after the entry that the index names
abbrev pub replayed_after_indexed : Replay → List Logged → Option (Admitted Find) → Indexed → Option (Admitted Find)
replayed_after_indexed replay log cell indexed =
    scope_after_indexed replay.owner.now replay.scope (tickets_of replay.journal.now) replay.own log cell indexed

-- a name, a scope of its finds, and the last second in which one of them ends
pub record End : Type 0 where
  pub owner : Labels
  pub scope : Scope
  pub end : ℕ

abbrev pub end_now : ScopeEnd → End
end_now own = record { owner = own.owner.now; scope = own.scope; end = own.end }

abbrev pub ends_now : List ScopeEnd → List End
ends_now ends = map end_now ends

-- the name that was found, if one was
abbrev pub found_now : Option (Bor Labels) → Option Labels
found_now found = option_map (λ name. name.now) found

-- the name and the second alone
abbrev pub pair_of : End → Labels × ℕ
pair_of end = (end.owner, end.end)

abbrev pub pairs_of : List End → List (Labels × ℕ)
pairs_of ends = map pair_of ends

-- whether the finds of this name and scope are known
abbrev pub has_scope : List End → Labels → Scope → Bool
has_scope ends owner scope = list_any (λ end. name_eq end.owner owner && scope_eq end.scope scope) ends

-- what is known after an admission: one that is dead at the moment, or whose finds are known, adds nothing
abbrev pub ends_after_event : Past → ℕ → List End → ℕ → Event → List End
ends_after_event past t ends moment (Admit given find) =
    if not (nat_lt t (moment + find.ttl)) || has_scope ends find.owner find.scope then ends
    else ends ++ record { owner = find.owner; scope = find.scope; end = last_scope_end past t find.owner find.scope } ∷ []
ends_after_event past t ends moment event = ends

-- the same after an entry
abbrev pub ends_after : Past → ℕ → List End → Logged → List End
ends_after past t ends logged = ends_after_event past t ends logged.entry.moment logged.entry.event
