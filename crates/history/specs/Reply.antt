-- The reply to an event, by the events before it.
use Rattle.std.specs.Prelude.{ℕ, ◌+◌, max, nat_lt, Bool, true, false, Option, Some, None, List, [], ◌∷◌, ◌++◌, if◌then◌else◌}
use Rattle.ranked.specs.declared.find.Find.{Find}
use Rattle.ranked.specs.declared.find.Scope.{Scope}
use Rattle.ranked.specs.declared.find.Scope.TheVariants.{One, Whole}
use Rattle.ranked.specs.declared.cell.Shown.{Shown}
use Rattle.ranked.specs.Rank.{level_of}
use Rattle.ranked.specs.Cell.{turns_away, shown_at, shown_map}
use Rattle.ranked.specs.Find.{admission_of}
use Rattle.dns_text.specs.declared.record.Record.{Record}
use Rattle.dns_text.specs.declared.record.Question.{Question}
use Rattle.local_zone.specs.declared.local_answer.Local.{Local}
use Rattle.local_zone.specs.declared.local_answer.Local.TheVariants as local
use Rattle.local_zone.specs.Answer.{local_of, local_now}
use Rattle.history.specs.declared.event.Event.{Event}
use Rattle.history.specs.declared.event.Event.TheVariants.{Admit, Look as LookEvent, Sweep, Forget, Do, Undo, Redo, UndoOf, RedoOf}
use Rattle.history.specs.declared.event.Reason.{Reason}
use Rattle.history.specs.declared.event.Settings.{Settings}
use Rattle.history.specs.declared.event.Ask.{Ask}
use Rattle.history.specs.declared.event.Ask.TheVariants.{Answer, Zones as ZonesAsked, Records as RecordsAsked, Stubs as StubsAsked, Commands as CommandsAsked, Buried as BuriedAsked, Servers as ServersAsked, Oldest as OldestAsked, After, NextUndo}
use Rattle.history.specs.declared.event.Seen.{Seen as SeenValue}
use Rattle.history.specs.declared.event.Seen.TheVariants.{Unknown, Held, Local as LocalSeen, Zones, Records, Stubs, Commands, Buried as BuriedSeen, Servers, Oldest, Command as CommandSeen, Refused as RefusedSeen}
use Rattle.history.specs.declared.event.Journalled.{Journalled}
use Rattle.history.specs.declared.event.Move.{Move}
use Rattle.history.specs.declared.event.Move.TheVariants as move
use Rattle.history.specs.declared.event.Refusal.{Refusal}
use Rattle.history.specs.declared.event.Refusal.TheVariants as refusal
use Rattle.history.specs.declared.event.Look.{Look}
use Rattle.history.specs.declared.event.Look.TheVariants.{Unknown as NothingLent, Held as HeldLent, Local as LocalLent}
use Rattle.history.specs.declared.event.Reply.{Reply}
use Rattle.history.specs.declared.event.Reply.TheVariants.{Taken, Outranked, Seen, Swept, Forgotten, Done, Refused, Undone, Redone, NothingToUndo, NothingToRedo, NotKept, Buried}
use Rattle.std.specs.Option.{option_map_or}
use Rattle.history.specs.declared.event.Entry.{Entry}
use Rattle.history.specs.Changes.{tables_by}
use Rattle.history.specs.Marks.{Marks, after_redo, after_undo, last_of, strike}
use Rattle.history.specs.History.{Past, followed_by, past_of, standing_with, tables_of, ticket_moved, stubs_of, reason_of}
use Rattle.history.specs.Cells.{cell_by, cell_of, shows}
use Rattle.history.specs.Journal.{buried_in, commands_of, is_among, next_undo, over, under}
use Rattle.history.specs.OldestFound.{oldest_of}
use Rattle.history.specs.Servers.{servers_of}

-- Data of the lowest rank is cached and never shown.
abbrev pub seen_by : Option (Shown Find) → SeenValue
seen_by None = Unknown
seen_by (Some shown) = if nat_lt (level_of shown.rank) 2 then Unknown else Held shown

-- whether local zones leave a question to what is held
abbrev pub passes_on : Local (List Record) Record → Bool
passes_on local.Pass = true
passes_on answer = false

-- The answer of local zones comes first, and what is cached if they have none.
abbrev pub seen_first : Local (List Record) Record → SeenValue → SeenValue
seen_first answer held = if passes_on answer then held else LocalSeen answer

-- ---- undos and redos

-- An undo names the ticket that it takes back.
abbrev pub reply_to_undo : Option ℕ → Reply
reply_to_undo None = NothingToUndo
reply_to_undo (Some ticket) = Undone ticket

-- A redo names the ticket that it puts back.
abbrev pub reply_to_redo : Option ℕ → Reply
reply_to_redo None = NothingToRedo
reply_to_redo (Some ticket) = Redone ticket

-- An undo of a ticket tells whether the command is done, and names the one that must be undone first, if there is one.
abbrev pub reply_to_undo_of : Bool → Option ℕ → ℕ → Reply
reply_to_undo_of false other ticket = NotKept
reply_to_undo_of true (Some other) ticket = Buried other
reply_to_undo_of true None ticket = Undone ticket

-- A redo of a ticket tells whether the command is undone, and names the one that must be redone first, if there is one.
abbrev pub reply_to_redo_of : Bool → Option ℕ → ℕ → Reply
reply_to_redo_of false other ticket = NotKept
reply_to_redo_of true (Some other) ticket = Buried other
reply_to_redo_of true None ticket = Redone ticket

-- the reply to an undo or a redo
abbrev pub reply_to_move : Past → Move → Reply
reply_to_move past move.Undo = reply_to_undo (last_of past.marks.done)
reply_to_move past move.Redo = reply_to_redo (last_of past.marks.undone)
reply_to_move past (move.UndoOf ticket) = reply_to_undo_of (is_among past.marks.done ticket) (over (commands_of past) ticket) ticket

-- an undo or a redo as an event
abbrev pub move_at : ℕ → Move → Event
move_at moment move.Undo = Undo moment
move_at moment move.Redo = Redo moment
move_at moment (move.UndoOf ticket) = UndoOf moment ticket

-- why an undo or a redo is refused, by the reply to it
abbrev pub refusal_in : Reply → Option Refusal
refusal_in NothingToUndo = Some refusal.NothingToUndo
refusal_in NothingToRedo = Some refusal.NothingToRedo
refusal_in NotKept = Some refusal.NotKept
refusal_in (Buried other) = Some (refusal.Buried other)
refusal_in reply = None

-- what is seen, or why it cannot be
abbrev pub seen_unless : Option Refusal → SeenValue → SeenValue
seen_unless None seen = seen
seen_unless (Some why) seen = RefusedSeen why

-- ---- looks

-- the answer to a question: that of local zones, or what the cache shows
abbrev pub answer_of : Past → Question → ℕ → SeenValue
answer_of past question moment = seen_first (local_of (tables_of past).local question) (seen_by (shows past question moment))

-- the answer to a question at a moment, if of the commands of a log just the chosen ones are in force
abbrev pub answer_by : (ℕ → Bool) → List Entry → Question → ℕ → SeenValue
answer_by chosen log question moment =
    seen_first (local_of (tables_by (standing_with chosen log)).local question) (seen_by (shown_at (cell_by question (standing_with chosen log)) moment))

-- the marks after an undo or a redo
abbrev pub marks_moved : Past → Move → Marks
marks_moved past move.Undo = after_undo past.marks
marks_moved past move.Redo = after_redo past.marks
marks_moved past (move.UndoOf ticket) = option_map_or (strike past.marks) (ticket_moved past (UndoOf 0 ticket)) past.marks

-- The answer to a question right after an undo or a redo at the same moment, or why that is refused.
abbrev pub answer_after : ℕ → Past → Move → Question → ℕ → SeenValue
answer_after bound past step question moment =
    seen_unless (refusal_in (reply_to_move past step)) (answer_of (followed_by bound past (move_at moment step)) question moment)

-- the command of the journal that was found, which an undo would take back
abbrev pub next_seen : Option Journalled → SeenValue
next_seen None = RefusedSeen refusal.NothingToUndo
next_seen (Some held) = CommandSeen held

-- what a look sees
abbrev pub seen_of : Settings → Past → Ask → ℕ → SeenValue
seen_of settings past (Answer question) moment = answer_of past question moment
seen_of settings past ZonesAsked moment = Zones (tables_of past).local.zones
seen_of settings past RecordsAsked moment = Records (tables_of past).local.records
seen_of settings past StubsAsked moment = Stubs (stubs_of past)
seen_of settings past CommandsAsked moment = Commands (commands_of past)
seen_of settings past BuriedAsked moment = BuriedSeen (buried_in (commands_of past))
seen_of settings past (ServersAsked name) moment = Servers (servers_of settings past name moment)
seen_of settings past OldestAsked moment = Oldest (oldest_of past (max past.now moment))
seen_of settings past (After question step) moment = answer_after settings.journal past step question moment
seen_of settings past NextUndo moment = next_seen (next_undo past.marks (commands_of past))

-- what a look sees after a history
abbrev pub seen_after : Settings → List Event → Ask → ℕ → SeenValue
seen_after settings history ask moment = seen_of settings (past_of settings.journal history) ask moment

-- what a lookup of a question sees after a history
abbrev pub lookup_after : Settings → List Event → Question → ℕ → SeenValue
lookup_after settings history question moment = seen_of settings (past_of settings.journal history) (Answer question) moment

-- what is lent, as what is seen
abbrev pub look_seen : Look → SeenValue
look_seen NothingLent = Unknown
look_seen (HeldLent shown) = Held (shown_map (λ find. find.now) shown)
look_seen (LocalLent answer) = LocalSeen (local_now answer)

-- A find of one type is outranked by what its cell holds then, if that is alive and of higher rank. No cell outranks one of every type, whose rank is the highest.
abbrev pub reply_to_admission : Past → Find → ℕ → Scope → Reply
reply_to_admission past find moment (One kind) =
    if turns_away (cell_of past (record { owner = find.owner; kind = kind })) (admission_of find find (max past.now moment)) then Outranked else Taken
reply_to_admission past find moment Whole = Taken

-- An accepted command takes the next ticket. A refused one has the reason.
abbrev pub reply_to_command : Marks → Option Reason → Reply
reply_to_command marks None = Done (marks.tickets + 1)
reply_to_command marks (Some reason) = Refused reason

-- the reply to an event
abbrev pub reply_of : Settings → Past → Event → Reply
reply_of settings past (Admit moment find) = reply_to_admission past find moment find.scope
reply_of settings past (LookEvent moment ask) = Seen (seen_of settings past ask moment)
reply_of settings past (Sweep moment) = Swept
reply_of settings past (Forget moment owner) = Forgotten
reply_of settings past (Do moment command) = reply_to_command past.marks (reason_of past command)
reply_of settings past (Undo moment) = reply_to_undo (last_of past.marks.done)
reply_of settings past (Redo moment) = reply_to_redo (last_of past.marks.undone)
reply_of settings past (UndoOf moment ticket) = reply_to_undo_of (is_among past.marks.done ticket) (over (commands_of past) ticket) ticket
reply_of settings past (RedoOf moment ticket) = reply_to_redo_of (is_among past.marks.undone ticket) (under (commands_of past) ticket) ticket

-- the ticket that a command took, by its reply
abbrev pub ticket_taken : Reply → Option ℕ
ticket_taken (Done ticket) = Some ticket
ticket_taken _ = None

-- the reply to an event that follows a history
abbrev pub reply_to : Settings → List Event → Event → Reply
reply_to settings history event = reply_of settings (past_of settings.journal history) event

-- the replies to a list of events that follow a history, each by those before it
abbrev pub replies_of : Settings → List Event → List Event → List Reply
replies_of settings history [] = []
replies_of settings history (event ∷ events) = reply_of settings (past_of settings.journal history) event ∷ replies_of settings (history ++ event ∷ []) events
