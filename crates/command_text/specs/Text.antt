-- The texts of replies and faults, each with its line end.
use Rattle.std.specs.Prelude.{ℕ, Bool, true, false, not, Option, Some, None, is_some, List, [], ◌∷◌, ◌++◌, codes, decimal, flat_map}
use Rattle.streams.specs.Split.{with_end}
use Rattle.dns_name.specs.Labels.{Labels}
use Rattle.dns_name.specs.Text.{text_of}
use Rattle.dns_text.specs.declared.record.Data.{Data}
use Rattle.dns_text.specs.declared.record.Record.{Record}
use Rattle.dns_text.specs.Data.{data_text}
use Rattle.dns_text.specs.Kind.{type_text}
use Rattle.dns_text.specs.Record.{record_text}
use Rattle.ranked.specs.declared.cell.Shown.{Shown}
use Rattle.ranked.specs.declared.find.Find.{Find}
use Rattle.ranked.specs.declared.find.Scope.{Scope}
use Rattle.ranked.specs.declared.find.Scope.TheVariants.{One, Whole}
use Rattle.ranked.specs.declared.find.Body.{Body}
use Rattle.ranked.specs.declared.find.Body.TheVariants.{Set, NoData, NoName}
use Rattle.ranked.specs.Body.{is_negative}
use Rattle.ranked.specs.Rank.{level_of}
use Rattle.local_zone.specs.declared.local_answer.Local.{Local}
use Rattle.local_zone.specs.declared.local_answer.Local.TheVariants as local
use Rattle.local_zone.specs.declared.zone.Zone.{Zone}
use Rattle.local_zone.specs.ZoneType.{word_of}
use Rattle.stub_table.specs.declared.stub.Stub.{Stub}
use Rattle.history.specs.declared.event.BuriedCommand.{BuriedCommand}
use Rattle.history.specs.declared.event.Journalled.{Journalled}
use Rattle.history.specs.declared.servers.Servers.{Servers as ServersOf}
use Rattle.history.specs.declared.servers.Origin.{Origin}
use Rattle.history.specs.declared.servers.Origin.TheVariants as source
use Rattle.history.specs.declared.event.Reason.{Reason}
use Rattle.history.specs.declared.event.Reason.TheVariants.{BelowRedirect, DataBelow, CnameClash, TooMany}
use Rattle.history.specs.declared.event.Seen.{Seen as Sight}
use Rattle.history.specs.declared.event.Seen.TheVariants.{Unknown as NothingHeld, Held, Local as LocalSeen, Servers, Zones, Records, Stubs, Commands, Buried as BuriedSeen, Oldest, Command as CommandSeen, Refused as RefusedSeen}
use Rattle.history.specs.declared.event.Refusal.{Refusal}
use Rattle.history.specs.declared.event.Refusal.TheVariants as refusal
use Rattle.history.specs.declared.event.Reply.{Reply}
use Rattle.history.specs.declared.event.Reply.TheVariants.{Taken, Outranked, Swept, Forgotten, Seen, Done, Refused, Undone, Redone, NothingToUndo, NothingToRedo, NotKept, Buried}
use Rattle.history.specs.declared.book.StepFault.{StepFault}
use Rattle.history.specs.declared.book.StepFault.TheVariants.{BadMoment, CountEnded, Full, NoMemory as StepNoMemory}
use Rattle.history.specs.declared.desk.DeskFault.{DeskFault}
use Rattle.history.specs.declared.desk.DeskFault.TheVariants.{Step, Behind}
use Rattle.command_text.specs.declared.fault.LineFault.{LineFault}
use Rattle.command_text.specs.declared.fault.LineFault.TheVariants.{Unknown, Missing, BadName, BadType, BadData, BadAddress, TooLong, NoMemory}
use Rattle.command_text.specs.Addrs.{addrs_text}
use Rattle.command_text.specs.CommandWords.{command_words}

-- Data joined by bars.
abbrev pub set_text : List Data → List ℕ
set_text [] = []
set_text (first ∷ others) = data_text first ++ flat_map (λ datum. codes " | " ++ data_text datum) others

-- The type of a set. A whole name has none.
abbrev pub scope_text : Scope → List ℕ
scope_text (One kind) = type_text kind
scope_text Whole = []

-- ` OWNER TYPE DATA` of a set.
abbrev pub find_text : Find → List Data → List ℕ
find_text find items = 32 ∷ text_of find.owner ++ 32 ∷ scope_text find.scope ++ 32 ∷ set_text items

-- RANK LEFT OWNER TYPE DATA of a cached set, where LEFT is the seconds that it has left.
unfoldable pub found_text : Shown Find → List Data → List ℕ
found_text shown items =
    decimal (level_of shown.rank) ++ 32 ∷ decimal shown.left ++ find_text shown.body items

-- A cached set, or a cached negative answer, with the seconds that it has left.
abbrev pub held_by : Shown Find → Body → List ℕ
held_by shown (Set items) = codes "found " ++ found_text shown items
held_by shown (NoData soa) = codes "nodata " ++ decimal shown.left
held_by shown (NoName soa) = codes "noname " ++ decimal shown.left

-- A cached find, with the seconds that it has left.
abbrev pub held_text : Shown Find → List ℕ
held_text shown = held_by shown shown.body.body

-- TTL OWNER TYPE DATA of a local set. All its records have the TTL, owner and type of the first.
abbrev pub records_text : List Record → List ℕ
records_text [] = []
records_text (first ∷ others) =
    decimal first.ttl ++ 32 ∷ text_of first.owner ++ 32 ∷ type_text first.kind ++ 32 ∷ data_text first.body ++ flat_map (λ r. codes " | " ++ data_text r.body) others

-- The answer of local data and local zones. If they pass, the reply is `unknown`.
abbrev pub local_text : Local (List Record) Record → List ℕ
local_text (local.Data records) = codes "local " ++ records_text records
local_text (local.NoData soa) = codes "local nodata"
local_text (local.NoName soa) = codes "local noname"
local_text local.Refuse = codes "local refuse"
local_text local.Drop = codes "local drop"
local_text local.Pass = codes "unknown"

-- NAME TYPE of a local zone.
abbrev pub zone_line : Zone → List ℕ
zone_line zone = with_end (text_of zone.name ++ 32 ∷ word_of zone.kind)

-- NAME TTL TYPE DATA of a local record.
abbrev pub record_line : Record → List ℕ
record_line r = with_end (record_text r)

-- NAME ADDR.. of a stub.
abbrev pub stub_line : Stub → List ℕ
stub_line stub = with_end (text_of stub.name ++ addrs_text stub.addrs)

-- The state of a command, between blanks: done or undone.
abbrev pub state_text : Bool → List ℕ
state_text true = codes " done "
state_text false = codes " undone "

-- TICKET STATE COMMAND, where COMMAND is the line that gives the command.
abbrev pub journalled_text : Journalled → List ℕ
journalled_text j = decimal j.ticket ++ state_text j.done ++ command_words j.command

-- The same, as a line.
abbrev pub journalled_line : Journalled → List ℕ
journalled_line j = with_end (journalled_text j)

-- TICKET by TICKET, of a command and of the one that must be undone, or redone, before it.
abbrev pub buried_line : BuriedCommand → List ℕ
buried_line b = with_end (decimal b.ticket ++ codes " by " ++ decimal b.by)

-- SOURCE: where the addresses of the servers come from.
abbrev pub source_text : Origin → List ℕ
source_text source.Hints = codes "hints"
source_text source.Stub = codes "stub"
source_text source.Cache = codes "cache"

-- Names, each after a blank.
abbrev pub names_text : List Labels → List ℕ
names_text names = flat_map (λ name. 32 ∷ text_of name) names

-- The names that have no address, if there are any, after a bar.
abbrev pub missing_text : List Labels → List ℕ
missing_text [] = []
missing_text (name ∷ names) = codes " |" ++ names_text (name ∷ names)

-- ZONE SOURCE ADDR.., and the names that have no address.
unfoldable pub servers_text : ServersOf → List ℕ
servers_text servers = text_of servers.zone ++ 32 ∷ source_text servers.source ++ addrs_text servers.addrs ++ missing_text servers.missing

-- The name to forget first, if there is one.
abbrev pub oldest_text : Option Labels → List ℕ
oldest_text None = codes "unknown"
oldest_text (Some name) = codes "oldest " ++ text_of name

-- Why an undo or a redo is refused.
abbrev pub refusal_text : Refusal → List ℕ
refusal_text refusal.NothingToUndo = codes "error nothing_to_undo"
refusal_text refusal.NothingToRedo = codes "error nothing_to_redo"
refusal_text refusal.NotKept = codes "error not_kept"
refusal_text (refusal.Buried ticket) = codes "error buried " ++ decimal ticket

-- The reply to a lookup, without its line end.
abbrev pub seen_text : Sight → List ℕ
seen_text NothingHeld = codes "unknown"
seen_text (Held shown) = held_text shown
seen_text (LocalSeen answer) = local_text answer
seen_text (Servers servers) = codes "servers " ++ servers_text servers
seen_text (Zones zones) = flat_map zone_line zones ++ codes "end"
seen_text (Records records) = flat_map record_line records ++ codes "end"
seen_text (Stubs stubs) = flat_map stub_line stubs ++ codes "end"
seen_text (Commands commands) = flat_map journalled_line commands ++ codes "end"
seen_text (BuriedSeen buried) = flat_map buried_line buried ++ codes "end"
seen_text (Oldest name) = oldest_text name
seen_text (CommandSeen held) = journalled_text held
seen_text (RefusedSeen why) = refusal_text why

-- Why a command is refused.
abbrev pub reason_text : Reason → List ℕ
reason_text BelowRedirect = codes "error below_redirect"
reason_text DataBelow = codes "error data_below"
reason_text CnameClash = codes "error cname_clash"
reason_text TooMany = codes "error too_many"

-- The answer is local data.
abbrev pub has_data : Local (List Record) Record → Bool
has_data (local.Data records) = true
has_data _ = false

-- The reply is a set, local data, a list or a name: only these texts may be long.
abbrev pub is_long : Reply → Bool
is_long (Seen (Held shown)) = not (is_negative shown.body.body)
is_long (Seen (LocalSeen answer)) = has_data answer
is_long (Seen (Servers servers)) = true
is_long (Seen (Zones zones)) = true
is_long (Seen (Records records)) = true
is_long (Seen (Stubs stubs)) = true
is_long (Seen (Commands commands)) = true
is_long (Seen (BuriedSeen buried)) = true
is_long (Seen (Oldest name)) = is_some name
is_long (Seen (CommandSeen held)) = true
is_long _ = false

-- The reply to an event that was taken.
abbrev pub reply_text : Reply → List ℕ
reply_text Taken = with_end (codes "taken")
reply_text Outranked = with_end (codes "outranked")
reply_text Swept = with_end (codes "swept")
reply_text Forgotten = with_end (codes "forgotten")
reply_text (Seen seen) = with_end (seen_text seen)
reply_text (Done ticket) = with_end (codes "ok " ++ decimal ticket)
reply_text (Refused reason) = with_end (reason_text reason)
reply_text (Undone ticket) = with_end (codes "undone " ++ decimal ticket)
reply_text (Redone ticket) = with_end (codes "redone " ++ decimal ticket)
reply_text NothingToUndo = with_end (refusal_text refusal.NothingToUndo)
reply_text NothingToRedo = with_end (refusal_text refusal.NothingToRedo)
reply_text NotKept = with_end (refusal_text refusal.NotKept)
reply_text (Buried ticket) = with_end (refusal_text (refusal.Buried ticket))

-- Why a book did not take an event.
abbrev pub fault_text : StepFault → List ℕ
fault_text BadMoment = with_end (codes "fault bad_moment")
fault_text CountEnded = with_end (codes "fault count_ended")
fault_text (Full stored) = with_end (codes "fault full " ++ decimal stored)
fault_text StepNoMemory = with_end (codes "fault no_memory")

-- Why a desk gives no reply: its book did not take the event, or the caller is one of another book.
abbrev pub desk_fault_text : DeskFault → List ℕ
desk_fault_text (Step fault) = fault_text fault
desk_fault_text (Behind at) = with_end (codes "fault behind " ++ decimal at)

-- Why a line is not obeyed.
abbrev pub line_fault_text : LineFault → List ℕ
line_fault_text Unknown = with_end (codes "error unknown")
line_fault_text Missing = with_end (codes "error missing")
line_fault_text BadName = with_end (codes "error bad_name")
line_fault_text BadType = with_end (codes "error bad_type")
line_fault_text BadData = with_end (codes "error bad_data")
line_fault_text BadAddress = with_end (codes "error bad_address")
line_fault_text TooLong = with_end (codes "error too_long")
line_fault_text NoMemory = with_end (codes "error no_memory")
