-- What `==` calls equal is one event and one reply, and each is equal to itself: lemmas for the crates above.
use Rattle.std.proofs.Common.{◌≡◌, ℕ, true, eqb, eq-eqb, Option, Some, None, List, Decides, refl, ap, sym, ◌∙◌}
use Rattle.std.proofs.lemmas.Bool.{and_parts, false≢true, eqb-true}
use Rattle.std.proofs.lemmas.Slice.Eq.{slice_eq-Decides}
use Rattle.std.specs.Cmp.Derive.{both_true}
use Rattle.std.specs.Cmp.{booleans_Decides}
use Rattle.dns_name.specs.Labels.{Labels}
use Rattle.dns_name.specs.Order.{name_eq, name_eq_exact, name_eq_itself}
use Rattle.dns_text.specs.declared.record.Record.{Record}
use Rattle.dns_text.specs.Equal.{record_eq}
use Rattle.dns_text.specs.EqualLaws.{question_eq_exact, question_eq_itself, record_eq_exact, record_eq_itself}
use Rattle.ranked.specs.declared.find.Find.{Find}
use Rattle.ranked.specs.declared.cell.Shown.{Shown}
use Rattle.ranked.specs.EqualLaws.{rank_eq_exact, rank_eq_itself, find_eq_exact, find_eq_itself}
use Rattle.local_zone.specs.declared.local_answer.Local.{Local}
use Rattle.local_zone.specs.declared.local_answer.Local.TheVariants as local
use Rattle.local_zone.specs.declared.zone.Zone.{Zone}
use Rattle.local_zone.specs.Equal.{zone_eq}
use Rattle.local_zone.specs.EqualLaws.{zone_type_eq_exact, zone_type_eq_itself, zone_eq_exact, zone_eq_itself}
use Rattle.stub_table.specs.declared.stub.Stub.{Stub}
use Rattle.stub_table.specs.Equal.{stub_eq}
use Rattle.stub_table.specs.EqualLaws.{stub_eq_exact, stub_eq_itself}
use Rattle.dns_text.specs.declared.addr.Addr.{Addr}
use Rattle.dns_text.specs.Equal.{addr_eq}
use Rattle.dns_text.specs.EqualLaws.{addr_eq_exact, addr_eq_itself}
use Rattle.history.specs.declared.servers.Servers.{Servers}
use Rattle.history.specs.declared.servers.Origin.{Origin}
use Rattle.history.specs.declared.servers.Origin.TheVariants.{Hints, Stub as FromStub, Cache}
use Rattle.history.specs.declared.event.Ask.{Ask}
use Rattle.history.specs.declared.event.Ask.TheVariants as ask
use Rattle.history.specs.declared.event.Move.{Move}
use Rattle.history.specs.declared.event.Move.TheVariants as move
use Rattle.history.specs.declared.event.Refusal.{Refusal}
use Rattle.history.specs.declared.event.Refusal.TheVariants as refusal
use Rattle.history.specs.declared.event.Command.{Command}
use Rattle.history.specs.declared.event.Command.TheVariants.{FlushType, Flush, FlushZone, SetZone, DropZone, AddRecord, DropName, SetStub, DropStub}
use Rattle.history.specs.declared.event.Event.{Event}
use Rattle.history.specs.declared.event.Event.TheVariants.{Admit, Look, Sweep, Forget, Do, Undo, Redo, UndoOf, RedoOf}
use Rattle.history.specs.declared.event.BuriedCommand.{BuriedCommand}
use Rattle.history.specs.declared.event.Journalled.{Journalled}
use Rattle.history.specs.declared.event.Seen.{Seen as SeenValue}
use Rattle.history.specs.declared.event.Seen.TheVariants as seen
use Rattle.history.specs.declared.event.Reason.{Reason}
use Rattle.history.specs.declared.event.Reason.TheVariants.{BelowRedirect, DataBelow, CnameClash, TooMany}
use Rattle.history.specs.declared.event.Reply.{Reply}
use Rattle.history.specs.declared.event.Reply.TheVariants.{Taken, Outranked, Seen, Swept, Forgotten, Done, Refused, Undone, Redone, NothingToUndo, NothingToRedo, NotKept, Buried}
use Rattle.history.specs.Equal.{source_eq, servers_eq, ask_eq, command_eq, journalled_eq, buried_eq, event_eq, move_eq, refusal_eq, seen_eq, reason_eq, reply_eq}

same : (n : ℕ) → eqb n n ≡ true
same n = eq-eqb n n refl

-- what is made of equal parts
both_same : {A B C : Type 0} (make : A → B → C) {a a' : A} {b b' : B} → a ≡ a' → b ≡ b' → make a b ≡ make a' b'
both_same make p q = λ i. make (p i) (q i)

-- ---- what is asked

move_eq_exact : (a b : Move) → move_eq a b ≡ true → a ≡ b
move_eq_exact move.Undo move.Undo e = refl
move_eq_exact move.Redo move.Redo e = refl
move_eq_exact (move.UndoOf t) (move.UndoOf u) e = ap move.UndoOf (eqb-true t u e)
move_eq_exact _ _ e = absurd (false≢true e)

move_eq_itself : (a : Move) → move_eq a a ≡ true
move_eq_itself move.Undo = refl
move_eq_itself move.Redo = refl
move_eq_itself (move.UndoOf t) = same t

pub ask_eq_exact : (a b : Ask) → ask_eq a b ≡ true → a ≡ b
ask_eq_exact (ask.Answer q) (ask.Answer r) e = ap ask.Answer (question_eq_exact q r e)
ask_eq_exact ask.Zones ask.Zones e = refl
ask_eq_exact ask.Records ask.Records e = refl
ask_eq_exact ask.Stubs ask.Stubs e = refl
ask_eq_exact ask.Commands ask.Commands e = refl
ask_eq_exact ask.Buried ask.Buried e = refl
ask_eq_exact (ask.Servers name) (ask.Servers other) e = ap ask.Servers (name_eq_exact name other e)
ask_eq_exact ask.Oldest ask.Oldest e = refl
ask_eq_exact (ask.After question step) (ask.After other next) e = both_same ask.After (question_eq_exact question other (and_parts _ _ e).0) (move_eq_exact step next (and_parts _ _ e).1)
ask_eq_exact ask.NextUndo ask.NextUndo e = refl
ask_eq_exact _ _ e = absurd (false≢true e)

pub ask_eq_itself : (a : Ask) → ask_eq a a ≡ true
ask_eq_itself (ask.Answer q) = question_eq_itself q
ask_eq_itself ask.Zones = refl
ask_eq_itself ask.Records = refl
ask_eq_itself ask.Stubs = refl
ask_eq_itself ask.Commands = refl
ask_eq_itself ask.Buried = refl
ask_eq_itself (ask.Servers name) = name_eq_itself name
ask_eq_itself ask.Oldest = refl
ask_eq_itself (ask.After question step) = both_true (question_eq_itself question) (move_eq_itself step)
ask_eq_itself ask.NextUndo = refl

-- ---- commands

pub command_eq_exact : (a b : Command) → command_eq a b ≡ true → a ≡ b
command_eq_exact (FlushType q) (FlushType r) e = ap FlushType (question_eq_exact q r e)
command_eq_exact (Flush name) (Flush other) e = ap Flush (name_eq_exact name other e)
command_eq_exact (FlushZone name) (FlushZone other) e = ap FlushZone (name_eq_exact name other e)
command_eq_exact (SetZone name kind) (SetZone other type) e = both_same SetZone (name_eq_exact name other (and_parts _ _ e).0) (zone_type_eq_exact kind type (and_parts _ _ e).1)
command_eq_exact (DropZone name) (DropZone other) e = ap DropZone (name_eq_exact name other e)
command_eq_exact (AddRecord new) (AddRecord other) e = ap AddRecord (record_eq_exact new other e)
command_eq_exact (DropName name) (DropName other) e = ap DropName (name_eq_exact name other e)
command_eq_exact (SetStub new) (SetStub other) e = ap SetStub (stub_eq_exact new other e)
command_eq_exact (DropStub name) (DropStub other) e = ap DropStub (name_eq_exact name other e)
command_eq_exact _ _ e = absurd (false≢true e)

pub command_eq_itself : (a : Command) → command_eq a a ≡ true
command_eq_itself (FlushType q) = question_eq_itself q
command_eq_itself (Flush name) = name_eq_itself name
command_eq_itself (FlushZone name) = name_eq_itself name
command_eq_itself (SetZone name kind) = both_true (name_eq_itself name) (zone_type_eq_itself kind)
command_eq_itself (DropZone name) = name_eq_itself name
command_eq_itself (AddRecord new) = record_eq_itself new
command_eq_itself (DropName name) = name_eq_itself name
command_eq_itself (SetStub new) = stub_eq_itself new
command_eq_itself (DropStub name) = name_eq_itself name

journalled_eq_exact : (a b : Journalled) → journalled_eq a b ≡ true → a ≡ b
journalled_eq_exact a b e =
    let p0 = and_parts _ _ e in
    let p1 = and_parts _ _ p0.1 in
    let same_ticket : a.ticket ≡ b.ticket = eqb-true a.ticket b.ticket p0.0 in
    let same_done : a.done ≡ b.done = (booleans_Decides a.done b.done).0 p1.0 in
    let same_command : a.command ≡ b.command = command_eq_exact a.command b.command p1.1 in
    λ i. record { ticket = same_ticket i; done = same_done i; command = same_command i }

journalled_eq_itself : (a : Journalled) → journalled_eq a a ≡ true
journalled_eq_itself a = both_true (same a.ticket) (both_true ((booleans_Decides a.done a.done).1 refl) (command_eq_itself a.command))

buried_eq_exact : (a b : BuriedCommand) → buried_eq a b ≡ true → a ≡ b
buried_eq_exact a b e =
    let parts = and_parts _ _ e in
    let same_ticket : a.ticket ≡ b.ticket = eqb-true a.ticket b.ticket parts.0 in
    let same_by : a.by ≡ b.by = eqb-true a.by b.by parts.1 in
    λ i. record { ticket = same_ticket i; by = same_by i }

buried_eq_itself : (a : BuriedCommand) → buried_eq a a ≡ true
buried_eq_itself a = both_true (same a.ticket) (same a.by)

-- ---- events

pub event_eq_exact : (a b : Event) → event_eq a b ≡ true → a ≡ b
event_eq_exact (Admit m f) (Admit n g) e = both_same Admit (eqb-true m n (and_parts _ _ e).0) (find_eq_exact f g (and_parts _ _ e).1)
event_eq_exact (Look m a) (Look n b) e = both_same Look (eqb-true m n (and_parts _ _ e).0) (ask_eq_exact a b (and_parts _ _ e).1)
event_eq_exact (Sweep m) (Sweep n) e = ap Sweep (eqb-true m n e)
event_eq_exact (Forget m name) (Forget n other) e = both_same Forget (eqb-true m n (and_parts _ _ e).0) (name_eq_exact name other (and_parts _ _ e).1)
event_eq_exact (Do m c) (Do n d) e = both_same Do (eqb-true m n (and_parts _ _ e).0) (command_eq_exact c d (and_parts _ _ e).1)
event_eq_exact (Undo m) (Undo n) e = ap Undo (eqb-true m n e)
event_eq_exact (Redo m) (Redo n) e = ap Redo (eqb-true m n e)
event_eq_exact (UndoOf m t) (UndoOf n u) e = both_same UndoOf (eqb-true m n (and_parts _ _ e).0) (eqb-true t u (and_parts _ _ e).1)
event_eq_exact (RedoOf m t) (RedoOf n u) e = both_same RedoOf (eqb-true m n (and_parts _ _ e).0) (eqb-true t u (and_parts _ _ e).1)
event_eq_exact _ _ e = absurd (false≢true e)

pub event_eq_itself : (a : Event) → event_eq a a ≡ true
event_eq_itself (Admit m f) = both_true (same m) (find_eq_itself f)
event_eq_itself (Look m a) = both_true (same m) (ask_eq_itself a)
event_eq_itself (Sweep m) = same m
event_eq_itself (Forget m name) = both_true (same m) (name_eq_itself name)
event_eq_itself (Do m c) = both_true (same m) (command_eq_itself c)
event_eq_itself (Undo m) = same m
event_eq_itself (Redo m) = same m
event_eq_itself (UndoOf m t) = both_true (same m) (same t)
event_eq_itself (RedoOf m t) = both_true (same m) (same t)

-- ---- what is seen

record_eq-Decides : (a b : Record) → Decides (record_eq a b) (a ≡ b)
record_eq-Decides a b = (record_eq_exact a b, λ is. ap (record_eq a) (sym is) ∙ record_eq_itself a)

zone_eq-Decides : (a b : Zone) → Decides (zone_eq a b) (a ≡ b)
zone_eq-Decides a b = (zone_eq_exact a b, λ is. ap (zone_eq a) (sym is) ∙ zone_eq_itself a)

stub_eq-Decides : (a b : Stub) → Decides (stub_eq a b) (a ≡ b)
stub_eq-Decides a b = (stub_eq_exact a b, λ is. ap (stub_eq a) (sym is) ∙ stub_eq_itself a)

journalled_eq-Decides : (a b : Journalled) → Decides (journalled_eq a b) (a ≡ b)
journalled_eq-Decides a b = (journalled_eq_exact a b, λ is. ap (journalled_eq a) (sym is) ∙ journalled_eq_itself a)

buried_eq-Decides : (a b : BuriedCommand) → Decides (buried_eq a b) (a ≡ b)
buried_eq-Decides a b = (buried_eq_exact a b, λ is. ap (buried_eq a) (sym is) ∙ buried_eq_itself a)

addr_eq-Decides : (a b : Addr) → Decides (addr_eq a b) (a ≡ b)
addr_eq-Decides a b = (addr_eq_exact a b, λ is. ap (addr_eq a) (sym is) ∙ addr_eq_itself a)

name_eq-Decides : (a b : Labels) → Decides (name_eq a b) (a ≡ b)
name_eq-Decides a b = (name_eq_exact a b, λ is. ap (name_eq a) (sym is) ∙ name_eq_itself a)

source_eq_exact : (a b : Origin) → source_eq a b ≡ true → a ≡ b
source_eq_exact Hints Hints e = refl
source_eq_exact FromStub FromStub e = refl
source_eq_exact Cache Cache e = refl
source_eq_exact _ _ e = absurd (false≢true e)

source_eq_itself : (a : Origin) → source_eq a a ≡ true
source_eq_itself Hints = refl
source_eq_itself FromStub = refl
source_eq_itself Cache = refl

servers_eq_exact : (a b : Servers) → servers_eq a b ≡ true → a ≡ b
servers_eq_exact a b e =
    let p0 = and_parts _ _ e in
    let p1 = and_parts _ _ p0.1 in
    let p2 = and_parts _ _ p1.1 in
    let same_zone : a.zone ≡ b.zone = name_eq_exact a.zone b.zone p0.0 in
    let same_source : a.source ≡ b.source = source_eq_exact a.source b.source p1.0 in
    let same_addrs : a.addrs ≡ b.addrs = (slice_eq-Decides addr_eq-Decides a.addrs b.addrs _ refl).0 p2.0 in
    let same_missing : a.missing ≡ b.missing = (slice_eq-Decides name_eq-Decides a.missing b.missing _ refl).0 p2.1 in
    λ i. record { zone = same_zone i; source = same_source i; addrs = same_addrs i; missing = same_missing i }

servers_eq_itself : (a : Servers) → servers_eq a a ≡ true
servers_eq_itself a =
    both_true (name_eq_itself a.zone) (both_true (source_eq_itself a.source)
    (both_true ((slice_eq-Decides addr_eq-Decides a.addrs a.addrs _ refl).1 refl) ((slice_eq-Decides name_eq-Decides a.missing a.missing _ refl).1 refl)))

held_exact : (s : Shown Find) (b : SeenValue) → seen_eq (seen.Held s) b ≡ true → seen.Held s ≡ b
held_exact s (seen.Held t) e =
    let p0 = and_parts _ _ e in
    let p1 = and_parts _ _ p0.1 in
    let same_rank : s.rank ≡ t.rank = rank_eq_exact s.rank t.rank p0.0 in
    let same_left : s.left ≡ t.left = eqb-true s.left t.left p1.0 in
    let same_body : s.body ≡ t.body = find_eq_exact s.body t.body p1.1 in
    ap (λ (u : Shown Find). seen.Held u) (λ i. record { rank = same_rank i; left = same_left i; body = same_body i })
held_exact s _ e = absurd (false≢true e)

no_data_exact : (a b : Option Record) → seen_eq (seen.Local (local.NoData a)) (seen.Local (local.NoData b)) ≡ true → a ≡ b
no_data_exact None None e = refl
no_data_exact (Some r) (Some s) e = ap Some (record_eq_exact r s e)
no_data_exact _ _ e = absurd (false≢true e)

no_name_exact : (a b : Option Record) → seen_eq (seen.Local (local.NoName a)) (seen.Local (local.NoName b)) ≡ true → a ≡ b
no_name_exact None None e = refl
no_name_exact (Some r) (Some s) e = ap Some (record_eq_exact r s e)
no_name_exact _ _ e = absurd (false≢true e)

answer_exact : (a b : Local (List Record) Record) → seen_eq (seen.Local a) (seen.Local b) ≡ true → a ≡ b
answer_exact (local.Data set) (local.Data other) e = ap local.Data ((slice_eq-Decides record_eq-Decides set other _ refl).0 e)
answer_exact (local.NoData soa) (local.NoData other) e = ap local.NoData (no_data_exact soa other e)
answer_exact (local.NoName soa) (local.NoName other) e = ap local.NoName (no_name_exact soa other e)
answer_exact local.Refuse local.Refuse e = refl
answer_exact local.Drop local.Drop e = refl
answer_exact local.Pass local.Pass e = refl
answer_exact _ _ e = absurd (false≢true e)

local_exact : (a : Local (List Record) Record) (b : SeenValue) → seen_eq (seen.Local a) b ≡ true → seen.Local a ≡ b
local_exact a (seen.Local b) e = ap seen.Local (answer_exact a b e)
local_exact a _ e = absurd (false≢true e)

oldest_exact : (a b : Option Labels) → seen_eq (seen.Oldest a) (seen.Oldest b) ≡ true → a ≡ b
oldest_exact None None e = refl
oldest_exact (Some name) (Some other) e = ap Some (name_eq_exact name other e)
oldest_exact _ _ e = absurd (false≢true e)

refusal_eq_exact : (a b : Refusal) → refusal_eq a b ≡ true → a ≡ b
refusal_eq_exact refusal.NothingToUndo refusal.NothingToUndo e = refl
refusal_eq_exact refusal.NothingToRedo refusal.NothingToRedo e = refl
refusal_eq_exact refusal.NotKept refusal.NotKept e = refl
refusal_eq_exact (refusal.Buried t) (refusal.Buried u) e = ap refusal.Buried (eqb-true t u e)
refusal_eq_exact _ _ e = absurd (false≢true e)

refusal_eq_itself : (a : Refusal) → refusal_eq a a ≡ true
refusal_eq_itself refusal.NothingToUndo = refl
refusal_eq_itself refusal.NothingToRedo = refl
refusal_eq_itself refusal.NotKept = refl
refusal_eq_itself (refusal.Buried t) = same t

pub seen_eq_exact : (a b : SeenValue) → seen_eq a b ≡ true → a ≡ b
seen_eq_exact seen.Unknown seen.Unknown e = refl
seen_eq_exact (seen.Held s) b e = held_exact s b e
seen_eq_exact (seen.Local a) b e = local_exact a b e
seen_eq_exact (seen.Zones zones) (seen.Zones other) e = ap seen.Zones ((slice_eq-Decides zone_eq-Decides zones other _ refl).0 e)
seen_eq_exact (seen.Records records) (seen.Records other) e = ap seen.Records ((slice_eq-Decides record_eq-Decides records other _ refl).0 e)
seen_eq_exact (seen.Stubs stubs) (seen.Stubs other) e = ap seen.Stubs ((slice_eq-Decides stub_eq-Decides stubs other _ refl).0 e)
seen_eq_exact (seen.Commands commands) (seen.Commands other) e = ap seen.Commands ((slice_eq-Decides journalled_eq-Decides commands other _ refl).0 e)
seen_eq_exact (seen.Buried buried) (seen.Buried other) e = ap seen.Buried ((slice_eq-Decides buried_eq-Decides buried other _ refl).0 e)
seen_eq_exact (seen.Servers servers) (seen.Servers other) e = ap seen.Servers (servers_eq_exact servers other e)
seen_eq_exact (seen.Oldest name) (seen.Oldest other) e = ap seen.Oldest (oldest_exact name other e)
seen_eq_exact (seen.Command held) (seen.Command other) e = ap seen.Command (journalled_eq_exact held other e)
seen_eq_exact (seen.Refused why) (seen.Refused other) e = ap seen.Refused (refusal_eq_exact why other e)
seen_eq_exact _ _ e = absurd (false≢true e)

no_data_itself : (a : Option Record) → seen_eq (seen.Local (local.NoData a)) (seen.Local (local.NoData a)) ≡ true
no_data_itself None = refl
no_data_itself (Some r) = record_eq_itself r

no_name_itself : (a : Option Record) → seen_eq (seen.Local (local.NoName a)) (seen.Local (local.NoName a)) ≡ true
no_name_itself None = refl
no_name_itself (Some r) = record_eq_itself r

local_itself : (a : Local (List Record) Record) → seen_eq (seen.Local a) (seen.Local a) ≡ true
local_itself (local.Data set) = (slice_eq-Decides record_eq-Decides set set _ refl).1 refl
local_itself (local.NoData soa) = no_data_itself soa
local_itself (local.NoName soa) = no_name_itself soa
local_itself local.Refuse = refl
local_itself local.Drop = refl
local_itself local.Pass = refl

oldest_itself : (a : Option Labels) → seen_eq (seen.Oldest a) (seen.Oldest a) ≡ true
oldest_itself None = refl
oldest_itself (Some name) = name_eq_itself name

pub seen_eq_itself : (a : SeenValue) → seen_eq a a ≡ true
seen_eq_itself seen.Unknown = refl
seen_eq_itself (seen.Held s) = both_true (rank_eq_itself s.rank) (both_true (same s.left) (find_eq_itself s.body))
seen_eq_itself (seen.Local a) = local_itself a
seen_eq_itself (seen.Zones zones) = (slice_eq-Decides zone_eq-Decides zones zones _ refl).1 refl
seen_eq_itself (seen.Records records) = (slice_eq-Decides record_eq-Decides records records _ refl).1 refl
seen_eq_itself (seen.Stubs stubs) = (slice_eq-Decides stub_eq-Decides stubs stubs _ refl).1 refl
seen_eq_itself (seen.Buried buried) = (slice_eq-Decides buried_eq-Decides buried buried _ refl).1 refl
seen_eq_itself (seen.Servers servers) = servers_eq_itself servers
seen_eq_itself (seen.Oldest name) = oldest_itself name
seen_eq_itself (seen.Command held) = journalled_eq_itself held
seen_eq_itself (seen.Refused why) = refusal_eq_itself why
seen_eq_itself (seen.Commands commands) = (slice_eq-Decides journalled_eq-Decides commands commands _ refl).1 refl

-- ---- replies

pub reason_eq_exact : (a b : Reason) → reason_eq a b ≡ true → a ≡ b
reason_eq_exact BelowRedirect BelowRedirect e = refl
reason_eq_exact DataBelow DataBelow e = refl
reason_eq_exact CnameClash CnameClash e = refl
reason_eq_exact TooMany TooMany e = refl
reason_eq_exact _ _ e = absurd (false≢true e)

pub reason_eq_itself : (a : Reason) → reason_eq a a ≡ true
reason_eq_itself BelowRedirect = refl
reason_eq_itself DataBelow = refl
reason_eq_itself CnameClash = refl
reason_eq_itself TooMany = refl

pub reply_eq_exact : (a b : Reply) → reply_eq a b ≡ true → a ≡ b
reply_eq_exact Taken Taken e = refl
reply_eq_exact Outranked Outranked e = refl
reply_eq_exact (Seen a) (Seen b) e = ap Seen (seen_eq_exact a b e)
reply_eq_exact Swept Swept e = refl
reply_eq_exact Forgotten Forgotten e = refl
reply_eq_exact (Done t) (Done u) e = ap Done (eqb-true t u e)
reply_eq_exact (Refused r) (Refused s) e = ap Refused (reason_eq_exact r s e)
reply_eq_exact (Undone t) (Undone u) e = ap Undone (eqb-true t u e)
reply_eq_exact (Redone t) (Redone u) e = ap Redone (eqb-true t u e)
reply_eq_exact NothingToUndo NothingToUndo e = refl
reply_eq_exact NothingToRedo NothingToRedo e = refl
reply_eq_exact NotKept NotKept e = refl
reply_eq_exact (Buried t) (Buried u) e = ap Buried (eqb-true t u e)
reply_eq_exact _ _ e = absurd (false≢true e)

pub reply_eq_itself : (a : Reply) → reply_eq a a ≡ true
reply_eq_itself Taken = refl
reply_eq_itself Outranked = refl
reply_eq_itself (Seen a) = seen_eq_itself a
reply_eq_itself Swept = refl
reply_eq_itself Forgotten = refl
reply_eq_itself (Done t) = same t
reply_eq_itself (Refused r) = reason_eq_itself r
reply_eq_itself (Undone t) = same t
reply_eq_itself (Redone t) = same t
reply_eq_itself NothingToUndo = refl
reply_eq_itself NothingToRedo = refl
reply_eq_itself NotKept = refl
reply_eq_itself (Buried t) = same t
