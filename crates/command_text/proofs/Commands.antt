-- The words of a command are read back as that command.
use Rattle.std.proofs.Common.{◌≡◌, ℕ, ◌<◌, ◌≤◌, ◌^◌, false, List, [], ◌∷◌, ◌++◌, length, Some, Ok, refl, ◌∙◌, arith, append_assoc, le-ltb}
use Rattle.std.specs.Prelude.{codes, decimal}
use Rattle.streams.specs.declared.held_line.TheConstants.{LONGEST_LINE}
use Rattle.dns_name.specs.Labels.{Labels, IsName}
use Rattle.dns_name.specs.Text.{text_of}
use Rattle.dns_text.specs.declared.record.Question.{Question}
use Rattle.dns_text.specs.declared.record.Record.{Record}
use Rattle.dns_text.specs.Word.{next_word, cut_word}
use Rattle.dns_text.specs.Kind.{is_excluded, type_text}
use Rattle.dns_text.specs.Data.{data_in, data_text}
use Rattle.dns_text.specs.Record.{record_in, record_text}
use Rattle.dns_text.specs.Written.{WritesNames, WritesNumbers, WritesTypes, WritesAddrs, WritesRecords}
use Rattle.local_zone.specs.declared.zone_type.ZoneType.{ZoneType}
use Rattle.local_zone.specs.declared.zone_type.ZoneType.TheVariants.{Deny, Refuse, Static, Transparent, TypeTransparent, Redirect, AlwaysTransparent, AlwaysRefuse, AlwaysNxDomain, AlwaysNoData}
use Rattle.local_zone.specs.ZoneType.{word_of, zone_type_in}
use Rattle.history.specs.declared.event.Command.TheVariants.{Flush as FlushCommand, FlushType as FlushTypeCommand, FlushZone as FlushZoneCommand, SetZone, DropZone, AddRecord, DropName, SetStub, DropStub}
use Rattle.command_text.specs.declared.line.Line.TheVariants.{Request as RequestLine}
use Rattle.command_text.specs.declared.request.Request.TheVariants.{Do}
use Rattle.command_text.specs.declared.words.Verb.{Verb}
use Rattle.command_text.specs.declared.words.Verb.TheVariants.{Flush, FlushType, FlushZone, LocalZone, LocalZoneRemove, LocalData, LocalDataRemove, StubAdd, StubRemove}
use Rattle.command_text.specs.declared.words.Channel.{Channel}
use Rattle.command_text.specs.declared.words.Channel.TheVariants.{Script, Control}
use Rattle.command_text.specs.Words.{by_word, verb_in}
use Rattle.command_text.specs.Parts.{question_words, question_of, question_in, name_of, only_name}
use Rattle.dns_text.specs.declared.addr.Addr.{Addr}
use Rattle.dns_text.specs.Addr.{addr_text}
use Rattle.std.specs.List.{AllByRecursion}
use Rattle.stub_table.specs.declared.stub.Stub.{Stub}
use Rattle.command_text.specs.Addrs.{addrs_text}
use Rattle.command_text.specs.Stubs.{stub_words, stub_of, set_stub_in, drop_stub_in}
use Rattle.command_text.specs.Local.{zone_of, set_zone_in, drop_zone_in, drop_name_in, record_words, add_record_in}
use Rattle.command_text.specs.Line.{is_silent, flush_in, flush_type_in, flush_zone_in, do_line, said_by, read_of}
use Rattle.command_text.specs.CommandWords.{command_words, IsAddr, ReadsCommands}
use Rattle.command_text.proofs.AddrWords.{first-addr, addrs-again}

-- ---- what the first word of a line commands

-- The word is first in a line, and commands this.
record Commands (word : List ℕ) (verb : Verb) : Type 0 where
  loud : (rest : List ℕ) → is_silent (word ++ 32 ∷ rest) ≡ false
  first : (rest : List ℕ) → next_word (word ++ 32 ∷ rest) ≡ Some (word, 32 ∷ rest)
  found : (channel : Channel) → verb_in channel word ≡ Some verb

said : (channel : Channel) (word rest : List ℕ) (verb : Verb) → Commands word verb → length (word ++ 32 ∷ rest) ≤ LONGEST_LINE → read_of channel (word ++ 32 ∷ rest) ≡ said_by verb (32 ∷ rest)
said channel word rest verb h short = rw (le-ltb LONGEST_LINE (length (word ++ 32 ∷ rest)) short, h.loud rest, h.first rest, h.found channel) refl

by_both : (P : Channel → Type 0) → P Script → P Control → (channel : Channel) → P channel
by_both P script control Script = script
by_both P script control Control = control

flush_type_commands : Commands (codes "flush_type") FlushType
unfolding cut_word by_word
flush_type_commands = record { loud = λ rest. refl; first = λ rest. refl; found = by_both (λ channel. verb_in channel (codes "flush_type") ≡ Some FlushType) refl refl }

flush_commands : Commands (codes "flush") Flush
unfolding cut_word by_word
flush_commands = record { loud = λ rest. refl; first = λ rest. refl; found = by_both (λ channel. verb_in channel (codes "flush") ≡ Some Flush) refl refl }

flush_zone_commands : Commands (codes "flush_zone") FlushZone
unfolding cut_word by_word
flush_zone_commands = record { loud = λ rest. refl; first = λ rest. refl; found = by_both (λ channel. verb_in channel (codes "flush_zone") ≡ Some FlushZone) refl refl }

local_zone_commands : Commands (codes "local_zone") LocalZone
unfolding cut_word by_word
local_zone_commands = record { loud = λ rest. refl; first = λ rest. refl; found = by_both (λ channel. verb_in channel (codes "local_zone") ≡ Some LocalZone) refl refl }

local_zone_remove_commands : Commands (codes "local_zone_remove") LocalZoneRemove
unfolding cut_word by_word
local_zone_remove_commands = record { loud = λ rest. refl; first = λ rest. refl; found = by_both (λ channel. verb_in channel (codes "local_zone_remove") ≡ Some LocalZoneRemove) refl refl }

local_data_commands : Commands (codes "local_data") LocalData
unfolding cut_word by_word
local_data_commands = record { loud = λ rest. refl; first = λ rest. refl; found = by_both (λ channel. verb_in channel (codes "local_data") ≡ Some LocalData) refl refl }

local_data_remove_commands : Commands (codes "local_data_remove") LocalDataRemove
unfolding cut_word by_word
local_data_remove_commands = record { loud = λ rest. refl; first = λ rest. refl; found = by_both (λ channel. verb_in channel (codes "local_data_remove") ≡ Some LocalDataRemove) refl refl }

stub_add_commands : Commands (codes "stub_add") StubAdd
unfolding cut_word by_word
stub_add_commands = record { loud = λ rest. refl; first = λ rest. refl; found = by_both (λ channel. verb_in channel (codes "stub_add") ≡ Some StubAdd) refl refl }

stub_remove_commands : Commands (codes "stub_remove") StubRemove
unfolding cut_word by_word
stub_remove_commands = record { loud = λ rest. refl; first = λ rest. refl; found = by_both (λ channel. verb_in channel (codes "stub_remove") ≡ Some StubRemove) refl refl }

-- ---- what the words after it say

-- what is known of what is written
pub record Written : Type 0 where
  pub names : WritesNames
  pub numbers : WritesNumbers
  pub types : WritesTypes
  pub addrs : WritesAddrs
  pub records : WritesRecords

name_read : Written → (name : Labels) → IsName name → only_name (32 ∷ text_of name) ≡ Ok name
unfolding only_name name_of
name_read w name h = let written = w.names name h in rw (written.0.last, written.1) refl

flush_type_read : Written → (question : Question) → IsName question.owner → question.kind < 2 ^ 16 → is_excluded question.kind ≡ false
    → flush_type_in (32 ∷ (text_of question.owner ++ 32 ∷ type_text question.kind)) ≡ Ok (RequestLine (Do (FlushTypeCommand question)))
unfolding flush_type_in question_in question_words question_of
flush_type_read w question h small known =
    let name = w.names question.owner h in
    let kind = w.types question.kind small in
    rw (name.0.first (type_text question.kind), kind.0.last, name.1, kind.1 known) refl

flush_read : Written → (name : Labels) → IsName name → flush_in (32 ∷ text_of name) ≡ Ok (RequestLine (Do (FlushCommand name)))
unfolding flush_in
flush_read w name h = rw (name_read w name h) refl

flush_zone_read : Written → (name : Labels) → IsName name → flush_zone_in (32 ∷ text_of name) ≡ Ok (RequestLine (Do (FlushZoneCommand name)))
unfolding flush_zone_in
flush_zone_read w name h = rw (name_read w name h) refl

record ReadsZoneType (kind : ZoneType) : Type 0 where
  word : next_word (word_of kind) ≡ Some (word_of kind, [])
  value : zone_type_in (word_of kind) ≡ Some kind

zone_type_read : (kind : ZoneType) → ReadsZoneType kind
unfolding cut_word
zone_type_read Deny = record { word = refl; value = refl }
zone_type_read Refuse = record { word = refl; value = refl }
zone_type_read Static = record { word = refl; value = refl }
zone_type_read Transparent = record { word = refl; value = refl }
zone_type_read TypeTransparent = record { word = refl; value = refl }
zone_type_read Redirect = record { word = refl; value = refl }
zone_type_read AlwaysTransparent = record { word = refl; value = refl }
zone_type_read AlwaysRefuse = record { word = refl; value = refl }
zone_type_read AlwaysNxDomain = record { word = refl; value = refl }
zone_type_read AlwaysNoData = record { word = refl; value = refl }

local_zone_read : Written → (name : Labels) (kind : ZoneType) → IsName name → do_line (set_zone_in (32 ∷ (text_of name ++ 32 ∷ word_of kind))) ≡ Ok (RequestLine (Do (SetZone name kind)))
unfolding do_line set_zone_in question_words zone_of
local_zone_read w name kind h =
    let written = w.names name h in
    let type = zone_type_read kind in
    rw (written.0.first (word_of kind), type.word, written.1, type.value) refl

local_zone_remove_read : Written → (name : Labels) → IsName name → do_line (drop_zone_in (32 ∷ text_of name)) ≡ Ok (RequestLine (Do (DropZone name)))
unfolding do_line drop_zone_in
local_zone_remove_read w name h = rw (name_read w name h) refl

local_data_remove_read : Written → (name : Labels) → IsName name → do_line (drop_name_in (32 ∷ text_of name)) ≡ Ok (RequestLine (Do (DropName name)))
unfolding do_line drop_name_in
local_data_remove_read w name h = rw (name_read w name h) refl

stub_remove_read : Written → (name : Labels) → IsName name → do_line (drop_stub_in (32 ∷ text_of name)) ≡ Ok (RequestLine (Do (DropStub name)))
unfolding do_line drop_stub_in
stub_remove_read w name h = rw (name_read w name h) refl

stub_add_by : Written → (name : Labels) (addrs : List Addr) → IsName name → 0 < length addrs → AllByRecursion IsAddr addrs
    → do_line (set_stub_in (32 ∷ (text_of name ++ addrs_text addrs))) ≡ Ok (RequestLine (Do (SetStub (record { name = name; addrs = addrs }))))
unfolding do_line set_stub_in stub_words stub_of
stub_add_by w name [] h some each = absurd (omega arith)
stub_add_by w name (addr ∷ addrs) h some each =
    let written = w.names name h in
    rw (written.0.first (addr_text addr ++ addrs_text addrs), first-addr w.addrs addr addrs each.0, written.1, addrs-again w.addrs (addr ∷ addrs) each) refl

record_parts : (r : Record) → record_text r ≡ text_of r.owner ++ 32 ∷ (decimal r.ttl ++ 32 ∷ (type_text r.kind ++ 32 ∷ data_text r.body))
record_parts r = simp append_assoc

has_words : Written → (r : Record) → IsName r.owner → r.kind < 2 ^ 16 → r.ttl < 2 ^ 31 → record_words (32 ∷ record_text r) ≡ Ok tt
unfolding record_words
has_words w r h small ttl =
    let name = w.names r.owner h in
    let number = w.numbers r.ttl (omega arith) in
    let kind = w.types r.kind small in
    rw (record_parts r, name.0.first (decimal r.ttl ++ 32 ∷ (type_text r.kind ++ 32 ∷ data_text r.body)), number.first (type_text r.kind ++ 32 ∷ data_text r.body), kind.0.first (data_text r.body)) refl

record_behind : (text : List ℕ) → record_in (32 ∷ text) ≡ record_in text
unfolding record_in
record_behind text = refl

local_data_read : Written → (r : Record) → IsName r.owner → r.kind < 2 ^ 16 → is_excluded r.kind ≡ false → r.ttl < 2 ^ 31 → data_in r.kind (data_text r.body) ≡ Some r.body
    → do_line (add_record_in (32 ∷ record_text r)) ≡ Ok (RequestLine (Do (AddRecord r)))
unfolding do_line add_record_in
local_data_read w r h small known ttl again =
    rw (has_words w r h small ttl, record_behind (record_text r), w.records r h small known ttl again) refl

stub_add_said_by : Written → (channel : Channel) (name : Labels) (addrs : List Addr) → IsName name → 0 < length addrs → AllByRecursion IsAddr addrs → length (codes "stub_add " ++ text_of name ++ addrs_text addrs) ≤ LONGEST_LINE
    → read_of channel (codes "stub_add " ++ text_of name ++ addrs_text addrs) ≡ Ok (RequestLine (Do (SetStub (record { name = name; addrs = addrs }))))
stub_add_said_by w channel name addrs h some each short = said channel (codes "stub_add") (text_of name ++ addrs_text addrs) StubAdd stub_add_commands short ∙ stub_add_by w name addrs h some each

stub_add_said : Written → (channel : Channel) (stub : Stub) → IsName stub.name → 0 < length stub.addrs → AllByRecursion IsAddr stub.addrs → length (command_words (SetStub stub)) ≤ LONGEST_LINE
    → read_of channel (command_words (SetStub stub)) ≡ Ok (RequestLine (Do (SetStub stub)))
stub_add_said w channel stub h some each short = stub_add_said_by w channel stub.name stub.addrs h some each short

pub reads_commands : Written → ReadsCommands
reads_commands w channel (FlushCommand name) h short = said channel (codes "flush") (text_of name) Flush flush_commands short ∙ flush_read w name h
reads_commands w channel (FlushZoneCommand name) h short = said channel (codes "flush_zone") (text_of name) FlushZone flush_zone_commands short ∙ flush_zone_read w name h
reads_commands w channel (FlushTypeCommand question) h short =
    said channel (codes "flush_type") (text_of question.owner ++ 32 ∷ type_text question.kind) FlushType flush_type_commands short ∙ flush_type_read w question h.0 h.1 h.2
reads_commands w channel (SetZone name kind) h short =
    said channel (codes "local_zone") (text_of name ++ 32 ∷ word_of kind) LocalZone local_zone_commands short ∙ local_zone_read w name kind h
reads_commands w channel (DropZone name) h short = said channel (codes "local_zone_remove") (text_of name) LocalZoneRemove local_zone_remove_commands short ∙ local_zone_remove_read w name h
reads_commands w channel (AddRecord r) h short = said channel (codes "local_data") (record_text r) LocalData local_data_commands short ∙ local_data_read w r h.0 h.1 h.2 h.3 h.4
reads_commands w channel (DropName name) h short = said channel (codes "local_data_remove") (text_of name) LocalDataRemove local_data_remove_commands short ∙ local_data_remove_read w name h
reads_commands w channel (SetStub stub) h short = stub_add_said w channel stub h.0 h.1 h.2 short
reads_commands w channel (DropStub name) h short = said channel (codes "stub_remove") (text_of name) StubRemove stub_remove_commands short ∙ stub_remove_read w name h
