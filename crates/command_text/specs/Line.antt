-- Lines: the first word is a command, and the words after it are the command's.
use Rattle.std.specs.Prelude.{◌≡◌, ◌≤◌, ℕ, ◌-◌, ◌^◌, Bool, true, false, nat_lt, ◌==◌, Option, Some, None, is_some, Result, Ok, Err, is_ok, List, [], ◌∷◌, length, if◌then◌else◌}
use Rattle.streams.specs.declared.held_line.TheConstants.{LONGEST_LINE}
use Rattle.dns_name.specs.Results.{◌>>=◌, or_fault}
use Rattle.dns_text.specs.Word.{next_word}
use Rattle.dns_text.specs.Number.{number_in}
use Rattle.history.specs.declared.event.Ask.TheVariants.{Answer, Servers as ServersAsk, Zones, Records, Stubs, Commands as CommandsAsk, Buried as BuriedAsk, Oldest as OldestAsk, After, NextUndo}
use Rattle.history.specs.declared.event.Move.{Move}
use Rattle.history.specs.declared.event.Move.TheVariants as move
use Rattle.history.specs.declared.event.Command.{Command}
use Rattle.history.specs.declared.event.Command.TheVariants.{Flush as FlushCommand, FlushType as FlushTypeCommand, FlushZone as FlushZoneCommand}
use Rattle.command_text.specs.declared.line.Line.{Line}
use Rattle.command_text.specs.declared.line.Line.TheVariants.{Silent, At as AtLine, Admit as AdmitLine, Deny as DenyLine, Request as RequestLine, Stop as StopLine, Status as StatusLine, Stats as StatsLine}
use Rattle.command_text.specs.declared.request.Request.TheVariants.{Look as LookRequest, Sweep as SweepRequest, Forget as ForgetRequest, Do as DoRequest, Undo as UndoRequest, Redo as RedoRequest, UndoOf as UndoOfRequest, RedoOf as RedoOfRequest}
use Rattle.command_text.specs.declared.fault.LineFault.{LineFault}
use Rattle.command_text.specs.declared.fault.LineFault.TheVariants.{Unknown, BadData, TooLong}
use Rattle.command_text.specs.declared.words.Verb.{Verb}
use Rattle.command_text.specs.declared.words.Verb.TheVariants.{At, Admit, NoData, NoName, Forget, Oldest, Look, Servers, Sweep, Flush, FlushType, FlushZone, LocalZone, LocalZoneRemove, LocalData, LocalDataRemove, StubAdd, StubRemove, ListLocalZones, ListLocalData, ListStubs, ListCommands, ListBuried, Undo, Redo, LookUndo, LookRedo, LookWithout, WhatUndo, Stop, Status, Stats}
use Rattle.command_text.specs.declared.words.Channel.{Channel}
use Rattle.command_text.specs.Words.{verb_in}
use Rattle.command_text.specs.Parts.{word_in, ends, question_words, needs_question, question_in, only_name}
use Rattle.command_text.specs.Admit.{admit_words, given_of}
use Rattle.command_text.specs.Deny.{no_data_words, no_name_words, no_data_of, no_name_of}
use Rattle.command_text.specs.Stubs.{stub_words, set_stub_in, drop_stub_in}
use Rattle.command_text.specs.Local.{set_zone_in, drop_zone_in, record_words, add_record_in, drop_name_in}

-- An empty line, or a comment: a line that begins with a number sign (35).
abbrev pub is_silent : List ℕ → Bool
is_silent [] = true
is_silent (octet ∷ octets) = octet == 35

-- A command without words of its own: the rest of the line is blank.
unfoldable pub alone : Line → List ℕ → Result Line LineFault
alone line text = do
  end ← ends text
  Ok line

-- `at N`: the moment, from 0 to 2^64 - 1.
unfoldable pub at_in : List ℕ → Result Line LineFault
at_in text = do
  n ← word_in text
  moment ← or_fault BadData (number_in (2 ^ 64 - 1) n.0)
  end ← ends n.1
  Ok (AtLine moment)

-- A ticket: from 1 to 2^62 - 1.
abbrev pub given_ticket : Option ℕ → Option ℕ
given_ticket None = None
given_ticket (Some n) = if n == 0 then None else Some n

-- The ticket that a word writes.
abbrev pub ticket_of : List ℕ → Result ℕ LineFault
ticket_of word = or_fault BadData (given_ticket (number_in (2 ^ 62 - 1) word))

-- A ticket, and no more.
unfoldable pub ticket_in : List ℕ → Result ℕ LineFault
ticket_in text = do
  n ← word_in text
  ticket ← ticket_of n.0
  end ← ends n.1
  Ok ticket

-- `undo`: undoes the newest command. `undo N`: undoes that of a ticket.
unfoldable pub undo_in : List ℕ → Result Line LineFault
undo_in text =
    if is_some (next_word text) then (ticket_in text >>= λ ticket. Ok (RequestLine (UndoOfRequest ticket))) else Ok (RequestLine UndoRequest)

-- `redo`: redoes the command that was undone last. `redo N`: redoes that of a ticket.
unfoldable pub redo_in : List ℕ → Result Line LineFault
redo_in text =
    if is_some (next_word text) then (ticket_in text >>= λ ticket. Ok (RequestLine (RedoOfRequest ticket))) else Ok (RequestLine RedoRequest)

-- `admit RANK NAME TTL TYPE DATA [| DATA]..`: a set that was found.
unfoldable pub admit_in : List ℕ → Result Line LineFault
admit_in text = do
  words ← admit_words text
  given ← given_of words
  Ok (AdmitLine given)

-- `nodata NAME TTL TYPE OWNER SOA-DATA`: a negative answer for one type.
unfoldable pub no_data_in : List ℕ → Result Line LineFault
no_data_in text = do
  words ← no_data_words text
  denied ← no_data_of words
  Ok (DenyLine denied)

-- `noname NAME TTL OWNER SOA-DATA`: a negative answer for the whole name.
unfoldable pub no_name_in : List ℕ → Result Line LineFault
no_name_in text = do
  words ← no_name_words text
  denied ← no_name_of words
  Ok (DenyLine denied)

-- `forget NAME`: empties the cells of a name, whichever commands are in force.
unfoldable pub forget_in : List ℕ → Result Line LineFault
forget_in text = do
  name ← only_name text
  Ok (RequestLine (ForgetRequest name))

-- `look NAME TYPE`: the lookup of a question.
unfoldable pub look_in : List ℕ → Result Line LineFault
look_in text = do
  question ← question_in text
  Ok (RequestLine (LookRequest (Answer question)))

-- `look_undo NAME TYPE` and `look_redo NAME TYPE`: the lookup of a question right after an undo or a redo, which is not made.
unfoldable pub look_after_in : Move → List ℕ → Result Line LineFault
look_after_in step text = do
  question ← question_in text
  Ok (RequestLine (LookRequest (After question step)))

-- `look_without N NAME TYPE`: the same for the undo of the command of a ticket.
unfoldable pub look_without_in : List ℕ → Result Line LineFault
look_without_in text = do
  n ← word_in text
  found ← needs_question n.1
  ticket ← ticket_of n.0
  question ← question_in n.1
  Ok (RequestLine (LookRequest (After question (move.UndoOf ticket))))

-- `servers NAME`: the lookup of the servers to ask for a name.
unfoldable pub servers_in : List ℕ → Result Line LineFault
servers_in text = do
  name ← only_name text
  Ok (RequestLine (LookRequest (ServersAsk name)))

-- `flush NAME`: drops the common types of a name from the cache.
unfoldable pub flush_in : List ℕ → Result Line LineFault
flush_in text = do
  name ← only_name text
  Ok (RequestLine (DoRequest (FlushCommand name)))

-- `flush_type NAME TYPE`: drops one type of a name from the cache.
unfoldable pub flush_type_in : List ℕ → Result Line LineFault
flush_type_in text = do
  question ← question_in text
  Ok (RequestLine (DoRequest (FlushTypeCommand question)))

-- `flush_zone NAME`: drops all that is at or below a name from the cache.
unfoldable pub flush_zone_in : List ℕ → Result Line LineFault
flush_zone_in text = do
  name ← only_name text
  Ok (RequestLine (DoRequest (FlushZoneCommand name)))

-- The line that gives a command, if the words of the command were read.
unfoldable pub do_line : Result Command LineFault → Result Line LineFault
do_line read = do
  command ← read
  Ok (RequestLine (DoRequest command))

-- The line of a command, with the text after its word.
abbrev pub said_by : Verb → List ℕ → Result Line LineFault
said_by At text = at_in text
said_by Admit text = admit_in text
said_by NoData text = no_data_in text
said_by NoName text = no_name_in text
said_by Forget text = forget_in text
said_by Oldest text = alone (RequestLine (LookRequest OldestAsk)) text
said_by Look text = look_in text
said_by Servers text = servers_in text
said_by Sweep text = alone (RequestLine SweepRequest) text
said_by Flush text = flush_in text
said_by FlushType text = flush_type_in text
said_by FlushZone text = flush_zone_in text
said_by LocalZone text = do_line (set_zone_in text)
said_by LocalZoneRemove text = do_line (drop_zone_in text)
said_by LocalData text = do_line (add_record_in text)
said_by LocalDataRemove text = do_line (drop_name_in text)
said_by StubAdd text = do_line (set_stub_in text)
said_by StubRemove text = do_line (drop_stub_in text)
said_by ListLocalZones text = alone (RequestLine (LookRequest Zones)) text
said_by ListLocalData text = alone (RequestLine (LookRequest Records)) text
said_by ListStubs text = alone (RequestLine (LookRequest Stubs)) text
said_by ListCommands text = alone (RequestLine (LookRequest CommandsAsk)) text
said_by ListBuried text = alone (RequestLine (LookRequest BuriedAsk)) text
said_by Undo text = undo_in text
said_by Redo text = redo_in text
said_by LookUndo text = look_after_in move.Undo text
said_by LookRedo text = look_after_in move.Redo text
said_by LookWithout text = look_without_in text
said_by WhatUndo text = alone (RequestLine (LookRequest NextUndo)) text
said_by Stop text = alone StopLine text
said_by Status text = alone StatusLine text
said_by Stats text = alone StatsLine text

-- Reads a line. It is unknown if it has no word, or if its first word is no command of the channel.
abbrev pub read_of : Channel → List ℕ → Result Line LineFault
read_of channel line =
    if nat_lt LONGEST_LINE (length line) then Err TooLong
    else if is_silent line then Ok Silent
    else (or_fault Unknown (next_word line) >>= λ first. or_fault Unknown (verb_in channel first.0) >>= λ verb. said_by verb first.1)

-- On this channel a line with this first word is unknown, whatever follows the word.
abbrev pub IsUnknown : Channel → List ℕ → Type 0
IsUnknown channel word =
    (line rest : List ℕ) → length line ≤ LONGEST_LINE → is_silent line ≡ false → next_word line ≡ Some (word, rest) → read_of channel line ≡ Err Unknown

-- Reads a line, but takes an empty line or a comment as one, however long it is.
abbrev pub says : Channel → List ℕ → Result Line LineFault
says channel line = if is_silent line then Ok Silent else read_of channel line

-- Only a command that has a name takes memory, and only if none of its words is missing.
abbrev pub takes_by : Verb → List ℕ → Bool
takes_by At text = false
takes_by Admit text = is_ok (admit_words text)
takes_by NoData text = is_ok (no_data_words text)
takes_by NoName text = is_ok (no_name_words text)
takes_by Forget text = is_ok (word_in text)
takes_by Oldest text = false
takes_by Look text = is_ok (question_words text)
takes_by Servers text = is_ok (word_in text)
takes_by Sweep text = false
takes_by Flush text = is_ok (word_in text)
takes_by FlushType text = is_ok (question_words text)
takes_by FlushZone text = is_ok (word_in text)
takes_by LocalZone text = is_ok (question_words text)
takes_by LocalZoneRemove text = is_ok (word_in text)
takes_by LocalData text = is_ok (record_words text)
takes_by LocalDataRemove text = is_ok (word_in text)
takes_by StubAdd text = is_ok (stub_words text)
takes_by StubRemove text = is_ok (word_in text)
takes_by ListLocalZones text = false
takes_by ListLocalData text = false
takes_by ListStubs text = false
takes_by ListCommands text = false
takes_by ListBuried text = false
takes_by Undo text = false
takes_by Redo text = false
takes_by LookUndo text = is_ok (question_words text)
takes_by LookRedo text = is_ok (question_words text)
takes_by LookWithout text = is_ok (word_in text >>= λ n. needs_question n.1)
takes_by WhatUndo text = false
takes_by Stop text = false
takes_by Status text = false
takes_by Stats text = false

abbrev takes_if : Option Verb → List ℕ → Bool
takes_if None text = false
takes_if (Some verb) text = takes_by verb text

abbrev takes_first : Channel → Option (List ℕ × List ℕ) → Bool
takes_first channel None = false
takes_first channel (Some first) = takes_if (verb_in channel first.0) first.1

-- Whether reading the line takes memory.
abbrev pub takes_memory : Channel → List ℕ → Bool
takes_memory channel line = if nat_lt LONGEST_LINE (length line) then false else takes_first channel (next_word line)
