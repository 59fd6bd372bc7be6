-- The table of commands: the word of each, the form of the words after it, and the channels that have it.
use Rattle.std.specs.Prelude.{ℕ, Bool, true, false, List, [], ◌∷◌, ◌++◌, Option, Some, None, codes, flat_map, filter, if◌then◌else◌}
use Rattle.std.specs.Str.{bytes_eq}
use Rattle.dns_name.specs.Options.{◌>>=◌}
use Rattle.command_text.specs.declared.words.Verb.{Verb}
use Rattle.command_text.specs.declared.words.Verb.TheVariants.{At, Admit, NoData, NoName, Forget, Oldest, Look, Servers, Sweep, Flush, FlushType, FlushZone, LocalZone, LocalZoneRemove, LocalData, LocalDataRemove, StubAdd, StubRemove, ListLocalZones, ListLocalData, ListStubs, ListCommands, ListBuried, Undo, Redo, LookUndo, LookRedo, LookWithout, WhatUndo, Stop, Status, Stats}
use Rattle.command_text.specs.declared.words.Channel.{Channel}
use Rattle.command_text.specs.declared.words.Channel.TheVariants.{Script, Control}
use Rattle.command_text.specs.declared.words.Usage.{Usage}

-- A row of the table.
pub record Row : Type 0 where
  pub verb : Verb
  pub word : List ℕ
  pub form : List ℕ
  pub in_script : Bool
  pub in_control : Bool

abbrev script_only : Verb → List ℕ → List ℕ → Row
script_only verb word form = record { verb = verb; word = word; form = form; in_script = true; in_control = false }

abbrev anywhere : Verb → List ℕ → List ℕ → Row
anywhere verb word form = record { verb = verb; word = word; form = form; in_script = true; in_control = true }

abbrev control_only : Verb → List ℕ → List ℕ → Row
control_only verb word form = record { verb = verb; word = word; form = form; in_script = false; in_control = true }

-- The commands, each with its word and the form of the words after it.
abbrev pub commands : List Row
commands =
    script_only At (codes "at") (codes "N")
    ∷ script_only Admit (codes "admit") (codes "RANK NAME TTL TYPE DATA [| DATA]..")
    ∷ script_only NoData (codes "nodata") (codes "NAME TTL TYPE OWNER SOA-DATA")
    ∷ script_only NoName (codes "noname") (codes "NAME TTL OWNER SOA-DATA")
    ∷ script_only Forget (codes "forget") (codes "NAME")
    ∷ script_only Oldest (codes "oldest") []
    ∷ anywhere Look (codes "look") (codes "NAME TYPE")
    ∷ anywhere Servers (codes "servers") (codes "NAME")
    ∷ anywhere Sweep (codes "sweep") []
    ∷ anywhere Flush (codes "flush") (codes "NAME")
    ∷ anywhere FlushType (codes "flush_type") (codes "NAME TYPE")
    ∷ anywhere FlushZone (codes "flush_zone") (codes "NAME")
    ∷ anywhere LocalZone (codes "local_zone") (codes "NAME TYPE")
    ∷ anywhere LocalZoneRemove (codes "local_zone_remove") (codes "NAME")
    ∷ anywhere LocalData (codes "local_data") (codes "RECORD")
    ∷ anywhere LocalDataRemove (codes "local_data_remove") (codes "NAME")
    ∷ anywhere StubAdd (codes "stub_add") (codes "NAME ADDR..")
    ∷ anywhere StubRemove (codes "stub_remove") (codes "NAME")
    ∷ anywhere ListLocalZones (codes "list_local_zones") []
    ∷ anywhere ListLocalData (codes "list_local_data") []
    ∷ anywhere ListStubs (codes "list_stubs") []
    ∷ anywhere ListCommands (codes "list_commands") []
    ∷ anywhere ListBuried (codes "list_buried") []
    ∷ anywhere Undo (codes "undo") (codes "[N]")
    ∷ anywhere Redo (codes "redo") (codes "[N]")
    ∷ anywhere LookUndo (codes "look_undo") (codes "NAME TYPE")
    ∷ anywhere LookRedo (codes "look_redo") (codes "NAME TYPE")
    ∷ anywhere LookWithout (codes "look_without") (codes "N NAME TYPE")
    ∷ anywhere WhatUndo (codes "what_undo") []
    ∷ control_only Stop (codes "stop") []
    ∷ control_only Status (codes "status") []
    ∷ control_only Stats (codes "stats") []
    ∷ []

-- The words that only scripts have.
abbrev pub script_words : List (List ℕ)
script_words = codes "at" ∷ codes "admit" ∷ codes "nodata" ∷ codes "noname" ∷ codes "forget" ∷ codes "oldest" ∷ []

-- A row as the code has it.
abbrev pub row_now : Usage → Row
row_now usage = record { verb = usage.verb; word = usage.word.now; form = usage.form.now; in_script = usage.in_script; in_control = usage.in_control }

-- The first row with this word.
unfoldable pub by_word : List ℕ → List Row → Option Row
by_word word [] = None
by_word word (row ∷ table) = if bytes_eq row.word word then Some row else by_word word table

-- Whether the channel has the command.
abbrev pub is_allowed : Channel → Row → Bool
is_allowed Script row = row.in_script
is_allowed Control row = row.in_control

-- The command of a row, if the channel has it.
abbrev pub verb_if : Channel → Row → Option Verb
verb_if channel row = if is_allowed channel row then Some row.verb else None

-- The command of a word, if the channel has it.
abbrev pub verb_in : Channel → List ℕ → Option Verb
verb_in channel word = by_word word commands >>= verb_if channel

-- The form after a word, with a blank before it if there is one.
abbrev pub form_text : List ℕ → List ℕ
form_text [] = []
form_text (c ∷ form) = 32 ∷ c ∷ form

-- A row as help shows it.
abbrev pub usage_text : Row → List ℕ
usage_text row = codes "  " ++ row.word ++ form_text row.form ++ 10 ∷ []

-- The help on the commands of a channel: a line for each.
abbrev pub help_text : Channel → List ℕ
help_text channel = flat_map usage_text (filter (is_allowed channel) commands)
