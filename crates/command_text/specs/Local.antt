-- The words of the commands on local zones and local data.
use Rattle.std.specs.Prelude.{ℕ, Result, Ok, Err, List}
use Rattle.dns_name.specs.Results.{◌>>=◌, or_fault}
use Rattle.dns_text.specs.declared.fault.TextFault.{TextFault}
use Rattle.dns_text.specs.declared.fault.TextFault.TheVariants as text_fault
use Rattle.dns_text.specs.Field.{named}
use Rattle.dns_text.specs.Record.{record_in}
use Rattle.local_zone.specs.ZoneType.{zone_type_in}
use Rattle.history.specs.declared.event.Command.{Command}
use Rattle.history.specs.declared.event.Command.TheVariants.{SetZone, DropZone, AddRecord, DropName}
use Rattle.command_text.specs.declared.fault.LineFault.{LineFault}
use Rattle.command_text.specs.declared.fault.LineFault.TheVariants.{BadName, BadType, BadData, NoMemory}
use Rattle.command_text.specs.Parts.{QuestionWords, word_in, ends, question_words, only_name}

-- The command that the words NAME TYPE give, or the first fault from the left.
unfoldable pub zone_of : QuestionWords → Result Command LineFault
zone_of words = do
  name ← or_fault BadName (named words.name)
  kind ← or_fault BadType (zone_type_in words.kind)
  end ← ends words.rest
  Ok (SetZone name kind)

-- `local_zone`: NAME TYPE and no more.
unfoldable pub set_zone_in : List ℕ → Result Command LineFault
set_zone_in text = question_words text >>= zone_of

-- `local_zone_remove`: NAME and no more.
unfoldable pub drop_zone_in : List ℕ → Result Command LineFault
drop_zone_in text = do
  name ← only_name text
  Ok (DropZone name)

-- `local_data_remove`: NAME and no more.
unfoldable pub drop_name_in : List ℕ → Result Command LineFault
drop_name_in text = do
  name ← only_name text
  Ok (DropName name)

-- The fault of a line, by the fault of its record.
abbrev pub record_fault : TextFault → LineFault
record_fault text_fault.BadName = BadName
record_fault text_fault.BadTtl = BadData
record_fault text_fault.BadType = BadType
record_fault text_fault.BadData = BadData
record_fault text_fault.NoMemory = NoMemory

-- A result of reading a record, with the fault of its line.
abbrev pub of_line : {A : Type 0} → Result A TextFault → Result A LineFault
of_line (Ok x) = Ok x
of_line (Err fault) = Err (record_fault fault)

-- A record has three words at least: its owner, its type and its data.
unfoldable pub record_words : List ℕ → Result (Unit {0}) LineFault
record_words text = do
  owner ← word_in text
  kind ← word_in owner.1
  datum ← word_in kind.1
  Ok tt

-- `local_data`: RECORD and no more.
unfoldable pub add_record_in : List ℕ → Result Command LineFault
add_record_in text = do
  words ← record_words text
  new ← of_line (record_in text)
  Ok (AddRecord new)
