-- Commands as the lines that give them.
use Rattle.std.specs.Prelude.{◌≡◌, ◌≤◌, ◌<◌, ◌^◌, ℕ, false, List, ◌∷◌, ◌++◌, length, Some, Ok, codes}
use Rattle.std.specs.List.{AllByRecursion}
use Rattle.streams.specs.declared.held_line.TheConstants.{LONGEST_LINE}
use Rattle.dns_name.specs.Labels.{IsName}
use Rattle.dns_name.specs.Text.{text_of}
use Rattle.dns_text.specs.Kind.{is_excluded, type_text}
use Rattle.dns_text.specs.Data.{data_in, data_text}
use Rattle.dns_text.specs.Record.{record_text}
use Rattle.dns_text.specs.declared.addr.Addr.{Addr}
use Rattle.dns_text.specs.Written.{IsIp}
use Rattle.local_zone.specs.ZoneType.{word_of}
use Rattle.history.specs.declared.event.Command.{Command}
use Rattle.history.specs.declared.event.Command.TheVariants.{Flush, FlushType, FlushZone, SetZone, DropZone, AddRecord, DropName, SetStub, DropStub}
use Rattle.command_text.specs.declared.line.Line.TheVariants.{Request as RequestLine}
use Rattle.command_text.specs.declared.request.Request.TheVariants.{Do}
use Rattle.command_text.specs.declared.words.Channel.{Channel}
use Rattle.command_text.specs.Addrs.{addrs_text}
use Rattle.command_text.specs.Line.{read_of}

-- The line that gives a command, without its end.
abbrev pub command_words : Command → List ℕ
command_words (Flush name) = codes "flush " ++ text_of name
command_words (FlushZone name) = codes "flush_zone " ++ text_of name
command_words (FlushType question) = codes "flush_type " ++ text_of question.owner ++ 32 ∷ type_text question.kind
command_words (SetZone name kind) = codes "local_zone " ++ text_of name ++ 32 ∷ word_of kind
command_words (DropZone name) = codes "local_zone_remove " ++ text_of name
command_words (AddRecord r) = codes "local_data " ++ record_text r
command_words (DropName name) = codes "local_data_remove " ++ text_of name
command_words (SetStub stub) = codes "stub_add " ++ text_of stub.name ++ addrs_text stub.addrs
command_words (DropStub name) = codes "stub_remove " ++ text_of name

-- An address has as many octets as its kind has, and a port that is not 0.
abbrev pub IsAddr : Addr → Type 0
IsAddr addr = IsIp addr.ip × (0 < addr.port) × (addr.port < 2 ^ 16)

-- A line can give the command: its names are names, its type is one that records have, and its record's data are read back.
-- All data that have the form of their type are.
abbrev pub IsGivable : Command → Type 0
IsGivable (Flush name) = IsName name
IsGivable (FlushZone name) = IsName name
IsGivable (FlushType question) = IsName question.owner × (question.kind < 2 ^ 16) × (is_excluded question.kind ≡ false)
IsGivable (SetZone name kind) = IsName name
IsGivable (DropZone name) = IsName name
IsGivable (AddRecord r) = IsName r.owner × (r.kind < 2 ^ 16) × (is_excluded r.kind ≡ false) × (r.ttl < 2 ^ 31) × (data_in r.kind (data_text r.body) ≡ Some r.body)
IsGivable (DropName name) = IsName name
IsGivable (SetStub stub) = IsName stub.name × (0 < length stub.addrs) × AllByRecursion IsAddr stub.addrs
IsGivable (DropStub name) = IsName name

-- The line that gives a command is read back as that command, in a script and on the control socket.
abbrev pub ReadsCommands : Type 0
ReadsCommands =
    (channel : Channel) (command : Command) → IsGivable command → length (command_words command) ≤ LONGEST_LINE → read_of channel (command_words command) ≡ Ok (RequestLine (Do command))
