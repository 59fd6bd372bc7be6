-- The words of the commands on stubs.
use Rattle.std.specs.Prelude.{ℕ, Result, Ok, List}
use Rattle.dns_name.specs.Results.{◌>>=◌, or_fault}
use Rattle.dns_text.specs.Field.{named}
use Rattle.history.specs.declared.event.Command.{Command}
use Rattle.history.specs.declared.event.Command.TheVariants.{SetStub, DropStub}
use Rattle.command_text.specs.declared.fault.LineFault.{LineFault}
use Rattle.command_text.specs.declared.fault.LineFault.TheVariants.{BadName}
use Rattle.command_text.specs.Parts.{word_in, only_name}
use Rattle.command_text.specs.Addrs.{addrs_in}

-- The word NAME, and the text from ADDR on.
pub record StubWords : Type 0 where
  pub name : List ℕ
  pub addrs : List ℕ

-- Takes the words of `stub_add` from the text after the command.
unfoldable pub stub_words : List ℕ → Result StubWords LineFault
stub_words text = do
  name ← word_in text
  addr ← word_in name.1
  Ok (record { name = name.0; addrs = name.1 })

-- The command that these words give, or the first fault from the left.
unfoldable pub stub_of : StubWords → Result Command LineFault
stub_of words = do
  name ← or_fault BadName (named words.name)
  addrs ← addrs_in words.addrs
  Ok (SetStub (record { name = name; addrs = addrs }))

-- `stub_add`: NAME and one ADDR or more.
unfoldable pub set_stub_in : List ℕ → Result Command LineFault
set_stub_in text = stub_words text >>= stub_of

-- `stub_remove`: NAME and no more.
unfoldable pub drop_stub_in : List ℕ → Result Command LineFault
drop_stub_in text = do
  name ← only_name text
  Ok (DropStub name)
