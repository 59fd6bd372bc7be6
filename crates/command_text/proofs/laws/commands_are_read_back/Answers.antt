use Rattle.command_text.proofs.Commands.{reads_commands}
use Rattle.command_text.proofs.laws.commands_are_read_back.Goals as goal

pub returns : goal.returns
returns c =
    let written = c.written_law.ensures in
    reads_commands (record { names = written.names; numbers = written.numbers; types = written.types; addrs = written.addrs; records = written.records })
