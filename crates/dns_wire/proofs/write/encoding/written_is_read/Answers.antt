use Rattle.dns_wire.proofs.WrittenMessage.{message_written, reply_written, spells_only}
use Rattle.dns_wire.proofs.write.encoding.written_is_read.Goals as goal

pub returns-clause-messages : goal.returns-clause-messages
returns-clause-messages c = λ v fits short. spells_only (message_written v fits short)

pub returns-clause-replies : goal.returns-clause-replies
returns-clause-replies c = λ q octets v is fits one short. spells_only (reply_written q octets v is fits one short)
