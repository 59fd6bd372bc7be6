use Rattle.dns_wire.proofs.MessageLaws.{first_known}
use Rattle.dns_wire.proofs.read.message.message_in.Goals as goal

pub knowing-known-requires : goal.knowing-known-requires
knowing-known-requires c =
    rw (c.first_owner.ensures, c.as_slice.ensures) (first_known c.args.message.now _ c.in_ok-questions.at c.in_ok-questions.questions c.requires c.in_ok-questions.ensures.exact)
