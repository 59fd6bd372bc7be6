use Rattle.std.proofs.Common.{List, ℕ, length, ap, subst, sym, arith}
use Rattle.dns_wire.specs.Read.Message.{SpelledMessage}
use Rattle.dns_wire.proofs.WrittenMessage.{message_written}
use Rattle.dns_wire.proofs.WrittenSize.{all_fits}
use Rattle.dns_wire.proofs.write.encoding.encode.Goals as goal

pub returns-in_ok-write_message-in-Some-clause-encoded : goal.returns-in_ok-write_message-in-Some-clause-encoded
returns-in_ok-write_message-in-Some-clause-encoded c =
    let fits = all_fits c.args.message.now c.in-Some.ensures.1 in
    record {
      octets = c.in_ok-write_message-in-Some.ensures.octets;
      spelled = subst (λ (o : List ℕ). SpelledMessage o c.args.message.now) (sym c.in_ok-write_message-in-Some.ensures.octets) (message_written c.args.message.now c.in_ok-write_message-in-Some.ensures.fits c.in-Some.ensures.1);
      short = omega (arith, fits.octets, ap length c.in_ok-write_message-in-Some.ensures.octets);
      fits = c.in-Some.ensures.1;
    }
