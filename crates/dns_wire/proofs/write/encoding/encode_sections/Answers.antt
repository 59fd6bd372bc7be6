use Rattle.std.proofs.Common.{List, ℕ, length, ap, inl, refl, subst, sym, arith}
use Rattle.std.proofs.lemmas.Result.{err_from_is_err_and}
use Rattle.dns_wire.specs.Lent.{reply_of}
use Rattle.dns_wire.specs.Read.Message.{SpelledMessage}
use Rattle.dns_wire.proofs.WrittenSize.{all_fits, as_long}
use Rattle.dns_wire.proofs.WrittenMessage.{reply_fits, reply_written}
use Rattle.dns_wire.proofs.write.encoding.encode_sections.Goals as goal

pub write_reply-requires-clause-fits : goal.write_reply-requires-clause-fits
write_reply-requires-clause-fits g c = (c.in-Some.ensures c.args.head.now).1

pub returns-in_err-write_reply-in-Some-clause-fails : goal.returns-in_err-write_reply-in-Some-clause-fails
returns-in_err-write_reply-in-Some-clause-fails g c =
    let p = err_from_is_err_and c.from_residual.result c.from_residual.ensures.1 in
    record {
      too_long = λ long. absurd ((c.in-Some.ensures c.args.head.now).1 long);
      only = rw (p.1) (inl p.2);
    }

pub returns-in_ok-write_reply-in-Some-clause-encoded : goal.returns-in_ok-write_reply-in-Some-clause-encoded
returns-in_ok-write_reply-in-Some-clause-encoded g c =
    let query = c.args.query.now in
    let reply = reply_of c.args.head.now query.question c.args.sections.now in
    let fits = c.in_ok-write_reply-in-Some.ensures.fits in
    let all = all_fits reply (c.in-Some.ensures c.args.head.now).1 in
    let same = as_long reply query.spelled refl in
    record {
      octets = c.in_ok-write_reply-in-Some.ensures.octets;
      spelled = subst (λ (o : List ℕ). SpelledMessage o reply) (sym c.in_ok-write_reply-in-Some.ensures.octets) (reply_written query.question query.octets reply query.spelled (reply_fits reply query.spelled fits.2 refl fits.0 fits.1) refl (c.in-Some.ensures c.args.head.now).1);
      short = omega (arith, ap length c.in_ok-write_reply-in-Some.ensures.octets);
      fits = (c.in-Some.ensures c.args.head.now).1;
    }
