use Rattle.std.proofs.Common.{refl, subst}
use Rattle.dns_wire.specs.declared.server.query.Asked.{Asked}
use Rattle.dns_wire.specs.Server.Asking.{AsksFor}
use Rattle.outside.proofs.asked.asked_at.Goals as goal

pub returns : goal.returns
returns c = record {
  asked = c.in-Good.asked;
  good = subst (λ (a : Asked). AsksFor c.args.query.now a) c.in-Good.is c.in-Ok.ensures.asked;
  owner = c.in-Ok-clone.ensures;
  kind = refl;
  server = refl;
}
