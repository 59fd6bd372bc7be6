use Rattle.std.proofs.Common.{◌∙◌, take, arith}
use Rattle.std.proofs.lemmas.List.{length-take}
use Rattle.dns_wire.specs.Read.Rdata.{data_read}
use Rattle.dns_wire.proofs.WalkLaws.{ok_one, ok_mx, ok_soa, ok_srv}
use Rattle.dns_wire.proofs.server.walking.has_form.Goals as goal

pub returns-in-Name : goal.returns-in-Name
unfolding data_read
returns-in-Name c =
    let m = c.args.message.now in
    rw c.in-Name.is (c.ends_with_name.ensures ∙ ok_one m (take c.args.end m) c.args.at (omega (arith, length-take c.args.end m, c.requires.within, c.requires.end)))

pub returns-in-Mx : goal.returns-in-Mx
unfolding data_read
returns-in-Mx c = rw c.in-Mx.is (c.ends_with_name-in-Mx.ensures ∙ ok_mx c.args.message.now (take c.args.end c.args.message.now) c.args.at)

pub returns-in-Soa : goal.returns-in-Soa
unfolding data_read
returns-in-Soa c = rw c.in-Soa.is (c.is_soa.ensures ∙ ok_soa c.args.message.now (take c.args.end c.args.message.now) c.args.at)

pub returns-in-Srv : goal.returns-in-Srv
unfolding data_read
returns-in-Srv c = rw c.in-Srv.is (c.ends_with_name-in-Srv.ensures ∙ ok_srv c.args.message.now (take c.args.end c.args.message.now) c.args.at)
