use Rattle.std.proofs.Common.{◌<◌, arith}
use Rattle.dns_name.specs.ResultLaws.{on_ok}
use Rattle.dns_text.proofs.AddrLaws.{addr_again}
use Rattle.dns_text.proofs.addr.push_addr.Goals as goal

pub returns-clause-again : goal.returns-clause-again
returns-clause-again c =
    let small : c.args.addr.now.port < 65536 = omega arith in
    on_ok c.push_number.result _ (λ some. addr_again c.args.addr.now c.push_ip.ensures.reads some small)
