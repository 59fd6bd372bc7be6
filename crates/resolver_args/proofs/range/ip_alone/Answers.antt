use Rattle.std.proofs.Common.{◌∙◌}
use Rattle.dns_text.specs.Addr.{addr_in}
use Rattle.dns_text.specs.declared.fault.TextFault.TheVariants.{BadData}
use Rattle.resolver_args.proofs.Ranging.{alone, read, unread}
use Rattle.resolver_args.proofs.range.ip_alone.Goals as goal

pub returns-in-Ok : goal.returns-in-Ok
returns-in-Ok c = read BadData (addr_in c.args.text.now) c.in-Ok.addr c.in-Ok.ensures ∙ alone c.args.text.now c.in-None.ensures

pub returns-in-Err : goal.returns-in-Err
returns-in-Err c = unread BadData c.in-Err.field-0 (addr_in c.args.text.now) c.in-Err.ensures ∙ alone c.args.text.now c.in-None.ensures
