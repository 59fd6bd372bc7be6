use Rattle.std.proofs.Common.{List, sym, subst}
use Rattle.std.specs.List.{AllByRecursion, Contains}
use Rattle.dns_text.specs.declared.addr.Addr.{Addr}
use Rattle.iterate.specs.Told.{IsAddressIn}
use Rattle.iterate.proofs.Telling.{each_told, all_told}
use Rattle.iterate.proofs.addresses.addresses.Goals as goal

pub returns-clause-each : goal.returns-clause-each
returns-clause-each c = subst (λ (xs : List Addr). AllByRecursion (IsAddressIn c.args.port c.args.told.now) xs) (sym c.in_ok-addrs.ensures) (each_told c.args.port c.args.told.now)

pub returns-clause-all : goal.returns-clause-all
returns-clause-all c = λ addr is. subst (λ (xs : List Addr). Contains xs addr) (sym c.in_ok-addrs.ensures) (all_told c.args.port c.args.told.now addr is)
