use Rattle.iterate.proofs.seeking.sought.Goals as goal

pub returns-in-Address : goal.returns-in-Address
returns-in-Address g c = rw c.in-Address.is (λ m question before log k adds suits. c.address_came.ensures m question before log k adds suits)

pub returns-in-Alias : goal.returns-in-Alias
returns-in-Alias g c = rw c.in-Alias.is (λ m question before log k adds suits. c.alias_came.ensures.goes c.args.port m question before log k adds suits)

pub returns-in-Servers : goal.returns-in-Servers
returns-in-Servers g c = rw c.in-Servers.is (λ m question before log k adds suits. c.servers_came.ensures.goes c.args.port m question before log k adds suits)
