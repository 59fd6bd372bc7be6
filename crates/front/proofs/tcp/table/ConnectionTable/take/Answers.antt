use Rattle.std.proofs.Common.{◌∙◌, Option, arith, subst, sym}
use Rattle.std.specs.Prelude.{IfSome}
use Rattle.front.specs.Connections.{ConnectionState}
use Rattle.front.specs.Memory.{MayKeep}
use Rattle.front.proofs.Memory.{may_keep_again, no_more_than_all, within_without}
use Rattle.front.proofs.tcp.table.ConnectionTable.take.Goals as goal

pub overflow_sub-self : goal.overflow_sub-self
overflow_sub-self g c =
    let old = c.args.self.now in
    omega (arith, c.beyond.ensures, no_more_than_all old.connections c.args.key old.beyond c.in_ok-connection.connection.now old.within (sym c.in_ok-connection.ensures))

pub invariant_of-self-clause-within : goal.invariant_of-self-clause-within
invariant_of-self-clause-within g c =
    let old = c.args.self.now in
    within_without old.connections c.try_remove.new.self c.args.key c.in_ok-connection.connection.now old.beyond c.beyond.result old.within (sym c.in_ok-connection.ensures) c.try_remove.ensures.updates c.beyond.ensures

pub returns-clause-small : goal.returns-clause-small
returns-clause-small g c =
    let old = c.args.self.now in
    let again = may_keep_again old.connections c.try_remove.new.self c.args.key c.in_ok-connection.connection.now old.beyond old.within (sym c.in_ok-connection.ensures) c.try_remove.ensures.updates in
    subst (λ (slot : Option (ConnectionState _)). IfSome slot (λ connection. MayKeep connection.kept c.try_remove.new.self.slots)) (c.in_ok-connection.ensures ∙ sym c.try_remove.ensures.value) again
