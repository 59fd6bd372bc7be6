use Rattle.front.proofs.Memory.{within_with}
use Rattle.front.proofs.tcp.table.ConnectionTable.begin.Goals as goal

pub invariant_of-self-clause-within : goal.invariant_of-self-clause-within
invariant_of-self-clause-within g c =
    let old = c.args.self.now in
    within_with old.connections c.insert_reserved.new.self c.insert_reserved.result c.args.connection old.beyond c.beyond.result old.within c.insert_reserved.ensures.was_vacant c.insert_reserved.ensures.updates
    c.requires.small c.beyond.ensures
