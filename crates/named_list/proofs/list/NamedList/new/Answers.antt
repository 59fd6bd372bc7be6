use Rattle.named_list.specs.NamedLaws.{none_named}
use Rattle.named_list.proofs.list.NamedList.new.Goals as goal

pub invariant_of-result : goal.invariant_of-result
invariant_of-result g c = (rw c.new.ensures.empty (none_named g.T.Named.named), rw c.new.ensures.empty tt, rw c.new.ensures.empty tt)
