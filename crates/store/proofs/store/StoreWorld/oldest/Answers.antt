use Rattle.store.proofs.OldestLaws.{store_none, store_oldest}
use Rattle.store.proofs.store.StoreWorld.oldest.Goals as goal

pub returns-in-Some-clause-some : goal.returns-in-Some-clause-some
returns-in-Some-clause-some c = λ kept h current.
    store_oldest c.args.self.now kept c.args.moment h current c.in-Some.name.now c.in-Some.ensures.some

pub returns-in-None-clause-none : goal.returns-in-None-clause-none
returns-in-None-clause-none c = λ kept h current. store_none c.args.self.now kept c.args.moment h current c.in-None.ensures.none
