use Rattle.store.proofs.store.Store.new.Goals as goal

pub returns-clause-untouched : goal.returns-clause-untouched
returns-clause-untouched c = record {
  keeps = (c.new.ensures.keeps, c.seeded.ensures.untouched.keeps);
  faces = λ chosen. record { tables = (c.new.ensures.empty chosen).tables; cell = (c.seeded.ensures.untouched.faces chosen).cell };
  newest = c.seeded.ensures.untouched.newest;
  stored = c.seeded.ensures.untouched.stored;
  limit = c.seeded.ensures.untouched.limit;
  pairs = c.seeded.ensures.untouched.pairs;
}
