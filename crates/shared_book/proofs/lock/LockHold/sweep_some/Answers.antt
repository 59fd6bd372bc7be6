use Rattle.shared_book.proofs.lock.LockHold.sweep_some.Goals as goal

pub returns : goal.returns
returns g c = record {
  before = c.deref_mut.result.now;
  after = c.sweep_some.new.self;
  there = c.sweep_some.ensures.there;
  turn = c.sweep_some.ensures.turn;
}
