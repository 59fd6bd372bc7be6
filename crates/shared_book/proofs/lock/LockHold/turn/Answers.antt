use Rattle.shared_book.proofs.lock.LockHold.turn.Goals as goal

pub returns : goal.returns
returns g c = record {
  before = c.deref_mut.result.now;
  after = c.turn.new.self;
  there = c.turn.ensures.there;
  turn = c.turn.ensures.turn;
}
