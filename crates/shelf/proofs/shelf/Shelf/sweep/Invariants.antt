use Rattle.std.proofs.Common.{◌≡◌, ℕ}
use Rattle.dns_text.specs.declared.record.Question.{Question}
use Rattle.shelf.specs.Settling.{steps_left}
use Rattle.shelf.specs.Told.{cell_at, LosesOnly}
use Rattle.shelf.proofs.shelf.Shelf.sweep.Given as goal

-- the flushes have reached some names more
abbrev pub invariant-loop-self : goal.invariant-loop-self
invariant-loop-self l = record {
  loses : LosesOnly l.fn.self l.self;
  cells : (q : Question) (v : ℕ) → cell_at l.self q v ≡ cell_at l.fn.self q v;
}

abbrev pub decreases-loop-self : goal.decreases-loop-self
decreases-loop-self l = steps_left l.self.settlings.items
