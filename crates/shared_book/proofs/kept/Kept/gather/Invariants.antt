use Rattle.std.proofs.Common.{◌≡◌, ◌≤◌}
use Rattle.shared_book.specs.Pass.{calls_of, parts_of}
use Rattle.shared_book.proofs.kept.Kept.gather.Given as goal

abbrev pub invariant-loop-pass : goal.invariant-loop-pass
invariant-loop-pass g l =
    (goal.iterator-loop-pass g).can_next l.pass-iterator × (goal.iterator-loop-pass g).is_finite l.pass-iterator
    × (l.self ≡ l.initial.self) × (l.made ≡ l.all.amount) × (l.made ≡ calls_of l.yielded) × (l.made ≤ l.initial.self.total)
    × (parts_of l.yielded ≤ l.all.parts) × (l.all.parts ≤ g.L.Ledger.parts)
