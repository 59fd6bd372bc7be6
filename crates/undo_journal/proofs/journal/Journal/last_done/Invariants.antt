use Rattle.std.proofs.Common.{◌≡◌, ◌-◌, false, drop}
use Rattle.std.specs.List.{AllByRecursion}
use Rattle.change_law.specs.Choice.{is_done}
use Rattle.undo_journal.proofs.journal.Journal.last_done.Given as goal

-- none of those looked at is in effect
abbrev pub invariant-loop-back : goal.invariant-loop-back
invariant-loop-back g l = AllByRecursion (λ k. is_done k.standing ≡ false) (drop (l.len - l.back) l.self.kept)
