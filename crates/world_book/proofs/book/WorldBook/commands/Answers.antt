use Rattle.std.proofs.Common.{arith}
use Rattle.world_book.proofs.book.WorldBook.commands.Goals as goal

pub returns-clause-commands : goal.returns-clause-commands
returns-clause-commands g c = rw (← c.self.view_is) c.len.ensures

pub returns-clause-few : goal.returns-clause-few
returns-clause-few g c = rw (← c.self.view_is) (λ h stands. omega (arith, c.len.ensures, c.undone-undone.ensures.sound.few, stands.tied.limit))

pub returns-clause-kept : goal.returns-clause-kept
returns-clause-kept g c = rw (← c.self.view_is) c.self.invariant.sound.kept
