use Rattle.std.proofs.Common.{◌∙◌, ap}
use Rattle.history.specs.Event.{lagging_of}
use Rattle.shared_book.proofs.kept.Kept.opening.Goals as goal

pub returns-clause-settings : goal.returns-clause-settings
returns-clause-settings g c = c.self.invariant.2.lags ∙ ap lagging_of c.self.invariant.1.1
