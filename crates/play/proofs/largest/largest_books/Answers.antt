use Rattle.std.proofs.Common.{◌∙◌, ap, sym}
use Rattle.history.specs.Event.{lagging_of}
use Rattle.play.proofs.largest.largest_books.Goals as goal

pub returns-in-Ok-new : goal.returns-in-Ok-new
returns-in-Ok-new c = record {
  empty = c.in-Ok-new.ensures.fresh.empty;
  lags = record { empty = c.in-Ok.ensures.fresh.empty; settings_are = c.in-Ok.ensures.fresh.settings_are ∙ ap lagging_of (sym c.in-Ok-new.ensures.fresh.settings_are) };
}
