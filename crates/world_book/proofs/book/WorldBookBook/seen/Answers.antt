use Rattle.std.proofs.Common.{◌≡◌, ℕ, ◌∙◌, ap, max}
use Rattle.history.specs.History.{past_of}
use Rattle.world_book.proofs.book.WorldBookBook.seen.Goals as goal

pub returns : goal.returns
returns g c = let j = c.self.inside in rw (← c.self.view_is) (λ h so.
    let past = past_of j.settings.journal h in
    let is : c.max-clock.result ≡ max past.now c.args.moment = c.max-clock.ensures ∙ ap (λ (m : ℕ). max m c.args.moment) so.moment in
    c.in_ok-seen.ensures j.settings.journal c.args.moment past is so.tied)
