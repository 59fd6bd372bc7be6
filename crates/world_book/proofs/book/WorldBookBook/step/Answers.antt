use Rattle.std.proofs.Common.{◌≡◌, ℕ, ◌<◌, ◌∙◌, ap, max, arith}
use Rattle.std.proofs.lemmas.Bool.{false≢true}
use Rattle.history.specs.declared.limits.TheConstants.{MOMENT_END, MOST_EVENTS}
use Rattle.history.specs.Event.{moment_of}
use Rattle.world_book.specs.Book.{BookState}
use Rattle.world_book.proofs.BookLaws.{answered, by_limit, free_here, goes_on, room_made, stays}
use Rattle.world_book.proofs.book.WorldBookBook.step.Goals as goal

pub returns-in-Ok-clause-answers : goal.returns-in-Ok-clause-answers
returns-in-Ok-clause-answers g c =
    let j = c.self.inside in
    let book : BookState g.row.C-World.Denot g.row.C-World-Saved.Denot = record { world = j.world; changes = j.journal; settings = j.settings; moment = j.moment; count = j.count } in
    let is : c.max-clock.result ≡ max j.moment (moment_of c.args.event) = c.max-clock.ensures ∙ ap (λ (m : ℕ). max j.moment m) c.moment-2.ensures in
    let timely : moment_of c.args.event < MOMENT_END = omega (arith, c.if-moment-ge-MOMENT_END.false, c.moment.ensures) in
    let counted : j.count < MOST_EVENTS = omega (arith, c.if-self-ge-MOST_EVENTS.false) in
    rw (← c.self.view_is) (answered g.C.World.World book c.max-clock.result c.args.event c.in-Ok.reply is timely counted c.in-Ok.ensures.told)

pub returns-in-Ok-clause-stands : goal.returns-in-Ok-clause-stands
returns-in-Ok-clause-stands g c =
    let j = c.self.inside in
    let book : BookState g.row.C-World.Denot g.row.C-World-Saved.Denot = record { world = j.world; changes = j.journal; settings = j.settings; moment = j.moment; count = j.count } in
    let is : c.max-clock.result ≡ max j.moment (moment_of c.args.event) = c.max-clock.ensures ∙ ap (λ (m : ℕ). max j.moment m) c.moment-2.ensures in
    rw (← c.self.view_is) (goes_on g.C.World.World book c.obey.new.world c.obey.new.journal c.max-clock.result c.args.event is c.in-Ok.ensures.tied c.in-Ok.ensures.sound.stored c.in-Ok.ensures.sound.limit c.in-Ok.ensures.sound.pairs c.in-Ok.ensures.gone.0 c.in-Ok.ensures.needs)

pub returns-in-Ok-clause-room : goal.returns-in-Ok-clause-room
returns-in-Ok-clause-room g c =
    let j = c.self.inside in
    let book : BookState g.row.C-World.Denot g.row.C-World-Saved.Denot = record { world = j.world; changes = j.journal; settings = j.settings; moment = j.moment; count = j.count } in
    rw (← c.self.view_is) (room_made g.C.World.World book c.obey.new.world c.args.event c.in-Ok.ensures.gone.1)

pub returns-in-Ok-clause-swept : goal.returns-in-Ok-clause-swept
returns-in-Ok-clause-swept g c = c.in-Ok.ensures.gone.2

pub returns-in-Err-clause-stands : goal.returns-in-Err-clause-stands
returns-in-Err-clause-stands g c =
    let j = c.self.inside in
    let book : BookState g.row.C-World.Denot g.row.C-World-Saved.Denot = record { world = j.world; changes = j.journal; settings = j.settings; moment = j.moment; count = j.count } in
    rw (← c.self.view_is) (stays g.C.World.World book c.obey.new.world c.obey.new.journal c.in-Err.ensures.same c.in-Err.ensures.sound.limit)

pub returns-in-Err-clause-free : goal.returns-in-Err-clause-free
returns-in-Err-clause-free g c =
    let j = c.self.inside in
    let book : BookState g.row.C-World.Denot g.row.C-World-Saved.Denot = record { world = j.world; changes = j.journal; settings = j.settings; moment = j.moment; count = j.count } in
    let is : c.max-clock.result ≡ max j.moment (moment_of c.args.event) = c.max-clock.ensures ∙ ap (λ (m : ℕ). max j.moment m) c.moment-2.ensures in
    rw (← c.self.view_is) (λ free. absurd (false≢true (free_here g.C.World.World book c.max-clock.result c.args.event is c.in-Err.ensures.free free.0 free.1 free.2)))

pub returns-in-Err-clause-by_limit : goal.returns-in-Err-clause-by_limit
returns-in-Err-clause-by_limit g c =
    let j = c.self.inside in
    let book : BookState g.row.C-World.Denot g.row.C-World-Saved.Denot = record { world = j.world; changes = j.journal; settings = j.settings; moment = j.moment; count = j.count } in
    rw (← c.self.view_is) (by_limit g.C.World.World book c.args.event c.in-Err.fault c.in-Err.ensures.faults c.stored-stored.ensures.most)
