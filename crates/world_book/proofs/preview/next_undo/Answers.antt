use Rattle.std.proofs.Common.{◌≡◌, ◌∙◌, ℕ, Option, Some, List, sym, ap}
use Rattle.std.specs.Prelude.{option_map}
use Rattle.history.specs.declared.event.Journalled.{Journalled}
use Rattle.history.specs.declared.event.Seen.TheVariants.{Command}
use Rattle.history.specs.Journal.{command_at, command_of, commands_of}
use Rattle.history.specs.Marks.{last_of}
use Rattle.history.specs.Reply.{next_seen}
use Rattle.world_book.specs.Held.{held_one}
use Rattle.world_book.proofs.HeldLaws.{held_commands}
use Rattle.world_book.proofs.OverLaws.{held_there}
use Rattle.world_book.proofs.preview.next_undo.Goals as goal

pub returns : goal.returns
returns g c = λ world bound past tied.
    let table = g.C.World.World.table in
    let told = g.C.World.World.told in
    let changes = c.args.journal.now in
    let k = c.in-Some-kept.kept.now in
    let there = sym c.in-Some-kept.ensures in
    let last : last_of past.marks.done ≡ Some k.ticket
    = ap last_of (sym tied.done) ∙ (sym c.in-Some.ensures.some.1 ∙ ap (λ o. option_map (λ k. k.ticket) o) there) in
    let found : command_at (commands_of past) k.ticket ≡ Some (held_one told k)
    = ap (λ (l : List Journalled). command_at l k.ticket) (sym (held_commands table told changes past c.undone-undone.ensures.sound tied.done tied.undone tied.given))
    ∙ held_there told changes.kept c.in-Some.place k tied.stands.ascending there in
    ap Command c.in_ok-held_one-in-Some-kept.ensures
    ∙ sym (ap next_seen found)
    ∙ ap (λ (o : Option ℕ). next_seen (command_of (commands_of past) o)) (sym last)
