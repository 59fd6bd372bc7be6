-- The stubs are those of the history, and so is what its cells show.
use Rattle.std.proofs.Common.{◌≡◌, ◌∙◌, ap, subst}
use Rattle.std.specs.Prelude.{IfOk}
use Rattle.history.specs.declared.tables.Tables.{Tables}
use Rattle.history.specs.declared.servers.Servers.{Servers}
use Rattle.history.specs.Cells.{shows}
use Rattle.history.specs.History.{Past}
use Rattle.history.specs.Servers.{servers_by, servers_of}
use Rattle.undo_book.specs.PlainPast.{past_in}
use Rattle.undo_book.proofs.plain.PlainBookBook.servers.Goals as goal

pub returns : goal.returns
returns c = λ h is.
    let book = c.args.self.now in
    let settings = book.past.settings in
    let name = c.args.name.now in
    let moment = c.args.moment in
    let same =
    ap (λ (t : Tables). servers_by settings t.stubs (λ question. shows (past_in book.past) question moment) name) book.tabled
    ∙ ap (λ (past : Past). servers_of settings past name moment) is
    in
    subst (λ (s : Servers). IfOk c.closest_servers.result (λ found. found ≡ s)) same c.closest_servers.ensures
