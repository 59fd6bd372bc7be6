use Rattle.std.proofs.Common.{ap, ◌∙◌}
use Rattle.dns_text.specs.declared.record.Question.{Question}
use Rattle.ranked.specs.Cell.{shown_at}
use Rattle.cell_store.specs.Store.{cell_of}
use Rattle.shelf.specs.Settling.{settled_version}
use Rattle.shelf.proofs.shelf.Shelf.show_over.Goals as goal

pub returns : goal.returns
returns c =
    let self = c.args.self.now in
    let question : Question = record { owner = c.args.owner.now; kind = c.args.kind } in
    c.at.ensures ∙ ap (λ v. shown_at (cell_of self.owners question v) c.args.moment) (c.settled-version.ensures ∙ ap (settled_version self.settlings.items c.args.owner.now) c.version_over.ensures)
