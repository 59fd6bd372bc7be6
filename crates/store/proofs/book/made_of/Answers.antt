use Rattle.std.proofs.Common.{◌∙◌, sym}
use Rattle.store.proofs.CommandLaws.{table_is_made}
use Rattle.store.proofs.book.made_of.Goals as goal

pub returns-in-Some-2 : goal.returns-in-Some-2
returns-in-Some-2 c = table_is_made c.args.command.now c.in-Some-2.change (sym c.in_ok-flush.ensures ∙ c.in-None.is) (sym c.in_ok-change-in-None.ensures ∙ c.in-Some-2.is)
