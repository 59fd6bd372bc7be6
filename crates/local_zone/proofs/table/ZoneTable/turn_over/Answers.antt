use Rattle.std.proofs.Common.{sym, ◌∙◌}
use Rattle.std.proofs.lemmas.Bool.{false≢true}
use Rattle.named_list.specs.Turn.{puts_in}
use Rattle.local_zone.specs.Added.{records_need}
use Rattle.local_zone.proofs.FreeLaws.{first_fails}
use Rattle.local_zone.proofs.table.ZoneTable.turn_over.Goals as goal

pub returns-then-puts_in-clause-free : goal.returns-then-puts_in-clause-free
returns-then-puts_in-clause-free c none =
    absurd (false≢true (sym (first_fails (puts_in c.args.saved.now.zones) (records_need c.args.saved.now.records) none) ∙ sym c.puts_in.ensures ∙ c.if-puts_in.true))
