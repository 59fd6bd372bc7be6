use Rattle.std.proofs.Common.{[], List, subst}
use Rattle.dns_text.specs.declared.record.Record.{Record}
use Rattle.local_zone.specs.declared.local_answer.Local.{Local}
use Rattle.history.specs.declared.event.Ask.TheVariants.{Answer as Asked}
use Rattle.history.specs.declared.event.Event.TheVariants.{Look}
use Rattle.history.specs.declared.event.Reply.TheVariants.{Seen}
use Rattle.history.specs.declared.event.Seen.TheVariants.{Local as LocalSeen}
use Rattle.iterate.specs.declared.want.Input.TheVariants.{Reply}
use Rattle.iterate.specs.declared.want.Want.TheVariants.{Book}
use Rattle.iterate.specs.Exchanges.{exchange, Adds}
use Rattle.iterate.proofs.PathTurns.{first_began, first_refused, barred_refused}
use Rattle.iterate.proofs.first_lookup.barred.Goals as goal

pub returns-in-Drop : goal.returns-in-Drop
returns-in-Drop c = λ port m question log is adds.
    first_began (subst (λ (a : Local (List Record) Record). Adds [] (exchange (Book (Look m (Asked question))) (Reply (Seen (LocalSeen a)))) log) c.in-Drop.is adds)

pub returns-in_default : goal.returns-in_default
returns-in_default c = λ port m question log is adds.
    let refuses = barred_refused is c.in_default.not-Drop in
    rw c.refusal.ensures
    (first_refused (subst (λ (a : Local (List Record) Record). Adds [] (exchange (Book (Look m (Asked question))) (Reply (Seen (LocalSeen a)))) log) refuses adds))
