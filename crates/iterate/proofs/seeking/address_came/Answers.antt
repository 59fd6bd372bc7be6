use Rattle.std.proofs.Common.{subst}
use Rattle.history.specs.declared.event.Ask.TheVariants.{Answer as Asked}
use Rattle.history.specs.declared.event.Event.TheVariants.{Look}
use Rattle.dns_query.specs.Query.{address_question}
use Rattle.iterate.specs.declared.phase.Stage.TheVariants as stage
use Rattle.iterate.specs.declared.want.Input.{Input}
use Rattle.iterate.specs.declared.want.Want.TheVariants.{Book}
use Rattle.iterate.specs.Exchanges.{exchange, Adds}
use Rattle.iterate.proofs.PathTurns.{turned}
use Rattle.iterate.proofs.Finding.{failing_seeking}
use Rattle.iterate.proofs.seeking.address_came.Goals as goal

pub returns-in-Some : goal.returns-in-Some
returns-in-Some g c = λ m question before log k adds suits.
    let replied = c.in-Some.ensures m suits in
    let here = subst (λ (i : Input). Adds before (exchange (Book (Look m (Asked (address_question c.args.target)))) i) log) replied.replied adds in
    c.address_seen.ensures.goes m question before log k here replied.lawful

pub returns-in-None : goal.returns-in-None
returns-in-None g c = λ m question before log k adds suits.
    turned c.failed.ensures.phase c.failed.ensures.want (failing_seeking c.args.port m question before log c.args.moment _ stage.Address c.args.search (Asked (address_question c.args.target)) c.args.input.now k.is_search adds (c.in-None.ensures m suits))
