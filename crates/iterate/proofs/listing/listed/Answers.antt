use Rattle.std.proofs.Common.{[], sym, subst, refl}
use Rattle.dns_name.specs.Labels.{Labels}
use Rattle.history.specs.declared.event.Ask.TheVariants.{Servers as ServersFor}
use Rattle.history.specs.declared.event.Event.TheVariants.{Look}
use Rattle.history.specs.declared.servers.Servers.{Servers}
use Rattle.iterate.specs.declared.want.Input.{Input}
use Rattle.iterate.specs.declared.want.Want.TheVariants.{Book}
use Rattle.iterate.specs.Exchanges.{exchange, Adds}
use Rattle.iterate.specs.Hunting.{IsUnnamed, Names}
use Rattle.iterate.specs.Served.{served_name}
use Rattle.iterate.proofs.Falling.{few_is}
use Rattle.iterate.proofs.Asking.{from_more_ok}
use Rattle.iterate.proofs.PathTurns.{turned}
use Rattle.iterate.proofs.Finding.{path_named, named_reached, failing_listing}
use Rattle.iterate.proofs.listing.listed.Goals as goal

pub returns-in_ok-search-in-Some : goal.returns-in_ok-search-in-Some
returns-in_ok-search-in-Some g c = λ port m question before log p adds suits.
    let list = c.in_ok-list-in-Some.list in
    let by_name = subst (λ (s : Servers). Names c.in_ok-name.name c.args.input.now s) (sym c.in_ok-list-in-Some.ensures) c.in-Some.ensures in
    let named = subst (λ (n : Labels). Names n c.args.input.now list) c.in_ok-name.ensures by_name in
    let here = subst (λ (i : Input). Adds before (exchange (Book (Look m (ServersFor (served_name c.args.path.last)))) i) log) named.replied adds in
    let k = c.in_ok-search-in-Some.ensures.reached port question log [] (path_named port question before log m c.args.path list p here) (named_reached port before log m c.args.path.last list named.zone here) in
    let less = k.falls in
    from_more_ok port question log c.args.moment c.go_on.result refl (few_is less) (c.go_on.ensures.goes port question log k.is_search k.orderly)

pub returns-in-None : goal.returns-in-None
returns-in-None g c = λ port m question before log p adds suits.
    let unnamed = subst (λ (n : Labels). IsUnnamed n c.args.input.now) c.in_ok-name.ensures c.in-None.ensures in
    turned c.failed.ensures.phase c.failed.ensures.want (failing_listing port m question before log c.args.moment _ c.args.path c.args.input.now p.is_path adds (unnamed m suits))
