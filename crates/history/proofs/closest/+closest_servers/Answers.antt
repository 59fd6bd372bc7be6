use Rattle.std.proofs.Common.{◌≡◌, ◌∷◌, [], Option, Some, sym, ◌∙◌, ap}
use Rattle.std.specs.Prelude.{unwrap_or}
use Rattle.std.specs.Option.{option_or}
use Rattle.dns_name.specs.Labels.{Labels}
use Rattle.dns_name.specs.Closest.{closest_with}
use Rattle.history.specs.declared.servers.Servers.{Servers}
use Rattle.history.specs.Servers.{servers_at, servers_in_hints}
use Rattle.history.proofs.closest.+closest_servers.Goals as goal

-- What a name has itself is closest to it.
closest_itself : (has : Labels → Option Servers) (name : Labels) (own : Servers) → has name ≡ Some own → closest_with has name ≡ Some own
closest_itself has [] own is = is
closest_itself has (label ∷ name) own is = ap (λ (o : Option Servers). option_or o (closest_with has name)) is

pub returns-in-Some : goal.returns-in-Some
returns-in-Some g t c =
    let has = servers_at c.args.settings.now c.args.stubs.now (g.C.CellSource.shows_at c.args.cells.now c.args.moment) in
    let own : c.in_ok-servers.field-0 ≡ has c.args.name.now = c.in_ok-servers.ensures in
    sym (ap (λ (o : Option Servers). unwrap_or o (servers_in_hints c.args.settings.now)) (closest_itself has c.args.name.now c.in-Some.servers (sym own ∙ c.in-Some.is)))
