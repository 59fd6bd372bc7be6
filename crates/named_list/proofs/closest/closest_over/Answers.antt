use Rattle.std.proofs.Common.{Some, ap, ◌∙◌}
use Rattle.std.specs.Map.{values_of}
use Rattle.dns_name.specs.Closest.{closest_with}
use Rattle.named_list.specs.Closest.{found_over}
use Rattle.named_list.proofs.KeyedLaws.{closest-other, closest-within, closest-without}
use Rattle.named_list.proofs.closest.closest_over.Goals as goal

pub returns-in-Other : goal.returns-in-Other
returns-in-Other g c =
    let named = g.T.Named.named in
    let things = values_of c.args.things.now.entries in
    c.closest_but.ensures
    ∙ closest-other named c.args.turn.now things c.in-Other.place c.in-Other.thing c.name.result.now c.args.name.now (c.name.ensures ∙ ap named c.get.ensures) c.in-Other.is c.requires.leads.0 c.requires.named

pub returns-in-Without : goal.returns-in-Without
returns-in-Without g c =
    let named = g.T.Named.named in
    let things = values_of c.args.things.now.entries in
    let gone = c.index-gone.result.now in
    c.closest_but-in-Without.ensures
    ∙ closest-without named c.args.turn.now things c.in-Without.place gone c.name-in-Without.result.now c.args.name.now (c.name-in-Without.ensures ∙ ap named c.get-in-Without.ensures) c.in-Without.is c.index-gone.ensures c.requires.named

pub returns-in-With : goal.returns-in-With
returns-in-With g c =
    let named = g.T.Named.named in
    let things = values_of c.args.things.now.entries in
    c.closest_but-in-With.ensures
    ∙ ap (λ x. closest_with (found_over named things c.name-in-With.result.now (Some x)) c.args.name.now) c.thing.view_is
    ∙ closest-within named c.args.turn.now things c.in-With.place c.in-With.thing c.name-in-With.result.now c.args.name.now c.name-in-With.ensures c.in-With.is c.requires.leads.1
