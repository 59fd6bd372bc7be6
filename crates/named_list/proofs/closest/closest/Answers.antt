use Rattle.std.proofs.Common.{◌≡◌, ℕ, ◌-◌, ◌<◌, List, ◌∷◌, length, take, None, ap, sym, ◌∙◌, arith, length-take}
use Rattle.std.specs.Map.{values_of}
use Rattle.std.specs.Option.{option_map}
use Rattle.dns_name.specs.Labels.{Labels, octets_of}
use Rattle.named_list.specs.Closest.{find_named, closest_of}
use Rattle.named_list.proofs.LongLaws.{closest_few}
use Rattle.named_list.proofs.KeyedLaws.{lookup-of, closest-here, closest-up, closest-root, octets_above}
use Rattle.named_list.proofs.closest.closest.Goals as goal

abbrev items : Labels → List ℕ
items k = octets_of k

-- where no thing has the name itself, the parent's
up : {T : Type 0} (name_of : T → Labels) (things : List T) (name : Labels) (label : List ℕ) (parent : Labels) → name ≡ label ∷ parent → find_named name_of things name ≡ None → closest_of name_of things name ≡ closest_of name_of things parent
up {T} name_of things name label parent is none =
    ap (λ (n : Labels). closest_of name_of things n) is ∙ closest-up name_of things label parent (ap (λ (n : Labels). find_named name_of things n) (sym is) ∙ none)

pub returns-then-octets-least : goal.returns-then-octets-least
returns-then-octets-least g c =
    sym (closest_few g.T.Named.named c.args.least (values_of c.args.things.now.entries) c.args.name.now c.octets-octets.result.now c.requires.long c.octets-octets.ensures.value c.if-octets-least.true)

pub returns-then-end-least : goal.returns-then-end-least
returns-then-end-least g c =
    let name_of = g.T.Named.named in
    let es = c.args.things.now.entries in
    let octets = c.loop-thing.octets.now in
    let label = c.in_ok-label.label.now in
    let found = lookup-of items name_of es c.loop-thing.labels octets c.loop-thing.invariant.0 c.requires.keyed in
    let more = c.in_ok-label.ensures.steps in
    let few : length (take (length octets - length label - 1) octets) < c.args.least = omega (arith, length-take (length octets - length label - 1) octets, c.if-end-least.true) in
    sym (
    c.loop-thing.invariant.1
    ∙ up name_of (values_of es) c.loop-thing.labels label c.next.new.self more (sym found ∙ sym c.in_default.ensures.value)
    ∙ closest_few name_of c.args.least (values_of es) c.next.new.self _ c.requires.long (octets_above octets label c.next.new.self (c.loop-thing.invariant.0 ∙ ap octets_of more)) few
    )

pub returns-in-Some : goal.returns-in-Some
returns-in-Some g c =
    let name_of = g.T.Named.named in
    let es = c.args.things.now.entries in
    let found = lookup-of items name_of es c.loop-thing.labels c.loop-thing.octets.now c.loop-thing.invariant.0 c.requires.keyed in
    sym (c.loop-thing.invariant.1 ∙ closest-here name_of (values_of es) c.loop-thing.labels c.in-Some.thing.now (sym found ∙ sym c.in-Some.ensures.value))

pub returns-in_err-label : goal.returns-in_err-label
returns-in_err-label g c =
    let name_of = g.T.Named.named in
    let es = c.args.things.now.entries in
    let found = lookup-of items name_of es c.loop-thing.labels c.loop-thing.octets.now c.loop-thing.invariant.0 c.requires.keyed in
    ap (λ r. option_map (λ s. s.now) r) c.from_residual.ensures ∙ c.in_default.ensures.value ∙ found ∙ closest-root name_of (values_of es) c.loop-thing.labels c.in_err-label.ensures.steps.0 ∙ sym c.loop-thing.invariant.1

pub loop-thing-preserved : goal.loop-thing-preserved
loop-thing-preserved g c =
    let name_of = g.T.Named.named in
    let es = c.args.things.now.entries in
    let label = c.in_ok-label.label.now in
    let found = lookup-of items name_of es c.loop-thing.labels c.loop-thing.octets.now c.loop-thing.invariant.0 c.requires.keyed in
    let more = c.in_ok-label.ensures.steps in (
      octets_above c.loop-thing.octets.now label c.next.new.self (c.loop-thing.invariant.0 ∙ ap octets_of more),
      c.loop-thing.invariant.1 ∙ up name_of (values_of es) c.loop-thing.labels label c.next.new.self more (sym found ∙ sym c.in_default.ensures.value),
    )
