use Rattle.std.proofs.Common.{ap, sym, ◌∙◌}
use Rattle.std.specs.Map.{values_of}
use Rattle.std.specs.Option.{option_map}
use Rattle.dns_name.specs.Labels.{octets_of}
use Rattle.named_list.specs.Closest.{found_over}
use Rattle.named_list.proofs.KeyedLaws.{octets_above, with-here, with-root, with-up}
use Rattle.named_list.proofs.closest.closest_but.Goals as goal

pub returns-in-Some : goal.returns-in-Some
returns-in-Some g c =
    let has = found_over g.T.Named.named (values_of c.args.things.now.entries) c.args.other.now (option_map (λ s. s.now) c.args.instead) in
    sym (c.loop-thing.invariant.1 ∙ with-here has c.loop-thing.labels c.in-Some.thing.now (sym (c.in-Some.ensures c.loop-thing.labels c.loop-thing.invariant.0)))

pub returns-in_err-label : goal.returns-in_err-label
returns-in_err-label g c =
    let has = found_over g.T.Named.named (values_of c.args.things.now.entries) c.args.other.now (option_map (λ s. s.now) c.args.instead) in
    ap (λ r. option_map (λ s. s.now) r) c.from_residual.ensures ∙ c.in_default.ensures c.loop-thing.labels c.loop-thing.invariant.0
    ∙ with-root has c.loop-thing.labels c.in_err-label.ensures.steps.0 ∙ sym c.loop-thing.invariant.1

pub loop-thing-preserved : goal.loop-thing-preserved
loop-thing-preserved g c =
    let has = found_over g.T.Named.named (values_of c.args.things.now.entries) c.args.other.now (option_map (λ s. s.now) c.args.instead) in
    let label = c.in_ok-label.label.now in
    let more = c.in_ok-label.ensures.steps in (
      octets_above c.loop-thing.octets.now label c.next.new.self (c.loop-thing.invariant.0 ∙ ap octets_of more),
      c.loop-thing.invariant.1 ∙ with-up has c.loop-thing.labels label c.next.new.self more (sym (c.in_default.ensures c.loop-thing.labels c.loop-thing.invariant.0)),
    )
