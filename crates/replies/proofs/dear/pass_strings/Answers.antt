use Rattle.std.proofs.Common.{◌≡◌, ◌+◌, ◌-◌, ◌∷◌, ◌≤◌, ◌<◌, drop, length, refl, arith, rules}
use Rattle.std.proofs.lemmas.List.{take_rest}
use Rattle.replies.specs.declared.limits.TheConstants.{ITEM_STEPS}
use Rattle.replies.specs.Dear.{Behind, Ended, Onward, StringsTake, no_strings, string, string_cut, strings_on, read, stopped, wanting}
use Rattle.replies.proofs.Dearness.{fails, nil_of}
use Rattle.replies.proofs.dear.pass_strings.Goals as goal

pub returns-in_err-take_steps : goal.returns-in_err-take_steps
returns-in_err-take_steps c =
    let before = c.loop-size.invariant in
    let stops = c.in_err-take_steps.ensures.err in
    let size = c.in-Some.size.now in
    let strings = c.in-Some.behind.now in
    let first : c.loop-size.rest.now ≡ size ∷ strings = c.in-Some.ensures.cases.0 in
    let part = c.in-Some-get.ensures.lookup.0 in
    let fits : size ≤ length strings = omega (arith, part.0, c.from.ensures) in
    let one : StringsTake c.args.end (size ∷ strings) ITEM_STEPS Onward = string fits strings_on refl in
    fails _ _ _ _ _ c.from_residual.ensures (rw stops.0 (wanting {n = before.spent + ITEM_STEPS} (omega (arith, stops.1)) (before.leads ITEM_STEPS _ Onward (rw first one) refl)))

pub loop-size-preserved : goal.loop-size-preserved
loop-size-preserved c =
    let before = c.loop-size.invariant in
    let size = c.in-Some.size.now in
    let strings = c.in-Some.behind.now in
    let first : c.loop-size.rest.now ≡ size ∷ strings = c.in-Some.ensures.cases.0 in
    let part = c.in-Some-get.ensures.lookup.0 in
    let fits : size ≤ length strings = omega (arith, part.0, c.from.ensures) in
    let others : c.in-Some-get.others.now ≡ drop size strings = search (rules, take_rest) in
    record {
      spent = before.spent + ITEM_STEPS;
      is_spent = omega (arith, c.in_ok-take_steps.ensures.ok);
      leads = λ k n come takes is.
          let rest : StringsTake c.args.end (drop size strings) k come = rw others at takes in
          let all : StringsTake c.args.end (size ∷ strings) (ITEM_STEPS + k) come = string fits rest refl in
          before.leads (ITEM_STEPS + k) n come (rw first all) (omega arith);
    }

pub returns-in-None : goal.returns-in-None
returns-in-None c =
    let before = c.loop-size.invariant in
    let first : c.loop-size.rest.now ≡ c.in-Some.size.now ∷ c.in-Some.behind.now = c.in-Some.ensures.cases.0 in
    let past : length c.in-Some.behind.now < c.in-Some.size.now = omega (arith, c.in-None.ensures.lookup.0, c.from.ensures) in
    stopped {n = before.spent} (omega arith) (before.leads 0 _ Ended (rw first (string_cut past)) (omega arith))

pub returns : goal.returns
returns c =
    let before = c.loop-size.invariant in
    read {n = before.spent} (omega arith) (before.leads 0 _ (Behind c.args.end) (rw (nil_of _ c.in_default.ensures.cases) no_strings) (omega arith))
