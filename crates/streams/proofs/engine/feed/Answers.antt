use Rattle.std.proofs.Common.{◌≡◌, ◌<◌, ℕ, length, take, subst, ◌∙◌, arith}
use Rattle.std.proofs.lemmas.List.{take_all}
use Rattle.streams.specs.declared.fault.Flow.TheVariants.{On}
use Rattle.streams.specs.Transcript.{paired}
use Rattle.streams.specs.Flow.{CountsFlow}
use Rattle.streams.proofs.Telling.{stops, feeds-next, feeds-front, held-next}
use Rattle.streams.proofs.engine.feed.Goals as goal

pub loop-octet-preserved : goal.loop-octet-preserved
loop-octet-preserved g c =
    let octets = c.args.octets.now in
    let so_far = c.loop-octet.invariant in
    let below : c.loop-octet.octet-index < length octets = omega (arith, c.loop-octet-test.true) in
    record {
      told = λ begun is. feeds-next On _ (paired g.O.Obeyer.obeys) _ _ _ begun octets _ _ _ _ below (so_far.told begun is) (c.in-On.ensures.told _ (so_far.held begun is));
      held = λ begun is. held-next _ begun octets _ below (c.in-On.ensures.held _ (so_far.held begun is));
      failures = c.in-On.ensures.failures ∙ so_far.failures;
    }

pub returns-in_default : goal.returns-in_default
returns-in_default g c =
    let octets = c.args.octets.now in
    let obeys = paired g.O.Obeyer.obeys in
    let flow = c.feed_one.result in
    let so_far = c.loop-octet.invariant in
    let below : c.loop-octet.octet-index < length octets = omega (arith, c.loop-octet-test.true) in
    record {
      told = λ begun is. feeds-front flow _ obeys _ _ begun octets _ _ _ (stops flow c.in_default.not-On)
          (feeds-next flow _ obeys _ _ _ begun octets _ _ _ _ below (so_far.told begun is) (c.feed_one.ensures.told _ (so_far.held begun is)));
      held = λ begun is on. absurd (c.in_default.not-On on);
      failures = subst (λ (n : ℕ). CountsFlow flow n (g.W.Sink.failures c.feed_one.new.writer)) so_far.failures c.feed_one.ensures.failures;
    }

pub returns-clause-told : goal.returns-clause-told
returns-clause-told g c = λ begun is.
    let all : take c.loop-octet.octet-index c.args.octets.now ≡ c.args.octets.now = take_all _ c.args.octets.now (omega (arith, c.loop-octet-test.false)) in
    rw all at c.loop-octet.invariant.told begun is
