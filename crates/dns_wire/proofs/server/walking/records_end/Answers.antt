use Rattle.std.proofs.Common.{◌++◌, ◌∷◌, [], sym, ◌∙◌, rules}
use Rattle.dns_wire.specs.Read.Record.{record_read}
use Rattle.dns_wire.proofs.WalkLaws.{walk_more, walk_fails, walk_done}
use Rattle.dns_wire.proofs.server.walking.records_end.Goals as goal

pub returns-in_err-place-clause-exact : goal.returns-in_err-place-clause-exact
returns-in_err-place-clause-exact c =
    let none = walk_fails (λ i. record_read c.args.message.now i) c.loop.invariant.before c.args.count c.loop.counter c.loop.place _ c.loop-test.true (sym c.in_err-place.ensures.exact) c.loop.invariant.told in
    rw none (search rules)

pub loop-preserved : goal.loop-preserved
loop-preserved c =
    let more = walk_more (λ i. record_read c.args.message.now i) c.loop.invariant.before c.args.count c.loop.counter c.loop.place c.in_ok-place.place c.loop-test.true (sym c.in_ok-place.ensures.exact) in
    record {
      before = c.loop.invariant.before ++ more.0 ∷ [];
      told = more.1 ∙ c.loop.invariant.told;
      within = c.in_ok-place.ensures.within;
    }

pub returns-clause-exact : goal.returns-clause-exact
returns-clause-exact c =
    sym (walk_done (λ i. record_read c.args.message.now i) c.loop.invariant.before c.args.count c.loop.counter c.loop.place _ c.loop-test.false c.loop.invariant.told)
