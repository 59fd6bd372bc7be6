use Rattle.std.proofs.Common.{◌<◌, arith}
use Rattle.iterate.specs.Resolved.{Fails}
use Rattle.iterate.proofs.PathTurns.{turned, failing}
use Rattle.iterate.proofs.outcome.again.Goals as goal

pub returns-then-search-ge-MOST_SENDS-clause-goes : goal.returns-then-search-ge-MOST_SENDS-clause-goes
returns-then-search-ge-MOST_SENDS-clause-goes g c = λ port moment left question log rest s next orderly cut less some.
    turned c.failed.ensures.phase c.failed.ensures.want
    (failing c.args.search.path some s.path (Fails.spent (omega (arith, s.path.counted, s.path.few))))

pub returns-clause-goes : goal.returns-clause-goes
returns-clause-goes g c = λ port moment left question log rest s next orderly cut less some.
    let few : c.args.search.path.sent < 64 = omega arith in
    c.send.ensures.goes port moment left question log rest s few next orderly cut (less few)

pub returns-then-search-ge-MOST_SENDS-clause-tcp : goal.returns-then-search-ge-MOST_SENDS-clause-tcp
returns-then-search-ge-MOST_SENDS-clause-tcp g c = λ few. absurd (omega (arith, few))

pub returns-clause-tcp : goal.returns-clause-tcp
returns-clause-tcp g c = λ few. c.send.ensures.query
