use Rattle.std.proofs.Common.{arith}
use Rattle.iterate.proofs.Asking.{spent, sending_less}
use Rattle.iterate.proofs.PathTurns.{turned}
use Rattle.iterate.proofs.sending.ask.Goals as goal

pub returns-then-search-ge-MOST_SENDS-clause-query : goal.returns-then-search-ge-MOST_SENDS-clause-query
returns-then-search-ge-MOST_SENDS-clause-query g c = λ few. absurd (omega (arith, few))

pub returns-clause-query : goal.returns-clause-query
returns-clause-query g c = λ few. c.send.ensures.query

pub returns-then-search-ge-MOST_SENDS-clause-goes : goal.returns-then-search-ge-MOST_SENDS-clause-goes
returns-then-search-ge-MOST_SENDS-clause-goes g c = λ port moment question log rest s next orderly.
    turned c.failed.ensures.phase c.failed.ensures.want (spent port question log moment _ 4 c.args.search s (omega arith))

pub returns-clause-goes : goal.returns-clause-goes
returns-clause-goes g c = λ port moment question log rest s next orderly.
    c.send.ensures.goes port moment _ question log rest s (omega arith) next orderly tt (sending_less c.args.search 4 s (omega arith))
