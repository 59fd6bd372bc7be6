use Rattle.iterate.proofs.PathTurns.{turned, first_failing}
use Rattle.iterate.proofs.first_lookup.looked_first.Goals as goal

pub returns-in-Some : goal.returns-in-Some
returns-in-Some c = λ port m id log adds suits.
    c.seen_first.ensures port m id c.args.input.now log (c.in-Some.ensures m suits) adds

pub returns-in-None : goal.returns-in-None
returns-in-None c = λ port m id log adds suits.
    turned c.failed.ensures.phase c.failed.ensures.want (first_failing c.args.input.now adds (c.in-None.ensures m suits))
