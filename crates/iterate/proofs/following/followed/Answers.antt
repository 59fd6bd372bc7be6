use Rattle.history.specs.declared.event.Ask.TheVariants.{Answer as Asked}
use Rattle.iterate.proofs.PathTurns.{turned, failing_look, path_some}
use Rattle.iterate.proofs.following.followed.Goals as goal

pub returns-in-Some : goal.returns-in-Some
returns-in-Some c = λ port m id question before log f adds suits.
    c.seen_behind.ensures port m id question c.args.input.now before log f (c.in-Some.ensures m suits) adds

pub returns-in-None : goal.returns-in-None
returns-in-None c = λ port m id question before log f adds suits.
    turned c.failed.ensures.phase c.failed.ensures.want
    (failing_look c.args.path (Asked c.args.path.last) c.args.input.now (path_some 4 f.0.is_path) f.0.is_path adds (c.in-None.ensures m suits))
