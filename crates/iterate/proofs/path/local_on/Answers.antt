use Rattle.history.specs.declared.event.Seen.TheVariants.{Local}
use Rattle.iterate.proofs.PathTurns.{turned, seeing, failing_barred, path_some}
use Rattle.iterate.proofs.path.local_on.Goals as goal

pub returns-in-Some : goal.returns-in-Some
returns-in-Some c = λ port m moment id question before log b local adds.
    let ends = rw c.in-Some.is at (c.in_ok-ending.ensures c.args.path.last local) in
    turned c.ended.ensures.phase c.ended.ensures.want (seeing c.args.path (Local c.args.answer.now) (path_some 3 b.is_path) b.is_path adds ends)

pub returns-in-None : goal.returns-in-None
returns-in-None c = λ port m moment id question before log b local adds.
    let barred = rw c.in-None.is at (c.in_ok-ending.ensures c.args.path.last local) in
    turned c.failed.ensures.phase c.failed.ensures.want (failing_barred c.args.path (Local c.args.answer.now) (path_some 3 b.is_path) b.is_path b.some adds barred)
