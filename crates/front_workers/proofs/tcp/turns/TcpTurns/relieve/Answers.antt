use Rattle.std.proofs.Common.{arith, refl}
use Rattle.front_workers.proofs.Accounting.{latest_on, time_at}
use Rattle.front_workers.proofs.Outboxes.{asking_kept, ends_of}
use Rattle.front_workers.proofs.Flowing.{streams_settle}
use Rattle.front_workers.proofs.tcp.turns.TcpTurns.relieve.Goals as goal

pub returns-clause-goes_on : goal.returns-clause-goes_on
returns-clause-goes_on g c =
    let loses = c.relieve.ensures.loses_none 0 in
    rw (← c.self.view_is) (streams_settle _ _ _ _ (ends_of loses.ends) loses.accounted loses.no_more loses.bounded loses.limit refl refl (asking_kept loses.ends)
    (time_at 0 c.args.questions.now c.relieve.new.self c.self.inside.clock (omega arith) (latest_on 0 c.args.questions.now c.relieve.new.self loses.begins)))
