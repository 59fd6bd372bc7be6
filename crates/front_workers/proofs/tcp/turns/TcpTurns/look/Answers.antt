use Rattle.std.proofs.Common.{refl}
use Rattle.front_workers.proofs.Outboxes.{asking_kept, ends_of}
use Rattle.front_workers.proofs.Flowing.{streams_settle}
use Rattle.front_workers.proofs.tcp.turns.TcpTurns.look.Goals as goal

pub returns-clause-goes_on : goal.returns-clause-goes_on
returns-clause-goes_on g c =
    let looks = c.look_all.ensures.go_on in
    rw (← c.self.view_is) (streams_settle _ _ _ _ (ends_of looks.ends) looks.accounted looks.no_more looks.bounded looks.limit refl refl (asking_kept looks.ends) c.look_all.ensures.time)

pub returns-clause-looked : goal.returns-clause-looked
returns-clause-looked g c = rw (← c.self.view_is) c.look_all.ensures.looked
