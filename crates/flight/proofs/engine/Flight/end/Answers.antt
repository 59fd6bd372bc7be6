use Rattle.std.proofs.Common.{◌≡◌, ◌∙◌, arith, refl, subst}
use Rattle.flight.specs.Origin.{zone_of}
use Rattle.flight.specs.Told.{listened_of}
use Rattle.flight.specs.Waiting.{UnderWay, WaitsFrom}
use Rattle.flight.proofs.Leaving.{ends_behind, ends_of}
use Rattle.flight.proofs.Looking.{hears_out}
use Rattle.flight.proofs.engine.Flight.end.Goals as goal
use Rattle.flight.proofs.engine.Flight.end.Goals.{in-Nothing, in_default}

pub returns-clause-ends : goal.returns-clause-ends
returns-clause-ends g c =
    let silent : g.O.Sockets.outbox c.match-heard.sockets ≡ g.O.Sockets.outbox c.args.sockets.now = elim c.match-heard.branch [
      | in-Nothing w ↦ rw w.sockets-is (w.expire.ensures.keeps.silent ∙ c.hear-heard.ensures.keeps.silent)
      | in_default w ↦ rw w.sockets-is c.hear-heard.ensures.keeps.silent
    ] in
    ends_of 0 _ (omega arith) (ends_behind silent c.go_on.ensures.settles.ends)

pub returns-clause-waits : goal.returns-clause-waits
returns-clause-waits g c = subst (λ (job : UnderWay). WaitsFrom c.args.now (λ o. o ≡ job.origin) c.args.self.now c.go_on.new.self) c.job.view_is c.go_on.ensures.settles.waits

pub returns-clause-anew : goal.returns-clause-anew
returns-clause-anew g c =
    let silent : g.O.Sockets.outbox c.match-heard.sockets ≡ g.O.Sockets.outbox c.args.sockets.now = elim c.match-heard.branch [
      | in-Nothing w ↦ rw w.sockets-is (w.expire.ensures.keeps.silent ∙ c.hear-heard.ensures.keeps.silent)
      | in_default w ↦ rw w.sockets-is c.hear-heard.ensures.keeps.silent
    ] in
    let question = c.job.inside.asking.query.question in
    let of : UnderWay → Type 0 = λ job. job.origin.zone ≡ zone_of question.owner in
    hears_out g.D.Desk.calls g.O.Sockets.listens g.O.Sockets.outbox c.args.job c.args.desk.now c.go_on.new.desk c.args.self.now c.go_on.new.self
    c.args.sockets.now c.hear-heard.new.sockets c.match-heard.sockets c.go_on.new.sockets question c.job.inside.line (listened_of c.hear-heard.result)
    (subst of c.job.view_is refl) c.hear-heard.ensures.listens silent c.go_on.ensures.anew
