use Rattle.std.specs.Prelude.{Some, None}
use Rattle.std.proofs.Common.{refl, sym, subst}
use Rattle.dns_name.specs.Labels.{Labels}
use Rattle.outside.specs.declared.server.Server.{Server}
use Rattle.outside.specs.Pauses.{server_at, MissesAt}
use Rattle.outside.proofs.pauses.Pauses.note_unanswered.Goals as goal

pub returns-in_default : goal.returns-in_default
returns-in_default c = record { question = None; asked = tt; loses = refl }

pub returns-in_default-clone : goal.returns-in_default-clone
returns-in_default-clone c = record { question = None; asked = tt; loses = refl }

pub returns : goal.returns
returns c =
    let question = c.in-Some.question in
    let server = server_at c.args.server.now c.args.over in
    let old = c.args.self.now.servers in
    let new = c.miss.new.servers in
    let missed = subst (λ (n : Labels). MissesAt c.args.now server n old new) c.in-Ok.ensures c.miss.ensures.misses in record {
      question = Some question;
      asked = c.in-Some.ensures;
      loses = record {
        server = subst (λ (s : Server). MissesAt c.args.now s question.owner old new) (sym c.in-Some.ensures.server) missed;
        paused = c.miss-2.ensures.remembers;
      };
    }
