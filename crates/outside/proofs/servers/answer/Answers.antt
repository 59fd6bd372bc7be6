use Rattle.std.proofs.Common.{◌≡◌, Some, None, subst, arith, rules}
use Rattle.std.proofs.lemmas.Grind.{common_steps}
use Rattle.indexmap.specs.IndexMap.{get, Updates}
use Rattle.outside.specs.declared.servers.TheConstants.{MOST_SERVERS}
use Rattle.outside.specs.declared.silence.Silence.{Silence}
use Rattle.outside.specs.Kept.{Adds}
use Rattle.outside.specs.Kept.Remembers.{known}
use Rattle.outside.specs.Silences.{answered_at, matters_until}
use Rattle.outside.specs.Pauses.{server_eq}
use Rattle.outside.proofs.Remembering.{remembered_new}
use Rattle.outside.proofs.servers.answer.Goals as goal

pub returns-in-Some-clause-remembers : goal.returns-in-Some-clause-remembers
returns-in-Some-clause-remembers c =
    let held : get server_eq c.args.servers.now c.args.server ≡ Some c.in-Some.silence.now = grind (arith, common_steps) in
    let new = c.answered.result in
    let updates = (c.get_mut.follows.holds new).3 (search rules) in
    known held (subst (λ (s : Silence). Updates server_eq c.args.servers.now (c.get_mut.follows.lender new) c.args.server (Some s)) c.answered.ensures updates)

pub returns-clause-remembers : goal.returns-clause-remembers
returns-clause-remembers c =
    let none : get server_eq c.args.servers.now c.args.server ≡ None = grind (arith, common_steps) in
    remembered_new server_eq matters_until MOST_SERVERS c.args.now c.args.server (answered_at c.args.now) c.args.servers.now c.get_mut.follows.lender-at-none c.add.new.kept
    c.get_mut.follows.holds-at-none none
    (subst (λ (s : Silence). Adds server_eq matters_until MOST_SERVERS c.args.now c.args.server s c.get_mut.follows.lender-at-none c.add.new.kept) c.answered-2.ensures c.add.ensures.adds)
