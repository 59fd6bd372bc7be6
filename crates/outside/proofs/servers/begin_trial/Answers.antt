use Rattle.std.proofs.Common.{◌≡◌, Some, None, ap, subst, arith, rules}
use Rattle.std.proofs.lemmas.Grind.{common_steps}
use Rattle.indexmap.specs.IndexMap.{get, Updates}
use Rattle.outside.specs.declared.silence.Silence.{Silence}
use Rattle.outside.specs.Kept.Changes.{known, unknown}
use Rattle.outside.specs.Pauses.{server_eq, Silences}
use Rattle.outside.proofs.servers.begin_trial.Goals as goal

pub returns-clause-changes : goal.returns-clause-changes
returns-clause-changes c =
    let servers = c.args.servers.now in
    let new = c.begin_trial.new.self in
    let held : get server_eq servers c.args.server.now ≡ Some c.in-Some.silence.now = grind (arith, common_steps) in
    let updates = (c.get_mut.follows.holds new).3 (search rules) in
    known held (subst (λ (s : Silence). Updates server_eq servers (c.get_mut.follows.lender new) c.args.server.now (Some s)) c.begin_trial.ensures updates)

pub returns-in_default-clause-changes : goal.returns-in_default-clause-changes
returns-in_default-clause-changes c =
    let none : get server_eq c.args.servers.now c.args.server.now ≡ None = grind (arith, common_steps) in
    unknown none (ap (λ (m : Silences). m.entries) c.get_mut.follows.holds-at-none)
