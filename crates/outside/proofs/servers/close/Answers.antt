use Rattle.std.proofs.Common.{◌≡◌, Option, Some, None, sym, subst, arith, rules, ap, ◌∙◌}
use Rattle.std.specs.Prelude.{unwrap_or}
use Rattle.std.proofs.lemmas.Grind.{common_steps}
use Rattle.indexmap.specs.IndexMap.{get, Updates}
use Rattle.outside.specs.declared.servers.TheConstants.{MOST_SERVERS}
use Rattle.outside.specs.declared.silence.Silence.{Silence}
use Rattle.outside.specs.Kept.{Adds}
use Rattle.outside.specs.Kept.Remembers.{known}
use Rattle.outside.specs.Silences.{closed_at, matters_until, unknown}
use Rattle.outside.specs.Pauses.{server_eq}
use Rattle.outside.proofs.Remembering.{remembered_new}
use Rattle.outside.proofs.servers.close.Goals as goal

pub returns-in-Some-clause-remembers : goal.returns-in-Some-clause-remembers
returns-in-Some-clause-remembers c =
    let servers = c.args.servers.now in
    let new = c.close.new.self in
    let held : get server_eq servers c.args.server ≡ Some c.in-Some.silence.now = grind (arith, common_steps) in
    let updates = (c.get_mut.follows.holds new).3 (search rules) in
    let is = c.close.ensures ∙ ap (λ (o : Option Silence). closed_at c.args.now (unwrap_or o unknown)) (sym held) in
    known held (subst (λ (s : Silence). Updates server_eq servers (c.get_mut.follows.lender new) c.args.server (Some s)) is updates)

pub returns-clause-remembers : goal.returns-clause-remembers
returns-clause-remembers c =
    let servers = c.args.servers.now in
    let none : get server_eq servers c.args.server ≡ None = grind (arith, common_steps) in
    let is = c.close-2.ensures ∙ (ap (λ (s : Silence). closed_at c.args.now s) c.unknown-silence.ensures ∙ ap (λ (o : Option Silence). closed_at c.args.now (unwrap_or o unknown)) (sym none)) in
    let until = matters_until in
    remembered_new server_eq until MOST_SERVERS c.args.now c.args.server _ servers c.get_mut.follows.lender-at-none c.add.new.kept c.get_mut.follows.holds-at-none none
    (subst (λ (s : Silence). Adds server_eq until MOST_SERVERS c.args.now c.args.server s c.get_mut.follows.lender-at-none c.add.new.kept) is c.add.ensures.adds)
