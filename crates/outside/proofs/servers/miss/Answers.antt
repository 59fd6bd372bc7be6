use Rattle.std.proofs.Common.{◌≡◌, Some, None, subst, arith, rules}
use Rattle.std.proofs.lemmas.Grind.{common_steps}
use Rattle.indexmap.specs.IndexMap.{get}
use Rattle.outside.specs.declared.silence.Silence.{Silence}
use Rattle.outside.specs.Silences.{Misses}
use Rattle.outside.specs.Pauses.{server_eq}
use Rattle.outside.proofs.Remembering.{missed_known, missed_new}
use Rattle.outside.proofs.servers.miss.Goals as goal

pub returns-in-Some-clause-misses : goal.returns-in-Some-clause-misses
returns-in-Some-clause-misses c =
    let held : get server_eq c.args.servers.now c.args.server ≡ Some c.in-Some.silence.now = grind (arith, common_steps) in
    let updates = (c.get_mut.follows.holds c.miss.new.self).3 (search rules) in
    missed_known c.args.now c.args.server c.args.name c.args.servers.now (c.get_mut.follows.lender c.miss.new.self) c.in-Some.silence.now c.miss.new.self held c.miss.ensures updates

pub returns-clause-misses : goal.returns-clause-misses
returns-clause-misses c =
    let none : get server_eq c.args.servers.now c.args.server ≡ None = grind (arith, common_steps) in
    missed_new c.args.now c.args.server c.args.name c.args.servers.now c.get_mut.follows.lender-at-none c.add.new.kept c.miss-2.new.self c.get_mut.follows.holds-at-none none
    (subst (λ (s : Silence). Misses c.args.name c.args.now s c.miss-2.new.self) c.unknown-silence.ensures c.miss-2.ensures) c.add.ensures.adds
