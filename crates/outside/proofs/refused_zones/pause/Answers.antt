use Rattle.std.proofs.Common.{◌≡◌, Some, None, subst, arith, rules}
use Rattle.std.proofs.lemmas.Grind.{common_steps}
use Rattle.indexmap.specs.IndexMap.{get, Updates}
use Rattle.outside.specs.declared.pause.Pause.{Pause}
use Rattle.outside.specs.declared.refused_zones.TheConstants.{MOST_REFUSALS}
use Rattle.outside.specs.Kept.{Adds}
use Rattle.outside.specs.Kept.Remembers.{known}
use Rattle.outside.specs.Refusals.{zone_at_eq}
use Rattle.outside.proofs.Remembering.{remembered_new}
use Rattle.outside.proofs.refused_zones.pause.Goals as goal

pub returns-in-Some-clause-remembers : goal.returns-in-Some-clause-remembers
returns-in-Some-clause-remembers c =
    let zones = c.args.zones.now in
    let new = c.pause_from.result in
    let held : get zone_at_eq zones c.args.zone ≡ Some c.in-Some.last.now = grind (arith, common_steps) in
    let updates = (c.get_mut.follows.holds new).3 (search rules) in
    known held (subst (λ (p : Pause). Updates zone_at_eq zones (c.get_mut.follows.lender new) c.args.zone (Some p)) c.pause_from.ensures updates)

pub returns-clause-remembers : goal.returns-clause-remembers
returns-clause-remembers c =
    let zones = c.args.zones.now in
    let none : get zone_at_eq zones c.args.zone ≡ None = grind (arith, common_steps) in
    let until = λ (p : Pause). p.until in
    remembered_new zone_at_eq until MOST_REFUSALS c.args.now c.args.zone _ zones c.get_mut.follows.lender-at-none c.add.new.kept c.get_mut.follows.holds-at-none none
    (subst (λ (p : Pause). Adds zone_at_eq until MOST_REFUSALS c.args.now c.args.zone p c.get_mut.follows.lender-at-none c.add.new.kept) c.pause_from-2.ensures c.add.ensures.adds)
