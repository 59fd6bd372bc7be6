use Rattle.std.proofs.Common.{◌≡◌, ◌++◌, [], refl, rules, arith}
use Rattle.std.specs.List.{flat_map}
use Rattle.std.proofs.lemmas.Grind.{common_steps}
use Rattle.ranked.specs.Addrs.{addr_of}
use Rattle.dns_query.specs.Indexed.{addrs_at}
use Rattle.dns_query.proofs.IndexedLaws.{addrs_updated, on_ok}
use Rattle.dns_query.proofs.servers.add_addrs.Goals as goal

pub returns-in-Some : goal.returns-in-Some
returns-in-Some c =
    let index = c.args.index.now in
    let owner = c.args.owner.now in
    let more = flat_map (addr_of c.args.port) c.args.set.now in
    let updates = (c.get_mut.follows.holds c.push_addrs.new.out).3 (search rules) in
    let held : addrs_at index owner ≡ c.in-Some.addrs.now.items = grind (arith, common_steps) in
    on_ok c.push_addrs.result (λ pushed.
    let is : c.push_addrs.new.out.items ≡ addrs_at index owner ++ more = grind (arith, held, pushed) in
    addrs_updated index index (c.get_mut.follows.lender c.push_addrs.new.out) owner owner c.push_addrs.new.out more refl refl updates is) c.push_addrs.ensures

pub returns : goal.returns
returns c =
    let index = c.args.index.now in
    let owner = c.args.owner.now in
    let more = flat_map (addr_of c.args.port) c.args.set.now in
    let absent : addrs_at index owner ≡ [] = grind (arith, common_steps) in
    let is : c.push_addrs-2.new.out.items ≡ addrs_at index owner ++ more = grind (arith, common_steps, absent) in
    addrs_updated index c.get_mut.follows.lender-at-none c.insert.new.self owner c.in_ok-clone.field-0 c.push_addrs-2.new.out more c.get_mut.follows.holds-at-none c.in_ok-clone.ensures c.in_ok-insert.ensures.updates is
