use Rattle.std.proofs.Common.{◌≡◌, ◌∷◌, ◌++◌, List, [], false, sym, subst, ◌∙◌, arith}
use Rattle.std.specs.BTreeSet as set
use Rattle.std.proofs.lemmas.Grind.{common_steps}
use Rattle.dns_name.specs.Labels.{Labels}
use Rattle.dns_name.specs.Order.{name_cmp}
use Rattle.dns_query.specs.Indexed.{HasEach}
use Rattle.dns_query.proofs.IndexedLaws.{each_added}
use Rattle.dns_query.proofs.servers.push_once.Goals as goal

pub returns-in_ok-push-clause-seen : goal.returns-in_ok-push-clause-seen
returns-in_ok-push-clause-seen c =
    let name = c.in_ok-clone.field-0 in
    let names = c.args.targets.now.items in
    let absent : set.contains name_cmp c.args.seen.now name ≡ false = grind (arith, c.in_ok-added.ensures.added, c.if-added.true) in
    let each = each_added c.args.seen.now c.insert.new.self names name c.requires c.in_ok-added.ensures.updates (sym (c.requires name) ∙ absent) in
    let pushed : c.push.new.self.items ≡ names ++ name ∷ [] = grind (arith, common_steps) in
    subst (λ (xs : List Labels). HasEach c.insert.new.self xs) (sym pushed) each
