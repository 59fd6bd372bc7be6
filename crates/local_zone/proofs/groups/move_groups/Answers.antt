use Rattle.std.proofs.Common.{◌≡◌, ◌+◌, List, [], ◌∷◌, ◌++◌, take, None, ap, sym, subst, ◌∙◌, arith}
use Rattle.std.specs.List.{AllByRecursion}
use Rattle.std.proofs.lemmas.List.{take_more}
use Rattle.dns_name.specs.Labels.{Labels, octets_of}
use Rattle.dns_name.specs.ListLaws.{all_push, all_weaker}
use Rattle.dns_name.specs.Order.{name_eq}
use Rattle.local_zone.specs.declared.taken.Taken.{Taken}
use Rattle.local_zone.specs.Gaps.{records_of}
use Rattle.local_zone.specs.Index.{of_owner, under}
use Rattle.local_zone.proofs.GapLaws.{owner_push}
use Rattle.local_zone.proofs.Keyed.{octets}
use Rattle.local_zone.proofs.groups.move_groups.Goals as goal

pub loop-t-preserved : goal.loop-t-preserved
loop-t-preserved c =
    let xs : List Taken = c.args.taken.now in
    let i = c.loop-t.t-index in
    let t : Taken = c.t-item.result in
    let next : take (i + 1) xs ≡ take i xs ++ t ∷ [] = take_more xs i t c.loop-t-test.true ∙ ap (λ (y : Taken). take i xs ++ y ∷ []) (sym c.t-item.is) in
    let owner : c.owner.result.now ≡ t.item.owner = c.owner.ensures in
    let here : under octets (octets_of t.item.owner) c.move_group.new.owners.entries ≡ None = ap (λ (o : Labels). under octets (octets_of o) c.move_group.new.owners.entries) (sym owner) ∙ c.move_group.ensures.gone in
    record {
      index = λ records h. c.move_group.ensures.index records (c.loop-t.invariant.index records h);
      gone =
          subst (λ (ys : List Taken). AllByRecursion (λ (u : Taken). under octets (octets_of u.item.owner) c.move_group.new.owners.entries ≡ None) ys) (sym next)
          (all_push (λ (u : Taken). under octets (octets_of u.item.owner) c.move_group.new.owners.entries ≡ None) (take i xs) t
          (all_weaker _ _ (λ u none. c.move_group.ensures.stays u.item.owner none) (take i xs) c.loop-t.invariant.gone) here);
      only = λ other none absent.
          let parts = owner_push other (take i xs) t (ap (λ (ys : List Taken). of_owner other (records_of ys)) (sym next) ∙ none) in
          c.move_group.ensures.only other (ap (λ (o : Labels). name_eq o other) owner ∙ parts.1) (c.loop-t.invariant.only other parts.0 absent);
      room = omega (arith, c.loop-t.invariant.room, c.move_group.ensures.spare);
      apart = c.move_group.ensures.apart;
    }
