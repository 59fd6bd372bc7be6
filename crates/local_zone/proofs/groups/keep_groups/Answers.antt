use Rattle.std.proofs.Common.{◌≡◌, ◌+◌, List, [], ◌∷◌, ◌++◌, take, None, ap, sym, subst, ◌∙◌, arith}
use Rattle.std.specs.List.{AllByRecursion}
use Rattle.std.proofs.lemmas.List.{take_more}
use Rattle.dns_name.specs.Labels.{Labels, octets_of}
use Rattle.dns_name.specs.ListLaws.{all_push, all_weaker}
use Rattle.dns_name.specs.Order.{name_eq}
use Rattle.dns_text.specs.declared.record.Record.{Record}
use Rattle.local_zone.specs.Index.{of_owner, under}
use Rattle.local_zone.proofs.GapLaws.{none_push}
use Rattle.local_zone.proofs.Keyed.{octets}
use Rattle.local_zone.proofs.groups.keep_groups.Goals as goal

pub loop-r-preserved : goal.loop-r-preserved
loop-r-preserved c =
    let xs : List Record = c.args.left.now in
    let i = c.loop-r.r-index in
    let r : Record = c.r-item.result in
    let next : take (i + 1) xs ≡ take i xs ++ r ∷ [] = take_more xs i r c.loop-r-test.true ∙ ap (λ (y : Record). take i xs ++ y ∷ []) (sym c.r-item.is) in
    let owner : c.owner.result.now ≡ r.owner = c.owner.ensures in
    let here : under octets (octets_of r.owner) c.move_group.new.owners.entries ≡ None = ap (λ (o : Labels). under octets (octets_of o) c.move_group.new.owners.entries) (sym owner) ∙ c.move_group.ensures.gone in
    record {
      index = λ records h. c.move_group.ensures.index records (c.loop-r.invariant.index records h);
      gone =
          subst (λ (ys : List Record). AllByRecursion (λ (u : Record). under octets (octets_of u.owner) c.move_group.new.owners.entries ≡ None) ys) (sym next)
          (all_push (λ (u : Record). under octets (octets_of u.owner) c.move_group.new.owners.entries ≡ None) (take i xs) r
          (all_weaker _ _ (λ u none. c.move_group.ensures.stays u.owner none) (take i xs) c.loop-r.invariant.gone) here);
      only = λ other none absent.
          let parts = none_push other (take i xs) r (ap (λ (ys : List Record). of_owner other ys) (sym next) ∙ none) in
          c.move_group.ensures.only other (ap (λ (o : Labels). name_eq o other) owner ∙ parts.1) (c.loop-r.invariant.only other parts.0 absent);
      room = omega (arith, c.loop-r.invariant.room, c.move_group.ensures.spare);
      apart = c.move_group.ensures.apart;
    }
