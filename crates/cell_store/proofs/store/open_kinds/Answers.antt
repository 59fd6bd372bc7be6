use Rattle.std.proofs.Common.{◌≡◌, ◌∙◌, List, length, subst, Option, Some, None, ap, false, arith, inl, refl, rules, sym}
use Rattle.std.specs.Map.{keys_of}
use Rattle.std.specs.Prelude.{IfSome}
use Rattle.std.specs.Option.{option_map_or}
use Rattle.std.proofs.lemmas.Map.{keys-set_value}
use Rattle.cell_store.specs.declared.owner.OwnerCells.{OwnerCells}
use Rattle.indexmap.specs.IndexMap.{IndexMap, get}
use Rattle.std.proofs.lemmas.Grind.{common_steps}
use Rattle.dns_name.specs.Order.{name_eq}
use Rattle.cell_store.specs.Owner.{CanSettle, IsUpTo}
use Rattle.cell_store.specs.Count.{count_entries, has_place}
use Rattle.cell_store.proofs.CountLaws.{count_set}
use Rattle.cell_store.proofs.NamedLaws.{each_set, opened_use}
use Rattle.cell_store.proofs.StoreLaws.{cells_kept, each_updated, pairs_kept, settles_absent, settles_updated}
use Rattle.dns_name.specs.Labels.{Labels}
use Rattle.cell_store.specs.declared.seed.NameSeed.{NameSeed}
use Rattle.cell_store.specs.Store.{cell_by_owner, EachCounts, KeepNames, OpenColumns, StayBut}
use Rattle.cell_store.proofs.SpotLaws.{stays_set, length_set}
use Rattle.cell_store.proofs.store.open_kinds.Goals as goal

pub returns-in-Some-clause-opens : goal.returns-in-Some-clause-opens
returns-in-Some-clause-opens c =
    let owners = c.args.owners.now in
    let owner = c.args.owner.now in
    let new = c.open_each.new.self in
    let after = c.get_mut.follows.lender new in
    let updates = (c.get_mut.follows.holds new).3 (search rules) in
    let put = (c.get_mut.follows.holds new).0 in
    let opens = c.open_each.ensures.opens in
    let held : get name_eq owners owner ≡ Some c.in-Some.cells.now = grind (arith, common_steps) in
    record {
      cells = cells_kept owners owners after owner owner new refl refl updates (λ k v. opens.same.cells k v ∙ ap (λ (o : Option OwnerCells). cell_by_owner o k v) (sym held));
      upto = λ name. each_updated owners owners after owner owner new refl refl updates (IsUpTo c.args.top) (λ was. opens.upto) name (c.requires.upto name);
      settles = λ number kind name is. each_updated owners owners after owner owner new refl refl updates (CanSettle number kind)
          (λ was. opens.same.settles number kind (subst (λ (o : Option OwnerCells). IfSome o (CanSettle number kind)) held was)) name is;
      counted = let set = count_set (name_eq owner) owners.entries c.in-Some.cells.now new held in omega (arith, set, ap count_entries put, opens.same.places.count);
      pairs = pairs_kept owners owners after owner owner new refl refl updates
          (λ scope has. ap (λ (o : Option OwnerCells). option_map_or (λ cells. has_place cells scope) o false) held ∙ (sym (opens.same.places.places scope) ∙ has));
      named = λ each.
          subst (λ (l : List (Labels × OwnerCells)). EachCounts l) (sym put)
          (each_set (name_eq owner) owners.entries c.in-Some.cells.now new held (opened_use c.in-Some.cells.now new opens.same.places c.open_each.ensures.still) each);
    }

-- the name is not there
pub returns-clause-opens : goal.returns-clause-opens
returns-clause-opens c =
    subst (λ (m : IndexMap Labels OwnerCells NameSeed). OpenColumns c.args.top c.args.owners.now m) (sym c.get_mut.follows.holds-at-none)
    (record { cells = λ q v. refl; upto = c.requires.upto; settles = λ number kind name is. is; counted = refl; pairs = λ pair has. has; named = λ each. each })

pub returns-clause-entries : goal.returns-clause-entries
returns-clause-entries c =
    subst (λ (m : IndexMap Labels OwnerCells NameSeed). KeepNames c.args.owner.now c.args.owners.now.entries m.entries) (sym c.get_mut.follows.holds-at-none)
    (record { others = record { others = λ i off. refl; size = inl refl; names = inl refl }; size = refl; names = refl })

pub returns-clause-opened : goal.returns-clause-opened
returns-clause-opened c =
    let owners = c.args.owners.now in
    let absent : get name_eq owners c.args.owner.now ≡ None = grind (arith, common_steps) in
    settles_absent owners c.get_mut.follows.lender-at-none c.args.owner.now c.args.kinds.now c.get_mut.follows.holds-at-none absent

pub returns-in-Some-clause-entries : goal.returns-in-Some-clause-entries
returns-in-Some-clause-entries c =
    let owners = c.args.owners.now in
    let owner = c.args.owner.now in
    let new = c.open_each.new.self in
    let put = (c.get_mut.follows.holds new).0 in
    record {
      others = subst (λ (l : List (Labels × OwnerCells)). StayBut owner owners.entries l) (sym put) (stays_set (name_eq owner) owner owners.entries new refl);
      size = ap length put ∙ length_set (name_eq owner) owners.entries new;
      names = ap keys_of put ∙ keys-set_value (name_eq owner) owners.entries new;
    }

pub returns-in-Some-clause-opened : goal.returns-in-Some-clause-opened
returns-in-Some-clause-opened c =
    let owners = c.args.owners.now in
    let owner = c.args.owner.now in
    let new = c.open_each.new.self in
    let updates = (c.get_mut.follows.holds new).3 (search rules) in
    settles_updated owners owners (c.get_mut.follows.lender new) owner owner new refl refl updates c.open_each.result c.args.kinds.now c.open_each.ensures.opened
