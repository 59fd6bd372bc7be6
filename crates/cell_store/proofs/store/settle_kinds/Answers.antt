use Rattle.std.proofs.Common.{◌≡◌, List, length, false, max, cond, Option, Some, inl, refl, sym, ap, ◌∙◌, subst, rules, arith}
use Rattle.std.specs.Prelude.{◌==◌, IfSome}
use Rattle.std.specs.List.{list_any}
use Rattle.indexmap.specs.IndexMap.{IndexMap, get}
use Rattle.std.proofs.lemmas.Grind.{common_steps}
use Rattle.dns_name.specs.Order.{name_eq}
use Rattle.cell_store.specs.declared.owner.OwnerCells.{OwnerCells}
use Rattle.cell_store.specs.Owner.{CanSettle, IsUpTo}
use Rattle.cell_store.specs.declared.seed.NameSeed.{NameSeed}
use Rattle.cell_store.specs.Store.{cell_by_owner, GainNothing, KeepNames, StayBut}
use Rattle.std.specs.Option.{option_map_or}
use Rattle.cell_store.specs.Count.{count_entries, has_place}
use Rattle.cell_store.proofs.CountLaws.{count_set, count_found}
use Rattle.cell_store.proofs.StoreLaws.{cells_settled, each_updated, pairs_kept, settles_there}
use Rattle.cell_store.proofs.SpotLaws.{length_set, stays_set}
use Rattle.dns_name.specs.Labels.{Labels}
use Rattle.std.specs.Map.{keys_of}
use Rattle.std.proofs.lemmas.Map.{keys-set_value}
use Rattle.cell_store.proofs.store.settle_kinds.Goals as goal

pub returns-in-Some-clause-cells : goal.returns-in-Some-clause-cells
returns-in-Some-clause-cells c =
    let owners = c.args.owners.now in
    let owner = c.args.owner.now in
    let new = c.settle_kinds.new.self in
    let updates = (c.get_mut.follows.holds new).3 (search rules) in
    let held : Some c.in-Some.cells.now ≡ get name_eq owners owner = grind (arith, common_steps) in
    cells_settled owners owners (c.get_mut.follows.lender new) owner owner new refl refl updates c.args.kinds.now c.args.number
    (λ k v. c.settle_kinds.ensures.cells k v ∙ ap (λ (o : Option OwnerCells). cell_by_owner o k (cond (list_any (λ kind. kind == k) c.args.kinds.now) (max c.args.number v) v)) held)

pub overflow_sub-others : goal.overflow_sub-others
overflow_sub-others c =
    let owners = c.args.owners.now in
    let held : get name_eq owners c.args.owner.now ≡ Some c.in-Some.cells.now = grind (arith, common_steps) in
    omega (arith, count_found (name_eq c.args.owner.now) owners.entries c.in-Some.cells.now held, c.requires.counted, c.counted.ensures)

pub settle_kinds-requires : goal.settle_kinds-requires
settle_kinds-requires c =
    let held : get name_eq c.args.owners.now c.args.owner.now ≡ Some c.in-Some.cells.now = grind (arith, common_steps) in
    record { settles = settles_there c.args.owners.now c.args.owner.now c.in-Some.cells.now c.args.number c.args.kinds.now held c.requires.settles }

pub returns-in-Some-clause-gains : goal.returns-in-Some-clause-gains
returns-in-Some-clause-gains c =
    let owners = c.args.owners.now in
    let owner = c.args.owner.now in
    let new = c.settle_kinds.new.self in
    let after = c.get_mut.follows.lender new in
    let updates = (c.get_mut.follows.holds new).3 (search rules) in
    let held : get name_eq owners owner ≡ Some c.in-Some.cells.now = grind (arith, common_steps) in
    let gains = c.settle_kinds.ensures.gains in
    record {
      upto = λ top is name. each_updated owners owners after owner owner new refl refl updates (IsUpTo top)
          (λ was. gains.upto top (subst (λ (o : Option OwnerCells). IfSome o (IsUpTo top)) held was)) name (is name);
      settles = λ number kind name is. each_updated owners owners after owner owner new refl refl updates (CanSettle number kind)
          (λ was. gains.settles number kind (subst (λ (o : Option OwnerCells). IfSome o (CanSettle number kind)) held was)) name is;
      pairs = pairs_kept owners owners after owner owner new refl refl updates
          (λ scope has. ap (λ (o : Option OwnerCells). option_map_or (λ cells. has_place cells scope) o false) held ∙ gains.places scope has);
    }

pub returns-in-Some-clause-counted : goal.returns-in-Some-clause-counted
returns-in-Some-clause-counted c =
    let owners = c.args.owners.now in
    let new = c.settle_kinds.new.self in
    let held : get name_eq owners c.args.owner.now ≡ Some c.in-Some.cells.now = grind (arith, common_steps) in
    let found = count_found (name_eq c.args.owner.now) owners.entries c.in-Some.cells.now held in
    let set = count_set (name_eq c.args.owner.now) owners.entries c.in-Some.cells.now new held in
    let put = ap count_entries (c.get_mut.follows.holds new).0 in (
      omega (arith, found, set, put, c.requires.counted, c.counted.ensures, c.counted-in-Some.ensures),
      omega (arith, found, c.requires.counted, c.settle_kinds.ensures.gains.count, c.counted.ensures, c.counted-in-Some.ensures),
    )

pub returns-in-Some-clause-entries : goal.returns-in-Some-clause-entries
returns-in-Some-clause-entries c =
    let owners = c.args.owners.now in
    let owner = c.args.owner.now in
    let new = c.settle_kinds.new.self in
    let put = (c.get_mut.follows.holds new).0 in
    record {
      others = subst (λ (l : List (Labels × OwnerCells)). StayBut owner owners.entries l) (sym put) (stays_set (name_eq owner) owner owners.entries new refl);
      size = ap length put ∙ length_set (name_eq owner) owners.entries new;
      names = ap keys_of put ∙ keys-set_value (name_eq owner) owners.entries new;
    }

-- the name is not there
pub returns-in_default-clause-gains : goal.returns-in_default-clause-gains
returns-in_default-clause-gains c =
    subst (λ (m : IndexMap Labels OwnerCells NameSeed). GainNothing c.args.owners.now m) (sym c.get_mut.follows.holds-at-none) (record { upto = λ top is. is; settles = λ number kind name is. is; pairs = λ pair has. has })

pub returns-in_default-clause-entries : goal.returns-in_default-clause-entries
returns-in_default-clause-entries c =
    subst (λ (m : IndexMap Labels OwnerCells NameSeed). KeepNames c.args.owner.now c.args.owners.now.entries m.entries) (sym c.get_mut.follows.holds-at-none)
    (record { others = record { others = λ i off. refl; size = inl refl; names = inl refl }; size = refl; names = refl })
