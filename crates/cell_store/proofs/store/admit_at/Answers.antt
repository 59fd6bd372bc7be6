use Rattle.std.proofs.lemmas.Bool.{false≢true}
use Rattle.cell_store.specs.Owner.{CanSettle, IsUpTo}
use Rattle.std.specs.Prelude.{IfSome}
use Rattle.std.proofs.Common.{◌≡◌, List, Option, None, refl, ap, sym, subst, ◌∙◌, arith}
use Rattle.indexmap.specs.IndexMap.{get, insert_entry, with_value_at}
use Rattle.std.specs.Prelude.{not, false, ◌||◌}
use Rattle.ranked.specs.declared.find.Scope.{Scope}
use Rattle.std.specs.Option.{option_map_or}
use Rattle.dns_name.specs.Labels.{Labels}
use Rattle.cell_store.specs.Count.{count_entries, one_if, has_place, has_place_for, scope_eq}
use Rattle.cell_store.specs.StoredLaws.{count_set_at, count_found_at}
use Rattle.cell_store.proofs.CountLaws.{count_insert}
use Rattle.std.proofs.lemmas.Grind.{common_steps}
use Rattle.std.proofs.lemmas.Result.{on_ok_weaker, on_err_weaker}
use Rattle.dns_name.specs.Order.{name_eq}
use Rattle.ranked.specs.declared.find.Find.{Find}
use Rattle.ranked.specs.Find.{admission_of, has_kind}
use Rattle.cell_store.specs.declared.owner.OwnerCells.{OwnerCells}
use Rattle.cell_store.specs.Store.{cell_by_owner, EachCounts}
use Rattle.cell_store.proofs.SpotLaws.{stays_put}
use Rattle.cell_store.proofs.NamedLaws.{admitted_count, each_at, each_put, held_count, used_at}
use Rattle.cell_store.proofs.StoreLaws.{cells_admitted, cells_kept, each_updated, found, none_there, by_held, by_none, pairs_added, pairs_kept}
use Rattle.cell_store.proofs.store.admit_at.Goals as goal

pub returns-in-Some : goal.returns-in-Some
returns-in-Some c =
    let owners = c.args.owners.now in
    let find = c.args.find in
    let key = c.pair_mut-cells.result.0.now in
    let lent = c.pair_mut-cells.result.1.now in
    let there = found owners find.owner c.in-Some.place key lent (sym c.in-Some.is ∙ c.requires.index.1) c.pair_mut-cells.ensures.value c.pair_mut-cells.ensures.unique in
    let new = c.admit-result.new.self in
    let after = with_value_at owners c.in-Some.place new in
    let counted = count_found_at owners.entries c.in-Some.place key lent c.pair_mut-cells.ensures.value in
    let set = count_set_at owners.entries c.in-Some.place key lent new c.pair_mut-cells.ensures.value in
    let as_many : one_if (not (has_place_for owners find)) ≡ one_if (not (has_place lent find.scope)) = ap (λ (o : Option OwnerCells). one_if (not (option_map_or (λ cells. has_place cells find.scope) o false))) there.held in
    record {
      cells = on_ok_weaker c.admit-result.result
          (λ cells. cells_admitted owners owners after find.owner key new refl there.same (there.updates new) find (admission_of find find c.args.moment) c.args.top refl
          (λ k v low. cells k v low ∙ by_held (get name_eq owners find.owner) lent (has_kind find.scope k) (admission_of find find c.args.moment) k v (sym there.held)))
          c.admit-result.ensures.cells;
      err = on_err_weaker c.admit-result.result
          (λ was. (
            cells_kept owners owners after find.owner key new refl there.same (there.updates new)
                (λ k v. was.0 k v ∙ ap (λ (o : Option OwnerCells). cell_by_owner o k v) (sym there.held)),
            omega (arith, counted, was.1.count, c.requires.index.0.counted, c.counted.ensures, c.counted-in-Some.ensures),
            pairs_kept owners owners after find.owner key new refl there.same (there.updates new)
                (λ scope has. ap (λ (o : Option OwnerCells). option_map_or (λ cells. has_place cells scope) o false) there.held ∙ (sym (was.1.places scope) ∙ has)),
          ))
          c.admit-result.ensures.err;
      upto = λ name. each_updated owners owners after find.owner key new refl there.same (there.updates new) (IsUpTo c.args.top) (λ was. c.admit-result.ensures.upto) name (c.requires.index.0.upto name);
      settles = λ n k name low settles. each_updated owners owners after find.owner key new refl there.same (there.updates new) (CanSettle n k)
          (λ was. c.admit-result.ensures.settles n k low (subst (λ (o : Option OwnerCells). IfSome o (CanSettle n k)) there.held was)) name settles;
      bound = record {
        counted = omega (arith, counted, set, c.requires.index.0.counted, c.counted.ensures, c.counted-in-Some.ensures);
        most = omega (arith, counted, as_many, c.requires.index.0.counted, c.admit-result.ensures.adds.count, c.counted.ensures, c.counted-in-Some.ensures);
        pairs = pairs_added owners owners after find.owner key new refl there.same (there.updates new) find.scope
            (λ scope had. ap (λ (o : Option OwnerCells). scope_eq find.scope scope || option_map_or (λ cells. has_place cells scope) o false) there.held ∙ c.admit-result.ensures.adds.places scope had);
        others = there.stays new;
      };
      free = λ has. c.admit-result.ensures.free (sym (ap (λ (o : Option OwnerCells). option_map_or (λ cells. has_place cells find.scope) o false) there.held) ∙ has);
      named = λ each.
          let was = used_at owners.entries c.in-Some.place key lent c.pair_mut-cells.ensures.value each in
          each_at owners.entries c.in-Some.place new (
            held_count c.admit-result.result lent new find.scope c.args.top (admission_of find find c.args.moment) c.admit-result.ensures.cells c.admit-result.ensures.err was.0,
            c.admit-result.ensures.adds.tidy was.1,
          ) each;
    }

pub admit-requires : goal.admit-requires
admit-requires c = record { upto = c.new-cells.ensures.upto c.args.top }

pub returns-clause-cells : goal.returns-clause-cells
returns-clause-cells c =
    let owners = c.args.owners.now in
    let find = c.args.find in
    let new = c.admit.new.self in
    let gone : None ≡ c.args.place = grind (arith, common_steps) in
    let absent : get name_eq owners find.owner ≡ None = none_there (name_eq find.owner) owners.entries (gone ∙ c.requires.index.1) in
    cells_admitted owners owners c.insert.new.self find.owner c.in_ok-owner.owner new refl (c.in_ok-owner.ensures ∙ ap (λ (f : Find). f.owner) c.find-2.ensures) c.in_ok-insert.ensures.updates
    find (admission_of find find c.args.moment) c.args.top refl
    (λ k v low. c.in_ok-admit.ensures.cells k v low ∙ by_none (get name_eq owners find.owner) c.new-cells.result (has_kind find.scope k) (admission_of find find c.args.moment) k v (c.new-cells.ensures.cells k v) absent)

pub returns-clause-settles : goal.returns-clause-settles
returns-clause-settles c = λ n k name low settles.
    let owners = c.args.owners.now in
    let find = c.args.find in
    each_updated owners owners c.insert.new.self find.owner c.in_ok-owner.owner c.admit.new.self refl (c.in_ok-owner.ensures ∙ ap (λ (f : Find). f.owner) c.find-2.ensures) c.in_ok-insert.ensures.updates (CanSettle n k)
    (λ was. c.admit.ensures.settles n k low (c.new-cells.ensures.settles n k)) name settles

pub overflow_sub-others : goal.overflow_sub-others
overflow_sub-others c =
    omega (arith, count_found_at c.args.owners.now.entries c.in-Some.place c.pair_mut-cells.result.0.now c.pair_mut-cells.result.1.now c.pair_mut-cells.ensures.value, c.requires.index.0.counted, c.counted.ensures)

pub returns-clause-bound : goal.returns-clause-bound
returns-clause-bound c =
    let owners = c.args.owners.now in
    let find = c.args.find in
    let gone : None ≡ c.args.place = grind (arith, common_steps) in
    let absent : get name_eq owners find.owner ≡ None = none_there (name_eq find.owner) owners.entries (gone ∙ c.requires.index.1) in
    let none : (scope : Scope) → option_map_or (λ cells. has_place cells scope) (get name_eq owners find.owner) false ≡ has_place c.new-cells.result scope =
    λ scope. ap (λ (o : Option OwnerCells). option_map_or (λ cells. has_place cells scope) o false) absent ∙ sym (c.new-cells.ensures.places scope) in
    let has : one_if (not (has_place_for owners find)) ≡ one_if (not (has_place c.new-cells.result find.scope)) = ap (λ b. one_if (not b)) (none find.scope) in
    let name : c.in_ok-owner.owner ≡ find.owner = c.in_ok-owner.ensures ∙ ap (λ (f : Find). f.owner) c.find-2.ensures in
    let more = count_insert owners.entries find.owner c.admit.new.self absent in
    let put : count_entries c.insert.new.self.entries ≡ count_entries (insert_entry name_eq owners.entries find.owner c.admit.new.self) =
    ap count_entries c.in_ok-insert.ensures.entries ∙ ap (λ (n : Labels). count_entries (insert_entry name_eq owners.entries n c.admit.new.self)) name in
    record {
      counted = omega (arith, more, put, c.requires.index.0.counted, c.counted-counted.ensures);
      most = omega (arith, has, c.new-cells.ensures.count, c.admit.ensures.adds.count, c.counted-counted.ensures);
      pairs = pairs_added owners owners c.insert.new.self find.owner c.in_ok-owner.owner c.admit.new.self refl (c.in_ok-owner.ensures ∙ ap (λ (f : Find). f.owner) c.find-2.ensures) c.in_ok-insert.ensures.updates find.scope
          (λ scope had. ap (λ b. scope_eq find.scope scope || b) (none scope) ∙ c.admit.ensures.adds.places scope had);
      others = stays_put find.owner owners.entries c.admit.new.self absent c.insert.new.self.entries
          (c.in_ok-insert.ensures.entries ∙ ap (λ (n : Labels). insert_entry name_eq owners.entries n c.admit.new.self) (c.in_ok-owner.ensures ∙ ap (λ (f : Find). f.owner) c.find-2.ensures));
    }

pub admit-result-requires : goal.admit-result-requires
admit-result-requires c =
    let owners = c.args.owners.now in
    let find = c.args.find in
    let key = c.pair_mut-cells.result.0.now in
    let lent = c.pair_mut-cells.result.1.now in
    let there = found owners find.owner c.in-Some.place key lent (sym c.in-Some.is ∙ c.requires.index.1) c.pair_mut-cells.ensures.value c.pair_mut-cells.ensures.unique in
    record { upto = subst (λ (o : Option OwnerCells). IfSome o (IsUpTo c.args.top)) there.held (c.requires.index.0.upto find.owner) }

pub returns-in_err-owner-clause-free : goal.returns-in_err-owner-clause-free
returns-in_err-owner-clause-free c = λ has.
    let owners = c.args.owners.now in
    let find = c.args.find in
    let gone : None ≡ c.args.place = grind (arith, common_steps) in
    let absent : get name_eq owners find.owner ≡ None = none_there (name_eq find.owner) owners.entries (gone ∙ c.requires.index.1) in
    absurd (false≢true (sym (ap (λ (o : Option OwnerCells). option_map_or (λ cells. has_place cells find.scope) o false) absent) ∙ has))

pub returns-in_err-admit-clause-free : goal.returns-in_err-admit-clause-free
returns-in_err-admit-clause-free c = λ has.
    let owners = c.args.owners.now in
    let find = c.args.find in
    let gone : None ≡ c.args.place = grind (arith, common_steps) in
    let absent : get name_eq owners find.owner ≡ None = none_there (name_eq find.owner) owners.entries (gone ∙ c.requires.index.1) in
    absurd (false≢true (sym (ap (λ (o : Option OwnerCells). option_map_or (λ cells. has_place cells find.scope) o false) absent) ∙ has))

pub returns-clause-upto : goal.returns-clause-upto
returns-clause-upto c = λ name.
    let owners = c.args.owners.now in
    let find = c.args.find in
    each_updated owners owners c.insert.new.self find.owner c.in_ok-owner.owner c.admit.new.self refl (c.in_ok-owner.ensures ∙ ap (λ (f : Find). f.owner) c.find-2.ensures) c.in_ok-insert.ensures.updates (IsUpTo c.args.top)
    (λ was. c.admit.ensures.upto) name (c.requires.index.0.upto name)

pub returns-clause-named : goal.returns-clause-named
returns-clause-named c = λ each.
    let owners = c.args.owners.now in
    let find = c.args.find in
    let new = c.admit.new.self in
    let one = admitted_count c.new-cells.result new find.scope c.args.top (admission_of find find c.args.moment) c.in_ok-admit.ensures.cells in
    subst (λ (l : List (Labels × OwnerCells)). EachCounts l) (sym c.in_ok-insert.ensures.entries) (each_put c.in_ok-owner.owner owners.entries new (one, c.admit.ensures.adds.tidy c.new-cells.ensures.tidy) each)
