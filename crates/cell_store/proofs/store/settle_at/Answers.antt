use Rattle.std.proofs.Common.{◌≡◌, true, false, max, cond, Option, refl, sym, ap, ◌∙◌, subst, arith}
use Rattle.std.specs.Prelude.{IfSome}
use Rattle.std.proofs.lemmas.Bool.{false≢true}
use Rattle.indexmap.specs.IndexMap.{IndexMap, with_value_at}
use Rattle.dns_name.specs.Labels.{Labels}
use Rattle.dns_name.specs.Below.{is_at_or_below}
use Rattle.cell_store.specs.declared.owner.OwnerCells.{OwnerCells}
use Rattle.cell_store.specs.declared.seed.NameSeed.{NameSeed}
use Rattle.cell_store.specs.Count.{stored_in}
use Rattle.cell_store.specs.Owner.{cell_in, CanSettle, IsUpTo}
use Rattle.cell_store.specs.Store.{GainNothing}
use Rattle.cell_store.specs.StoredLaws.{count_set_at, count_found_at}
use Rattle.cell_store.proofs.StoreLaws.{cells_at, each_at, pairs_at, put_back, stays_at}
use Rattle.cell_store.proofs.store.settle_at.Goals as goal

-- ---- a name that is not covered stays as it is

same : (c : goal.After-owners-1) → with_value_at c.args.owners.now c.args.place c.pair_mut-cells.result.1.now ≡ c.args.owners.now
same c = put_back c.args.owners.now c.args.place c.pair_mut-cells.result.0.now c.pair_mut-cells.result.1.now c.pair_mut-cells.ensures.value

off : (c : goal.After-owners-1) → is_at_or_below c.pair_mut-cells.result.0.now c.args.zone.now ≡ false
off c = sym c.at_or_below.ensures.value ∙ c.if-not-at_or_below.true

pub returns-then-not-at_or_below-clause-cells : goal.returns-then-not-at_or_below-clause-cells
returns-then-not-at_or_below-clause-cells c =
    let old = c.args.owners.now in
    let lent = c.pair_mut-cells.result.1.now in
    cells_at old (with_value_at old c.args.place lent) c.args.place c.pair_mut-cells.result.0.now lent lent c.pair_mut-cells.ensures.value refl c.args.zone.now c.args.number
    (λ top is k v. ap (λ b. cell_in lent k (cond b (max c.args.number v) v)) (sym (off c)))

pub returns-then-not-at_or_below-clause-gains : goal.returns-then-not-at_or_below-clause-gains
returns-then-not-at_or_below-clause-gains c =
    subst (λ (m : IndexMap Labels OwnerCells NameSeed). GainNothing c.args.owners.now m) (sym (same c)) (record { upto = λ top is. is; settles = λ number kind name is. is; pairs = λ pair has. has })

pub returns-then-not-at_or_below-clause-counted : goal.returns-then-not-at_or_below-clause-counted
returns-then-not-at_or_below-clause-counted c = (c.requires.counted ∙ ap stored_in (sym (same c)), omega arith)

pub returns-then-not-at_or_below-clause-entries : goal.returns-then-not-at_or_below-clause-entries
returns-then-not-at_or_below-clause-entries c = stays_at c.args.owners.now.entries c.args.place c.pair_mut-cells.result.1.now

pub returns-then-not-at_or_below-clause-covered : goal.returns-then-not-at_or_below-clause-covered
returns-then-not-at_or_below-clause-covered c = (
  subst (λ (o : Option (Labels × OwnerCells)). IfSome o (λ entry. false ≡ is_at_or_below entry.0 c.args.zone.now)) (sym c.pair_mut-cells.ensures.value) (sym (off c)),
  λ _. (same c, refl),
)

-- ---- a name that is covered

pub overflow_sub-others : goal.overflow_sub-others
overflow_sub-others c =
    omega (arith, count_found_at c.args.owners.now.entries c.args.place c.pair_mut-cells.result.0.now c.pair_mut-cells.result.1.now c.pair_mut-cells.ensures.value, c.requires.counted, c.counted.ensures)

on : (c : goal.After-owners-2-1) → is_at_or_below c.pair_mut-cells.result.0.now c.args.zone.now ≡ true
on c = sym c.at_or_below.ensures.value ∙ c.if-not-at_or_below.false

pub returns-clause-cells : goal.returns-clause-cells
returns-clause-cells c =
    let old = c.args.owners.now in
    let lent = c.pair_mut-cells.result.1.now in
    let new = c.settle_all.new.self in
    cells_at old (with_value_at old c.args.place new) c.args.place c.pair_mut-cells.result.0.now lent new c.pair_mut-cells.ensures.value refl c.args.zone.now c.args.number
    (λ top is k v. c.settle_all.ensures.cells top is k v ∙ ap (λ b. cell_in lent k (cond b (max c.args.number v) v)) (sym (on c)))

pub returns-clause-gains : goal.returns-clause-gains
returns-clause-gains c =
    let old = c.args.owners.now in
    let new = c.settle_all.new.self in
    let gains = c.settle_all.ensures.gains in
    let each = each_at old (with_value_at old c.args.place new) c.args.place c.pair_mut-cells.result.0.now c.pair_mut-cells.result.1.now new c.pair_mut-cells.ensures.value refl in
    record {
      upto = λ top is name. each (IsUpTo top) (gains.upto top) name (is name);
      settles = λ number kind name is. each (CanSettle number kind) (gains.settles number kind) name is;
      pairs = pairs_at old (with_value_at old c.args.place new) c.args.place c.pair_mut-cells.result.0.now c.pair_mut-cells.result.1.now new c.pair_mut-cells.ensures.value refl gains.places;
    }

pub returns-clause-counted : goal.returns-clause-counted
returns-clause-counted c =
    let set = count_set_at c.args.owners.now.entries c.args.place c.pair_mut-cells.result.0.now c.pair_mut-cells.result.1.now c.settle_all.new.self c.pair_mut-cells.ensures.value in
    let found = count_found_at c.args.owners.now.entries c.args.place c.pair_mut-cells.result.0.now c.pair_mut-cells.result.1.now c.pair_mut-cells.ensures.value in (
      omega (arith, set, found, c.requires.counted, c.counted-2.ensures, c.counted.ensures),
      omega (arith, found, c.requires.counted, c.settle_all.ensures.gains.count, c.counted-2.ensures, c.counted.ensures),
    )

pub returns-clause-entries : goal.returns-clause-entries
returns-clause-entries c = stays_at c.args.owners.now.entries c.args.place c.settle_all.new.self

pub returns-clause-covered : goal.returns-clause-covered
returns-clause-covered c = (
  subst (λ (o : Option (Labels × OwnerCells)). IfSome o (λ entry. true ≡ is_at_or_below entry.0 c.args.zone.now)) (sym c.pair_mut-cells.ensures.value) (sym (on c)),
  λ no. absurd (false≢true (sym no)),
)
