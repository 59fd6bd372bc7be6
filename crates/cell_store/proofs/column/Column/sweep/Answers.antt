use Rattle.std.proofs.Common.{◌≡◌, ℕ, true, length, map, sym, ap, ◌∙◌, subst, refl, arith, List}
use Rattle.std.specs.List.{AllByRecursion, list_any}
use Rattle.ranked.specs.declared.find.Find.{Find}
use Rattle.cell_store.specs.declared.version.Version.{Version}
use Rattle.cell_store.specs.Version.{place_at, IsFromStart}
use Rattle.cell_store.specs.Few.{AreRanked}
use Rattle.cell_store.specs.Slots.{IsWithin}
use Rattle.cell_store.specs.Column.{Cells, place_in, cells_of, has_find, is_counted}
use Rattle.cell_store.specs.Prune.{is_asked, pruned, IsLess}
use Rattle.cell_store.specs.Sweep.{swept, version_swept}
use Rattle.cell_store.proofs.ColumnLaws.{few_finds, same_length}
use Rattle.cell_store.proofs.ForgetLaws.{seen_starts, starts_seen}
use Rattle.cell_store.proofs.CountLaws.{counted_seen}
use Rattle.cell_store.proofs.EntryLaws.{ranked_swept, ranked_pruned, short}
use Rattle.cell_store.proofs.PruneLaws.{pruned_within, pruned_starts}
use Rattle.cell_store.proofs.SweepLaws.{swept_within, swept_starts, swept_place, sweep_place, sweep_seen, sweep_left, sweep_less, pruned_finds, swept_finds}
use Rattle.cell_store.proofs.column.Column.sweep.Goals as goal

pub release-requires : goal.release-requires
release-requires c =
    let slots = length c.self.inside.finds in
    let swept_in = subst (λ (l : List (Version ℕ)). AllByRecursion (IsWithin slots) l) (sym c.sweep_each.ensures) (swept_within c.args.moment slots c.self.inside.versions.items c.self.invariant.within) in
    let pruned_in = subst (λ (l : List (Version ℕ)). AllByRecursion (IsWithin slots) l) (sym c.prune.ensures) (pruned_within c.args.numbers.now c.self.inside.upto slots c.merge.new.versions.items (c.merge.ensures.drops.within slots swept_in)) in
    record {
      few = omega (arith, few_finds c.self.inside.versions.items slots c.self.invariant.named, c.self.invariant.short);
      within = c.merge-2.ensures.drops.within slots pruned_in;
    }

pub returns-clause-places : goal.returns-clause-places
returns-clause-places c =
    let old = cells_of c.self.inside.versions c.self.inside.finds c.self.inside.upto in
    let new = cells_of c.release.new.versions c.release.new.finds c.self.inside.upto in
    subst (λ (was : Cells). (v : ℕ) → is_asked c.args.numbers.now v ≡ true → place_in new v ≡ swept c.args.moment (place_in was v)) c.self.view_is
    (sweep_place old new c.self.inside.versions.items c.merge.new.versions.items c.merge-2.new.versions.items c.release.new.versions.items c.self.inside.finds c.release.new.finds c.args.numbers.now c.args.moment refl refl refl
    (λ v. c.merge.ensures.places v ∙ (ap (λ (l : List (Version ℕ)). place_at l v) c.sweep_each.ensures ∙ swept_place c.args.moment v c.self.inside.versions.items))
    (λ v. c.merge-2.ensures.places v ∙ ap (λ (l : List (Version ℕ)). place_at l v) c.prune.ensures) c.release.ensures.same)

pub returns-clause-left : goal.returns-clause-left
returns-clause-left c =
    let old = cells_of c.self.inside.versions c.self.inside.finds c.self.inside.upto in
    let new = cells_of c.release.new.versions c.release.new.finds c.self.inside.upto in
    subst (λ (was : Cells). (v : ℕ) → (place_in new v).left ≡ true → (place_in was v).left ≡ true) c.self.view_is
    (sweep_left old new c.self.inside.versions.items c.merge.new.versions.items c.merge-2.new.versions.items c.release.new.versions.items c.self.inside.finds c.release.new.finds c.args.numbers.now c.args.moment refl refl refl
    (λ v. c.merge.ensures.places v ∙ (ap (λ (l : List (Version ℕ)). place_at l v) c.sweep_each.ensures ∙ swept_place c.args.moment v c.self.inside.versions.items))
    (λ v. c.merge-2.ensures.places v ∙ ap (λ (l : List (Version ℕ)). place_at l v) c.prune.ensures) c.release.ensures.same)

pub returns-clause-less : goal.returns-clause-less
returns-clause-less c =
    let old = cells_of c.self.inside.versions c.self.inside.finds c.self.inside.upto in
    let new = cells_of c.release.new.versions c.release.new.finds c.self.inside.upto in
    subst (λ (was : Cells). (v : ℕ) → IsLess (place_in new v) (swept c.args.moment (place_in was v))) c.self.view_is
    (sweep_less old new c.self.inside.versions.items c.merge.new.versions.items c.merge-2.new.versions.items c.release.new.versions.items c.self.inside.finds c.release.new.finds c.args.numbers.now c.args.moment refl refl refl
    (λ v. c.merge.ensures.places v ∙ (ap (λ (l : List (Version ℕ)). place_at l v) c.sweep_each.ensures ∙ swept_place c.args.moment v c.self.inside.versions.items))
    (λ v. c.merge-2.ensures.places v ∙ ap (λ (l : List (Version ℕ)). place_at l v) c.prune.ensures) c.release.ensures.same)

pub returns-clause-seen : goal.returns-clause-seen
returns-clause-seen c =
    let slots = length c.self.inside.finds in
    let old = cells_of c.self.inside.versions c.self.inside.finds c.self.inside.upto in
    let new = cells_of c.release.new.versions c.release.new.finds c.self.inside.upto in
    let swept_in = subst (λ (l : List (Version ℕ)). AllByRecursion (IsWithin slots) l) (sym c.sweep_each.ensures) (swept_within c.args.moment slots c.self.inside.versions.items c.self.invariant.within) in
    let pruned_in = subst (λ (l : List (Version ℕ)). AllByRecursion (IsWithin slots) l) (sym c.prune.ensures) (pruned_within c.args.numbers.now c.self.inside.upto slots c.merge.new.versions.items (c.merge.ensures.drops.within slots swept_in)) in
    sweep_seen old new c.self.inside.versions.items c.merge.new.versions.items c.merge-2.new.versions.items c.release.new.versions.items c.self.inside.finds c.release.new.finds c.args.numbers.now c.args.moment refl refl refl
    (λ v. c.merge.ensures.places v ∙ (ap (λ (l : List (Version ℕ)). place_at l v) c.sweep_each.ensures ∙ swept_place c.args.moment v c.self.inside.versions.items))
    (λ v. c.merge-2.ensures.places v ∙ ap (λ (l : List (Version ℕ)). place_at l v) c.prune.ensures) c.release.ensures.same
    (subst (λ (l : List (Version ℕ)). AllByRecursion (IsWithin slots) l) c.prune.ensures pruned_in)
    (c.merge-2.ensures.drops.within slots pruned_in)
    (λ some. ap (list_any has_find) (sym c.prune.ensures) ∙ c.merge-2.ensures.drops.finds some)

pub returns-clause-counted : goal.returns-clause-counted
returns-clause-counted c = λ is.
    let finds = c.self.inside.finds in
    let slots = length finds in
    let swept_in = subst (λ (l : List (Version ℕ)). AllByRecursion (IsWithin slots) l) (sym c.sweep_each.ensures) (swept_within c.args.moment slots c.self.inside.versions.items c.self.invariant.within) in
    let pruned_in = subst (λ (l : List (Version ℕ)). AllByRecursion (IsWithin slots) l) (sym c.prune.ensures) (pruned_within c.args.numbers.now c.self.inside.upto slots c.merge.new.versions.items (c.merge.ensures.drops.within slots swept_in)) in
    let merged : list_any has_find c.merge-2.new.versions.items ≡ true = sym (counted_seen finds c.merge-2.new.versions.items (c.merge-2.ensures.drops.within slots pruned_in)) ∙ (ap (list_any has_find) (sym c.release.ensures.same) ∙ is) in
    let kept : list_any has_find (pruned c.args.numbers.now c.self.inside.upto c.merge.new.versions.items) ≡ true = ap (list_any has_find) (sym c.prune.ensures) ∙ c.merge-2.ensures.drops.finds merged in
    let some : list_any has_find (map (version_swept c.args.moment) c.self.inside.versions.items) ≡ true =
    ap (list_any has_find) (sym c.sweep_each.ensures) ∙ c.merge.ensures.drops.finds (pruned_finds c.args.numbers.now c.self.inside.upto c.merge.new.versions.items kept) in
    sym (ap is_counted c.self.view_is) ∙ (counted_seen finds c.self.inside.versions.items c.self.invariant.within ∙ swept_finds c.args.moment c.self.inside.versions.items some)

pub invariant_of-self : goal.invariant_of-self
invariant_of-self c =
    let finds = c.self.inside.finds in
    let lengths = same_length finds c.release.new.finds c.merge-2.new.versions.items c.release.new.versions.items c.release.ensures.same in
    let first : IsFromStart c.sweep_each.new.versions.items = subst (λ (l : List (Version ℕ)). IsFromStart l) (sym c.sweep_each.ensures)
    (swept_starts c.args.moment c.self.inside.versions.items (starts_seen finds c.self.inside.versions.items c.self.invariant.starts)) in
    let after : IsFromStart c.prune.new.versions.items = subst (λ (l : List (Version ℕ)). IsFromStart l) (sym c.prune.ensures)
    (pruned_starts c.args.numbers.now c.self.inside.upto c.merge.new.versions.items (c.merge.ensures.starts first)) in
    let swept_ranked : AreRanked c.sweep_each.new.versions.items = subst (λ (l : List (Version ℕ)). AreRanked l) (sym c.sweep_each.ensures) (ranked_swept c.args.moment c.self.inside.versions.items c.self.invariant.ranked) in
    let pruned_ranked : AreRanked c.prune.new.versions.items = subst (λ (l : List (Version ℕ)). AreRanked l) (sym c.prune.ensures)
    (ranked_pruned c.args.numbers.now c.self.inside.upto c.merge.new.versions.items (c.merge.ensures.differ swept_ranked) (c.merge.ensures.drops.ranked swept_ranked)) in
    record {
      within = c.release.ensures.within;
      named = c.release.ensures.named;
      starts = subst (λ (l : List (Version Find)). IsFromStart l) (sym c.release.ensures.same) (seen_starts finds c.merge-2.new.versions.items (c.merge-2.ensures.starts after));
      ranked = c.release.ensures.ranked (c.merge-2.ensures.drops.ranked pruned_ranked);
      differ = c.release.ensures.differ (c.merge-2.ensures.differ pruned_ranked);
      short = omega (arith, lengths, short c.merge-2.new.versions.items (c.merge-2.ensures.drops.ranked pruned_ranked) (c.merge-2.ensures.differ pruned_ranked));
    }
