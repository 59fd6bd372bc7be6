use Rattle.std.proofs.Common.{◌≡◌, ℕ, true, false, length, map, sym, ap, ◌∙◌, subst, refl, arith, List}
use Rattle.std.specs.Prelude.{nat_lt}
use Rattle.std.specs.List.{AllByRecursion, list_any}
use Rattle.ranked.specs.declared.find.Find.{Find}
use Rattle.cell_store.specs.declared.version.Version.{Version}
use Rattle.cell_store.specs.Version.{IsFromStart}
use Rattle.cell_store.specs.Few.{contents, AreRanked, DoDiffer}
use Rattle.cell_store.specs.Slots.{version_of, IsWithin}
use Rattle.cell_store.specs.Column.{Cells, place_in, cells_of, has_find, is_counted}
use Rattle.cell_store.specs.Mixed.{is_mixed}
use Rattle.cell_store.specs.Sweep.{swept, version_swept}
use Rattle.cell_store.proofs.ColumnLaws.{few_finds, length_map, same_length}
use Rattle.cell_store.proofs.ForgetLaws.{seen_starts, starts_seen}
use Rattle.cell_store.proofs.CountLaws.{counted_seen}
use Rattle.cell_store.proofs.EntryLaws.{ranked_swept}
use Rattle.cell_store.proofs.MixedLaws.{one_differs}
use Rattle.cell_store.proofs.SweepLaws.{swept_within, swept_starts, even_place, even_seen, swept_finds}
use Rattle.cell_store.proofs.column.Column.sweep_even.Goals as goal

pub release-requires : goal.release-requires
release-requires c =
    let slots = length c.self.inside.finds in
    record {
      few = omega (arith, few_finds c.self.inside.versions.items slots c.self.invariant.named, c.self.invariant.short);
      within = subst (λ (l : List (Version ℕ)). AllByRecursion (IsWithin slots) l) (sym c.sweep_each.ensures) (swept_within c.args.moment slots c.self.inside.versions.items c.self.invariant.within);
    }

pub returns-clause-places : goal.returns-clause-places
returns-clause-places c =
    let finds = c.self.inside.finds in
    let old = cells_of c.self.inside.versions finds c.self.inside.upto in
    let new = cells_of c.release.new.versions c.release.new.finds c.self.inside.upto in
    subst (λ (was : Cells). (v : ℕ) → place_in new v ≡ swept c.args.moment (place_in was v)) c.self.view_is
    (even_place old new c.self.inside.versions.items c.release.new.versions.items finds c.release.new.finds c.args.moment refl refl refl (c.release.ensures.same ∙ ap (map (version_of finds)) c.sweep_each.ensures))

pub returns-clause-seen : goal.returns-clause-seen
returns-clause-seen c =
    let finds = c.self.inside.finds in
    let old = cells_of c.self.inside.versions finds c.self.inside.upto in
    let new = cells_of c.release.new.versions c.release.new.finds c.self.inside.upto in
    let same : map (version_of c.release.new.finds) c.release.new.versions.items ≡ map (version_of finds) (map (version_swept c.args.moment) c.self.inside.versions.items) = c.release.ensures.same ∙ ap (map (version_of finds)) c.sweep_each.ensures in
    let first = seen_starts finds (map (version_swept c.args.moment) c.self.inside.versions.items) (swept_starts c.args.moment c.self.inside.versions.items (starts_seen finds c.self.inside.versions.items c.self.invariant.starts)) in
    even_seen old new c.self.inside.versions.items c.release.new.versions.items finds c.release.new.finds c.args.moment refl refl refl same
    (subst (λ (l : List (Version Find)). IsFromStart l) (sym same) first) (ap is_mixed c.self.view_is ∙ c.requires.even)

pub returns-clause-counted : goal.returns-clause-counted
returns-clause-counted c = λ is.
    let finds = c.self.inside.finds in
    let versions = c.self.inside.versions.items in
    let each = map (version_swept c.args.moment) versions in
    let some : list_any has_find each ≡ true =
    sym (counted_seen finds each (swept_within c.args.moment (length finds) versions c.self.invariant.within)) ∙ (ap (list_any has_find) (sym (c.release.ensures.same ∙ ap (map (version_of finds)) c.sweep_each.ensures)) ∙ is) in
    sym (ap is_counted c.self.view_is) ∙ (counted_seen finds versions c.self.invariant.within ∙ swept_finds c.args.moment versions some)

pub invariant_of-self : goal.invariant_of-self
invariant_of-self c =
    let finds = c.self.inside.finds in
    let versions = c.self.inside.versions.items in
    let each = map (version_swept c.args.moment) versions in
    let few : nat_lt 1 (length each) ≡ false =
    ap (nat_lt 1) (length_map (version_swept c.args.moment) versions ∙ sym (length_map (version_of finds) versions)) ∙ (ap is_mixed c.self.view_is ∙ c.requires.even) in
    let lengths = same_length finds c.release.new.finds c.sweep_each.new.versions.items c.release.new.versions.items c.release.ensures.same in
    let first = seen_starts finds each (swept_starts c.args.moment versions (starts_seen finds versions c.self.invariant.starts)) in
    record {
      within = c.release.ensures.within;
      named = c.release.ensures.named;
      starts = subst (λ (l : List (Version Find)). IsFromStart l) (sym (c.release.ensures.same ∙ ap (map (version_of finds)) c.sweep_each.ensures)) first;
      ranked = c.release.ensures.ranked (subst (λ (l : List (Version ℕ)). AreRanked l) (sym c.sweep_each.ensures) (ranked_swept c.args.moment versions c.self.invariant.ranked));
      differ = c.release.ensures.differ (subst (λ (l : List (Version ℕ)). DoDiffer (contents l)) (sym c.sweep_each.ensures) (one_differs each few));
      short = omega (arith, lengths, ap length c.sweep_each.ensures, length_map (version_swept c.args.moment) versions, c.self.invariant.short);
    }
