use Rattle.std.specs.List.{list_any}
use Rattle.cell_store.specs.Count.{has_find, is_counted}
use Rattle.cell_store.proofs.CountLaws.{counted_seen}
use Rattle.std.proofs.Common.{◌≡◌, ◌≤◌, ℕ, true, max, List, length, refl, sym, ap, ◌∙◌, subst, arith}
use Rattle.ranked.specs.declared.find.Find.{Find}
use Rattle.cell_store.specs.declared.version.Version.{Version}
use Rattle.cell_store.specs.Version.{IsFromStart}
use Rattle.cell_store.specs.Column.{Cells, cells_of, place_in}
use Rattle.cell_store.proofs.ColumnLaws.{few_finds, same_length}
use Rattle.cell_store.proofs.ForgetLaws.{forgotten, seen_starts, starts_seen}
use Rattle.cell_store.proofs.column.Column.forget_before.Goals as goal

pub forget_before-requires : goal.forget_before-requires
forget_before-requires c = record { starts = starts_seen c.self.inside.finds c.self.inside.versions.items c.self.invariant.starts }

pub release-requires : goal.release-requires
release-requires c = record {
  few = omega (arith, few_finds c.self.inside.versions.items (length c.self.inside.finds) c.self.invariant.named, c.self.invariant.short);
  within = c.forget_before.ensures.drops.within (length c.self.inside.finds) c.self.invariant.within;
}

pub invariant_of-self : goal.invariant_of-self
invariant_of-self c =
    let lengths = same_length c.self.inside.finds c.release.new.finds c.forget_before.new.versions.items c.release.new.versions.items c.release.ensures.same in
    record {
      within = c.release.ensures.within;
      named = c.release.ensures.named;
      ranked = c.release.ensures.ranked (c.forget_before.ensures.drops.ranked c.self.invariant.ranked);
      differ = c.release.ensures.differ (c.forget_before.ensures.differ c.self.invariant.differ);
      short = omega (arith, lengths, c.forget_before.ensures.drops.fewer, c.self.invariant.short);
      starts = subst (λ (l : List (Version Find)). IsFromStart l) (sym c.release.ensures.same) (seen_starts c.self.inside.finds c.forget_before.new.versions.items c.forget_before.ensures.starts.0);
    }

pub returns : goal.returns
returns c =
    let finds = c.self.inside.finds in
    let forgot = c.forget_before.new.versions.items in
    let low : c.args.number ≤ c.self.inside.upto = omega (arith, ap (λ (s : Cells). s.upto) c.self.view_is) in
    record {
      places = subst (λ (old : Cells). (v : ℕ) → place_in (cells_of c.release.new.versions c.release.new.finds c.self.inside.upto) v ≡ place_in old (max c.args.number v)) c.self.view_is
          (forgotten (cells_of c.self.inside.versions finds c.self.inside.upto) c.self.inside.versions.items forgot c.release.new.versions.items finds c.release.new.finds c.args.number
          (cells_of c.release.new.versions c.release.new.finds c.self.inside.upto) refl refl refl low c.forget_before.ensures.places c.release.ensures.same);
      upto = ap (λ (s : Cells). s.upto) c.self.view_is;
      counted = λ is.
          let old = counted_seen finds c.self.inside.versions.items c.self.invariant.within in
          let new = counted_seen finds forgot (c.forget_before.ensures.drops.within (length finds) c.self.invariant.within) in
          let here : list_any has_find forgot ≡ true = sym new ∙ (ap (list_any has_find) (sym c.release.ensures.same) ∙ is) in
          sym (ap is_counted c.self.view_is) ∙ (old ∙ c.forget_before.ensures.drops.finds here);
    }
