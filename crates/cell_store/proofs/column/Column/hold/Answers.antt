use Rattle.std.proofs.Common.{◌≡◌, ◌≤◌, ◌<◌, ℕ, true, List, length, map, get_or, refl, sym, ap, ◌∙◌, subst, arith, length-append, [], ◌∷◌}
use Rattle.std.specs.List.{AllByRecursion}
use Rattle.ranked.specs.declared.find.Find.{Find}
use Rattle.ranked.specs.Find.{admission_of}
use Rattle.ranked.specs.Rank.{level_of}
use Rattle.cell_store.specs.declared.version.Version.{Version}
use Rattle.cell_store.specs.Version.{after_find, place_at, IsFromStart}
use Rattle.cell_store.specs.Few.{AreRanked}
use Rattle.cell_store.specs.Slots.{version_of, IsWithin}
use Rattle.cell_store.specs.Column.{Cells, place_in, cells_of}
use Rattle.cell_store.proofs.ColumnLaws.{few_finds, admit_seen, admit_within, lent_is, still_starts, same_length, same_seen, reached_within, reached_seen, reached_starts, hold_places, hold_left}
use Rattle.cell_store.proofs.EntryLaws.{ranked_reached, ranked_after, short}
use Rattle.cell_store.proofs.ForgetLaws.{seen_starts, starts_seen}
use Rattle.cell_store.proofs.column.Column.hold.Goals as goal

pub reach-requires : goal.reach-requires
reach-requires c = omega (arith, c.self.invariant.short)

pub push-requires : goal.push-requires
push-requires c = omega (arith, few_finds c.self.inside.versions.items (length c.self.inside.finds) c.self.invariant.named, c.self.invariant.short)

pub overflow_cast-slot : goal.overflow_cast-slot
overflow_cast-slot c = omega (arith, few_finds c.self.inside.versions.items (length c.self.inside.finds) c.self.invariant.named, c.self.invariant.short, c.len-slot.ensures)

pub release-requires : goal.release-requires
release-requires c =
    let slots = length c.self.inside.finds in
    let within : AllByRecursion (IsWithin slots) c.reach.new.versions.items =
    subst (λ (l : List (Version ℕ)). AllByRecursion (IsWithin slots) l) (sym c.reach.ensures) (reached_within slots c.self.inside.upto c.args.top c.self.inside.versions.items c.self.invariant.within) in
    record {
      few = omega (arith, few_finds c.self.inside.versions.items slots c.self.invariant.named, c.self.invariant.short, ap length c.push.ensures, length-append c.self.inside.finds (c.args.find ∷ []));
      within = c.merge.ensures.drops.within (length c.push.new.self) (admit_within c.self.inside.finds c.push.new.self c.reach.new.versions.items c.admit_each.new.versions.items c.args.find c.find.result.now c.len-slot.result c.args.moment c.args.outranked
          within (omega arith) c.push.ensures c.admit_each.ensures);
    }

pub returns-clause-places : goal.returns-clause-places
returns-clause-places c =
    let slots = length c.self.inside.finds in
    let within : AllByRecursion (IsWithin slots) c.reach.new.versions.items =
    subst (λ (l : List (Version ℕ)). AllByRecursion (IsWithin slots) l) (sym c.reach.ensures) (reached_within slots c.self.inside.upto c.args.top c.self.inside.versions.items c.self.invariant.within) in
    let seen = admit_seen c.self.inside.finds c.push.new.self c.push.new.self c.reach.new.versions.items c.admit_each.new.versions.items c.admit_each.new.versions.items
    c.args.find c.find.result.now c.len-slot.result c.args.moment c.args.outranked within (omega arith) c.push.ensures (c.find.ensures ∙ (c.get.ensures ∙ ap (get_or c.push.new.self c.len-slot.result) (sym c.find.ensures))) c.admit_each.ensures refl in
    let is = same_seen c.push.new.self c.release.new.finds c.admit_each.new.versions.items c.merge.new.versions.items c.release.new.versions.items c.release.ensures.same c.merge.ensures.places in
    let finds = c.self.inside.finds in
    subst (λ (old : Cells). (v : ℕ) → v ≤ c.args.top → place_in (cells_of c.release.new.versions c.release.new.finds c.args.top) v ≡ after_find (admission_of c.args.find c.args.find c.args.moment) c.args.outranked (place_in old v)) c.self.view_is
    (hold_places (cells_of c.self.inside.versions c.self.inside.finds c.self.inside.upto) (cells_of c.release.new.versions c.release.new.finds c.args.top) c.args.top (map (version_of finds) c.reach.new.versions.items) c.args.find c.args.moment c.args.outranked refl
    (omega (arith, ap (λ (s : Cells). s.upto) c.self.view_is, c.requires.upto))
    (ap (map (version_of finds)) c.reach.ensures ∙ reached_seen finds c.self.inside.upto c.args.top c.self.inside.versions.items) c.self.invariant.starts
    (λ v. is v ∙ ap (λ (l : List (Version Find)). place_at l v) seen))

pub returns-clause-left : goal.returns-clause-left
returns-clause-left c =
    let slots = length c.self.inside.finds in
    let within : AllByRecursion (IsWithin slots) c.reach.new.versions.items =
    subst (λ (l : List (Version ℕ)). AllByRecursion (IsWithin slots) l) (sym c.reach.ensures) (reached_within slots c.self.inside.upto c.args.top c.self.inside.versions.items c.self.invariant.within) in
    let seen = admit_seen c.self.inside.finds c.push.new.self c.push.new.self c.reach.new.versions.items c.admit_each.new.versions.items c.admit_each.new.versions.items
    c.args.find c.find.result.now c.len-slot.result c.args.moment c.args.outranked within (omega arith) c.push.ensures (c.find.ensures ∙ (c.get.ensures ∙ ap (get_or c.push.new.self c.len-slot.result) (sym c.find.ensures))) c.admit_each.ensures refl in
    let is = same_seen c.push.new.self c.release.new.finds c.admit_each.new.versions.items c.merge.new.versions.items c.release.new.versions.items c.release.ensures.same c.merge.ensures.places in
    let finds = c.self.inside.finds in
    let new = cells_of c.release.new.versions c.release.new.finds c.args.top in
    subst (λ (was : Cells). (v : ℕ) → (place_in new v).left ≡ true → (place_in was v).left ≡ true) c.self.view_is
    (hold_left (cells_of c.self.inside.versions c.self.inside.finds c.self.inside.upto) new c.args.top (map (version_of finds) c.reach.new.versions.items) c.args.find c.args.moment c.args.outranked refl
    (omega (arith, ap (λ (s : Cells). s.upto) c.self.view_is, c.requires.upto))
    (ap (map (version_of finds)) c.reach.ensures ∙ reached_seen finds c.self.inside.upto c.args.top c.self.inside.versions.items) c.self.invariant.starts
    (λ v. is v ∙ ap (λ (l : List (Version Find)). place_at l v) seen))

pub invariant_of-self : goal.invariant_of-self
invariant_of-self c =
    let finds = c.self.inside.finds in
    let slots = length finds in
    let within : AllByRecursion (IsWithin slots) c.reach.new.versions.items =
    subst (λ (l : List (Version ℕ)). AllByRecursion (IsWithin slots) l) (sym c.reach.ensures) (reached_within slots c.self.inside.upto c.args.top c.self.inside.versions.items c.self.invariant.within) in
    let lent : c.find.result.now ≡ get_or c.push.new.self c.len-slot.result c.find.result.now = c.find.ensures ∙ (c.get.ensures ∙ ap (get_or c.push.new.self c.len-slot.result) (sym c.find.ensures)) in
    let seen = admit_seen finds c.push.new.self c.push.new.self c.reach.new.versions.items c.admit_each.new.versions.items c.admit_each.new.versions.items
    c.args.find c.find.result.now c.len-slot.result c.args.moment c.args.outranked within (omega arith) c.push.ensures lent c.admit_each.ensures refl in
    let lengths = same_length c.push.new.self c.release.new.finds c.merge.new.versions.items c.release.new.versions.items c.release.ensures.same in
    let first : IsFromStart c.reach.new.versions.items = subst (λ (l : List (Version ℕ)). IsFromStart l) (sym c.reach.ensures)
    (reached_starts c.self.inside.upto c.args.top c.self.inside.versions.items (starts_seen finds c.self.inside.versions.items c.self.invariant.starts)) in
    let after : IsFromStart (map (version_of c.push.new.self) c.admit_each.new.versions.items) = subst (λ (l : List (Version Find)). IsFromStart l) (sym seen)
    (still_starts (admission_of c.args.find c.args.find c.args.moment) c.args.outranked (map (version_of finds) c.reach.new.versions.items) (seen_starts finds c.reach.new.versions.items first)) in
    let same : c.find.result.now ≡ c.args.find = lent_is finds c.push.new.self c.args.find c.find.result.now c.len-slot.result (omega arith) c.push.ensures lent in
    let reached_ranked : AreRanked c.reach.new.versions.items = subst (λ (l : List (Version ℕ)). AreRanked l) (sym c.reach.ensures) (ranked_reached c.self.inside.upto c.args.top c.self.inside.versions.items c.self.invariant.ranked) in
    let afters : AreRanked c.admit_each.new.versions.items = subst (λ (l : List (Version ℕ)). AreRanked l) (sym c.admit_each.ensures)
    (ranked_after (admission_of c.find.result.now c.len-slot.result c.args.moment) c.args.outranked (λ out. subst (λ (f : Find). level_of f.rank < 4) (sym same) (c.requires.lower out)) c.reach.new.versions.items reached_ranked) in
    record {
      within = c.release.ensures.within;
      named = c.release.ensures.named;
      starts = subst (λ (l : List (Version Find)). IsFromStart l) (sym c.release.ensures.same)
          (seen_starts c.push.new.self c.merge.new.versions.items (c.merge.ensures.starts (starts_seen c.push.new.self c.admit_each.new.versions.items after)));
      ranked = c.release.ensures.ranked (c.merge.ensures.drops.ranked afters);
      differ = c.release.ensures.differ (c.merge.ensures.differ afters);
      short = omega (arith, lengths, short c.merge.new.versions.items (c.merge.ensures.drops.ranked afters) (c.merge.ensures.differ afters));
    }
