use Rattle.std.proofs.Common.{◌≡◌, Some, None, cond, length, get_or, sym, ap, ◌∙◌, arith}
use Rattle.ranked.specs.declared.find.Find.{Find}
use Rattle.ranked.specs.Cell.{shown_at}
use Rattle.cell_store.specs.declared.version.Place.{Place}
use Rattle.cell_store.specs.Slots.{held_of}
use Rattle.cell_store.specs.Column.{sight_at}
use Rattle.cell_store.proofs.ColumnLaws.{seen_here, within_here, shown_within, shown_seen, dark_seen}
use Rattle.cell_store.proofs.column.Column.at.Goals as goal

pub returns-then-place : goal.returns-then-place
returns-then-place c =
    let place = c.place_at-place.result in
    let finds = c.self.inside.finds in
    let here = seen_here c.args.self.now c.self.inside.versions c.self.inside.finds c.self.inside.upto c.args.version c.deref.result.now place c.self.view_is c.if-self-version.false c.deref.ensures.0 c.place_at-place.ensures in
    sym (ap (λ (p : Place Find). sight_at p c.args.moment) here ∙ ap (λ b. cond b None (Some (shown_at (held_of finds place.cell.held) c.args.moment))) c.if-place.true)

pub get-requires : goal.get-requires
get-requires c =
    let place = c.place_at-place.result in
    let low = within_here c.self.inside.versions.items (length c.self.inside.finds) c.args.version c.deref.result.now place c.self.invariant.within c.deref.ensures.0 c.place_at-place.ensures in
    omega (arith, shown_within (length c.self.inside.finds) c.args.moment place.cell.held low c.in-Some.shown (sym c.in-Some.ensures.value))

pub returns-in-Some : goal.returns-in-Some
returns-in-Some c =
    let place = c.place_at-place.result in
    let finds = c.self.inside.finds in
    let here = seen_here c.args.self.now c.self.inside.versions c.self.inside.finds c.self.inside.upto c.args.version c.deref.result.now place c.self.view_is c.if-self-version.false c.deref.ensures.0 c.place_at-place.ensures in
    let low = within_here c.self.inside.versions.items (length finds) c.args.version c.deref.result.now place c.self.invariant.within c.deref.ensures.0 c.place_at-place.ensures in
    let slot : c.from.result ≡ c.in-Some.shown.body = cc in
    sym (ap (λ (p : Place Find). sight_at p c.args.moment) here ∙ (ap (λ b. cond b None (Some (shown_at (held_of finds place.cell.held) c.args.moment))) c.if-place.false
    ∙ ap Some (shown_seen finds c.args.moment place.cell.held low c.in-Some.shown (sym c.in-Some.ensures.value) c.get.result.now (c.get.ensures ∙ ap (λ slot. get_or finds slot c.get.result.now) slot)).1))

pub returns-in-None : goal.returns-in-None
returns-in-None c =
    let place = c.place_at-place.result in
    let finds = c.self.inside.finds in
    let here = seen_here c.args.self.now c.self.inside.versions c.self.inside.finds c.self.inside.upto c.args.version c.deref.result.now place c.self.view_is c.if-self-version.false c.deref.ensures.0 c.place_at-place.ensures in
    sym (ap (λ (p : Place Find). sight_at p c.args.moment) here ∙ (ap (λ b. cond b None (Some (shown_at (held_of finds place.cell.held) c.args.moment))) c.if-place.false
    ∙ ap Some (dark_seen finds c.args.moment place.cell.held (sym c.in-None.ensures.value))))
