use Rattle.std.proofs.Common.{ℕ, List, [], ◌∷◌, length, sym, ap, ◌∙◌, arith}
use Rattle.std.specs.Prelude.{◌==◌, ◌&&◌}
use Rattle.std.specs.List.{list_any}
use Rattle.dns_name.specs.Below.{is_at_or_below}
use Rattle.dns_name.specs.Order.{name_eq}
use Rattle.ranked.specs.Flush.{covers}
use Rattle.ranked.specs.declared.flush.Reach.{Reach}
use Rattle.cell_store.specs.Owner.{after_settle}
use Rattle.dns_name.specs.Labels.{Labels}
use Rattle.shelf.specs.declared.settling.Settling.{Settling}
use Rattle.shelf.specs.Settling.{joined_to, joining}
use Rattle.shelf.proofs.FaceLaws.{covers_below, covers_name, covers_one}
use Rattle.shelf.proofs.LosingLaws.{lose_no_cells}
use Rattle.shelf.proofs.SettlingLaws.{doubt_items, doubt_moved, moved_like, moved_then}
use Rattle.shelf.proofs.flushing.settle_reach.Goals as goal

abbrev joins : (reach : Reach) (zone : Labels) (number names : ℕ) (was : List Settling) → List Settling
joins reach zone number names was = joined_to (joining reach zone number names) was

pub returns-in-OneType-clause-moved : goal.returns-in-OneType-clause-moved
returns-in-OneType-clause-moved c = λ top older upto is.
    let flush = c.args.flush in
    let was = c.args.settlings.now.items in
    let now = c.settle_zone.new.settlings.items in
    let owners = c.args.owners.now in
    let first = doubt_moved c.root.result top was now owners (c.settle_zone.ensures.moved top (omega arith) upto is) in
    moved_then (λ q v. after_settle (covers c.args.flush q) c.args.number v) top was now now owners owners c.settle_name.new.owners first
    (moved_like (λ q v. after_settle (name_eq c.args.flush.name q.owner && list_any (λ own. own == q.kind) (c.in-OneType.kind ∷ [])) c.args.number v) (λ q v. after_settle (covers c.args.flush q) c.args.number v) top now now
    owners c.settle_name.new.owners (λ q v. ap (λ b. after_settle b c.args.number v) (sym (covers_one flush c.in-OneType.kind q c.in-OneType.is))) (c.settle_name.ensures.moved now top first.upto first.settling))

pub returns-in-OneType-clause-lost : goal.returns-in-OneType-clause-lost
returns-in-OneType-clause-lost c = c.settle_name.ensures.lost

pub returns-in-OneType-clause-space : goal.returns-in-OneType-clause-space
returns-in-OneType-clause-space c = c.settle_zone.ensures.room

pub returns-in-OneType-clause-items : goal.returns-in-OneType-clause-items
returns-in-OneType-clause-items c =
    let names = length c.args.owners.now.entries in
    doubt_items c.root.result names c.args.settlings.now.items c.settle_zone.new.settlings.items c.root.ensures c.settle_zone.ensures.items
    ∙ ap (λ (r : Reach). joins r c.args.flush.name c.args.number names c.args.settlings.now.items) (sym c.in-OneType.is)

pub returns-in-Name-clause-moved : goal.returns-in-Name-clause-moved
returns-in-Name-clause-moved c = λ top older upto is.
    let flush = c.args.flush in
    let was = c.args.settlings.now.items in
    let now = c.settle_zone-in-Name.new.settlings.items in
    let owners = c.args.owners.now in
    let first = doubt_moved c.root-in-Name.result top was now owners (c.settle_zone-in-Name.ensures.moved top (omega arith) upto is) in
    moved_then (λ q v. after_settle (covers c.args.flush q) c.args.number v) top was now now owners owners c.settle_name-in-Name.new.owners first
    (moved_like (λ q v. after_settle (name_eq c.args.flush.name q.owner && list_any (λ own. own == q.kind) c.flushed_types.result) c.args.number v) (λ q v. after_settle (covers c.args.flush q) c.args.number v) top now now
    owners c.settle_name-in-Name.new.owners
    (λ q v.
    ap (λ (kinds : List ℕ). after_settle (name_eq c.args.flush.name q.owner && list_any (λ own. own == q.kind) kinds) c.args.number v) c.flushed_types.ensures
    ∙ ap (λ b. after_settle b c.args.number v) (sym (covers_name flush q c.in-Name.is)))
    (c.settle_name-in-Name.ensures.moved now top first.upto first.settling))

pub returns-in-Name-clause-lost : goal.returns-in-Name-clause-lost
returns-in-Name-clause-lost c = c.settle_name-in-Name.ensures.lost

pub returns-in-Name-clause-space : goal.returns-in-Name-clause-space
returns-in-Name-clause-space c = c.settle_zone-in-Name.ensures.room

pub returns-in-Name-clause-items : goal.returns-in-Name-clause-items
returns-in-Name-clause-items c =
    let names = length c.args.owners.now.entries in
    doubt_items c.root-in-Name.result names c.args.settlings.now.items c.settle_zone-in-Name.new.settlings.items c.root-in-Name.ensures c.settle_zone-in-Name.ensures.items
    ∙ ap (λ (r : Reach). joins r c.args.flush.name c.args.number names c.args.settlings.now.items) (sym c.in-Name.is)

pub returns-in-Zone-clause-moved : goal.returns-in-Zone-clause-moved
returns-in-Zone-clause-moved c = λ top older upto is.
    let flush = c.args.flush in
    moved_like (λ q v. after_settle (is_at_or_below q.owner flush.name) c.args.number v) (λ q v. after_settle (covers flush q) c.args.number v) top c.args.settlings.now.items c.settle_zone-in-Zone.new.settlings.items c.args.owners.now c.args.owners.now
    (λ q v. ap (λ b. after_settle b c.args.number v) (sym (covers_below flush q c.in-Zone.is))) (c.settle_zone-in-Zone.ensures.moved top older upto is)

pub returns-in-Zone-clause-lost : goal.returns-in-Zone-clause-lost
returns-in-Zone-clause-lost c = lose_no_cells c.args.owners.now c.args.stored.now c.args.ends.now c.requires.tallied.counted c.requires.tallied.size

pub returns-in-Zone-clause-space : goal.returns-in-Zone-clause-space
returns-in-Zone-clause-space c = c.settle_zone-in-Zone.ensures.room

pub returns-in-Zone-clause-items : goal.returns-in-Zone-clause-items
returns-in-Zone-clause-items c =
    c.settle_zone-in-Zone.ensures.items ∙ ap (λ (r : Reach). joins r c.args.flush.name c.args.number (length c.args.owners.now.entries) c.args.settlings.now.items) (sym c.in-Zone.is)
