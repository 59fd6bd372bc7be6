use Rattle.std.proofs.Common.{◌≡◌, List, [], ◌∷◌, length, true, false, slice_get, None, refl, ap, sym, ◌∙◌, arith}
use Rattle.std.specs.Option.{option_map}
use Rattle.dns_name.specs.Labels.{Labels}
use Rattle.named_list.specs.Turn.{other_of}
use Rattle.local_zone.specs.declared.taken.Taken.{Taken}
use Rattle.local_zone.specs.Closest.{closest}
use Rattle.local_zone.specs.Count.{count_of, same_zone}
use Rattle.local_zone.specs.Gaps.{records_of}
use Rattle.std.proofs.lemmas.List.{length-map}
use Rattle.local_zone.proofs.OtherLaws.{count_back_is, few_back}
use Rattle.local_zone.proofs.other_counts.count_back.Goals as goal

empty_list : {X : Type 0} (xs : List X) → None ≡ slice_get xs 0 → xs ≡ []
empty_list [] e = refl
empty_list (x ∷ xs) e = absurd cc

pub returns-in_default : goal.returns-in_default
returns-in_default c records apart removal =
    let zones = other_of c.args.turn.now c.args.zones.now in
    let none : c.args.removed.now ≡ [] = empty_list c.args.removed.now (sym (ap (λ r. option_map (λ t. t.now) r) c.in_default.is) ∙ c.first.ensures.value ∙ ap (λ (ts : List Taken). slice_get ts 0) c.as_slice-all.ensures) in
    sym (ap (λ (ts : List Taken). count_of zones c.args.name.now (records_of ts)) none)

pub returns-then-share_zone : goal.returns-then-share_zone
returns-then-share_zone c records apart removal =
    let zones = other_of c.args.turn.now c.args.zones.now in
    let name = c.args.name.now in
    let taken : List Taken = c.args.removed.now in
    let head = ap (option_map (λ (t : Taken). t.item.owner)) (c.in-Some.ensures.value ∙ ap (λ (ts : List Taken). slice_get ts 0) c.as_slice-all.ensures) in
    let same = sym c.if-share_zone.true ∙ c.share_zone.ensures ∙ ap (λ (o : Labels). same_zone (closest zones name) (closest zones o)) c.owner.ensures in
    let are = count_back_is zones name taken records c.args.zones.now c.in-Some.first.now.item.owner true head apart removal same in
    omega (
      arith,
      are,
      few_back zones name (records_of taken),
      length-map taken (λ (t : Taken). t.item),
      ap (λ (ts : List Taken). length ts) c.as_slice-all.ensures,
      c.count_of-own.ensures,
      c.count_below.ensures,
      c.saturating_add.ensures,
    )

pub returns : goal.returns
returns c records apart removal =
    let zones = other_of c.args.turn.now c.args.zones.now in
    let name = c.args.name.now in
    let taken : List Taken = c.args.removed.now in
    let head = ap (option_map (λ (t : Taken). t.item.owner)) (c.in-Some.ensures.value ∙ ap (λ (ts : List Taken). slice_get ts 0) c.as_slice-all.ensures) in
    let same = sym c.if-share_zone.false ∙ c.share_zone.ensures ∙ ap (λ (o : Labels). same_zone (closest zones name) (closest zones o)) c.owner.ensures in
    sym (count_back_is zones name taken records c.args.zones.now c.in-Some.first.now.item.owner false head apart removal same)
