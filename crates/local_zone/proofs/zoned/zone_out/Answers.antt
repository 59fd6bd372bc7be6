use Rattle.std.proofs.Common.{◌≡◌, ◌<◌, ℕ, List, length, Some, ap, sym, subst, ◌∙◌}
use Rattle.named_list.specs.Turn.{HasPlace}
use Rattle.named_list.specs.declared.turn.Turn.{Turn}
use Rattle.named_list.specs.declared.turn.Turn.TheVariants.{Without}
use Rattle.local_zone.specs.declared.zone.Zone.{Zone}
use Rattle.local_zone.specs.Zoned.{zone_out}
use Rattle.local_zone.proofs.OtherLaws.{item_at}
use Rattle.local_zone.proofs.zoned.zone_out.Goals as goal

within : (turn : Turn Zone) (zones : List Zone) (place : ℕ) → turn ≡ Without place → HasPlace (λ (z : Zone). z.name) turn zones → place < length zones
within turn zones place is fits = subst (λ (t : Turn Zone). HasPlace (λ (z : Zone). z.name) t zones) is fits

pub returns-in-Without : goal.returns-in-Without
returns-in-Without c =
    let zones : List Zone = c.args.zones.now in
    let inside = within c.args.turn.now zones c.in-Without.place c.in-Without.is c.requires in
    let found = item_at zones c.in-Without.place c.index-as_slice-place.result inside (rw c.as_slice.ensures.value at c.index-as_slice-place.is) in
    ap (λ z. Some z) c.get.ensures ∙ sym found ∙ ap (λ (t : Turn Zone). zone_out t zones) (sym c.in-Without.is)
