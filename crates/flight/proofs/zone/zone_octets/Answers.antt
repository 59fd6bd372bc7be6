use Rattle.std.proofs.Common.{◌≡◌, ◌∙◌, ◌+◌, ◌-◌, ℕ, List, ap, arith, drop, length, sym, take}
use Rattle.std.proofs.lemmas.List.{length-drop, length-take-le, take_all}
use Rattle.flight.specs.Zones.{label_end}
use Rattle.flight.proofs.Zones.{first_within, zone_cut, zone_within}
use Rattle.flight.proofs.zone.zone_octets.Goals as goal

-- The rest of the octets, from the first label on, is not cut.
rest_end : (octets : List ℕ) (first second : ℕ) → second ≡ label_end (take (length octets - first) (drop first octets)) → second ≡ label_end (drop first octets)
rest_end octets first second is = is ∙ ap label_end (take_all (length octets - first) (drop first octets) (omega (arith, length-drop first octets)))

pub slice_bounds-first_len-count : goal.slice_bounds-first_len-count
slice_bounds-first_len-count c = first_within c.args.name.now c.octets-octets.result.now c.octets-octets.ensures.value c.first_len-first.result c.first_len-first.ensures

pub slice_bounds-first_len-start : goal.slice_bounds-first_len-start
slice_bounds-first_len-start c = first_within c.args.name.now c.octets-octets.result.now c.octets-octets.ensures.value c.first_len-first.result c.first_len-first.ensures

pub overflow_add-result : goal.overflow_add-result
overflow_add-result c =
    let octets = c.octets-octets.result.now in
    let first = c.first_len-first.result in
    let second = c.first_len-second.result in
    omega (arith, zone_within c.args.name.now octets c.octets-octets.ensures.value first second c.first_len-first.ensures (rest_end octets first second c.first_len-second.ensures), c.octets-octets.ensures.spelled.short)

pub slice_bounds-result-end : goal.slice_bounds-result-end
slice_bounds-result-end c =
    let octets = c.octets-octets.result.now in
    let first = c.first_len-first.result in
    let second = c.first_len-second.result in
    sym (length-take-le (first + second) octets (zone_within c.args.name.now octets c.octets-octets.ensures.value first second c.first_len-first.ensures (rest_end octets first second c.first_len-second.ensures)))

pub returns : goal.returns
returns c =
    let octets = c.octets-octets.result.now in
    let first = c.first_len-first.result in
    let second = c.first_len-second.result in
    zone_cut c.args.name.now octets c.octets-octets.ensures.value first second c.first_len-first.ensures (rest_end octets first second c.first_len-second.ensures)
