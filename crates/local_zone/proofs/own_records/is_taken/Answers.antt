use Rattle.std.proofs.Common.{refl, ap, sym}
use Rattle.local_zone.specs.Gaps.{rest_of}
use Rattle.local_zone.specs.Index.{of_owner}
use Rattle.local_zone.proofs.OtherLaws.{all_left, first_goes, goes_so, own_left_is, tested}
use Rattle.local_zone.proofs.own_records.is_taken.Goals as goal

pub returns-in-Some : goal.returns-in-Some
returns-in-Some c =
    let zones = c.args.zones.now in
    let records = c.args.records.now in
    let gaps = c.args.gaps.now in
    let it = tested c.args.turn.now zones records (rest_of gaps records) c.requires.fits c.requires.removal in
    let passes = first_goes it gaps refl c.requires.within c.requires.apart c.in-Some.first.now c.in-Some.ensures in
    own_left_is it c.goes_with.result c.args.owner.now
    (goes_so it c.takes_out.result c.goes_with.result c.in-Some.first.now c.args.owner.now c.takes_out.ensures c.goes_with.ensures.zone c.goes_with.ensures.owner passes)

pub returns-in-None : goal.returns-in-None
returns-in-None c = ap (of_owner c.args.owner.now) (sym (all_left c.args.gaps.now c.args.records.now c.requires.within c.in-None.ensures))
