use Rattle.std.proofs.Common.{◌≡◌, fold, drop}
use Rattle.local_zone.specs.Tag.{tag_with}
use Rattle.local_zone.proofs.tag.tag_in.Given as goal

abbrev pub invariant-loop-octet : goal.invariant-loop-octet
invariant-loop-octet l = fold tag_with l.tag (drop l.octet-index l.octets) ≡ fold tag_with 0 l.octets
