use Rattle.std.proofs.Common.{◌≡◌, [], length}
use Rattle.std.specs.List.{slice_split}
use Rattle.dns_text.specs.Ipv6.{octets_after, is_colon}
use Rattle.dns_text.proofs.ipv6.read_some_groups.Given as goal

abbrev pub invariant-loop-word : goal.invariant-loop-word
invariant-loop-word l = octets_after l.octets.items (slice_split is_colon l.rest) ≡ octets_after [] (slice_split is_colon l.text)

abbrev pub decreases-loop-word : goal.decreases-loop-word
decreases-loop-word l = length l.rest
