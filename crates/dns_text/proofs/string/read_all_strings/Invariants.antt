use Rattle.std.proofs.Common.{[], length}
use Rattle.dns_text.specs.String.{strings_after}
use Rattle.dns_text.specs.Strings.{AreStrings, strings_of}
use Rattle.dns_text.proofs.StringLaws.{Told}
use Rattle.dns_text.proofs.string.read_all_strings.Given as goal

abbrev pub invariant-loop-word : goal.invariant-loop-word
invariant-loop-word l = record {
  told : Told (strings_of l.octets.items) l.rest (strings_after [] (length l.text) l.text);
  are : AreStrings l.octets.items;
}

abbrev pub decreases-loop-word : goal.decreases-loop-word
decreases-loop-word l = length l.rest
