use Rattle.std.proofs.Common.{◌<◌, List, ℕ, length, ap, ◌∙◌, arith}
use Rattle.std.proofs.lemmas.Bool.Decides.{nat_tests}
use Rattle.dns_text.specs.Strings.{strings_of}
use Rattle.dns_text.proofs.SpelledLaws.{sized_of}
use Rattle.dns_text.proofs.string.read_strings.Goals as goal

pub returns-clause-sized : goal.returns-clause-sized
returns-clause-sized c =
    let octets : List ℕ = c.in_ok-octets.octets.items in
    let some : 0 < length octets = grind (arith, nat_tests) in
    sized_of octets c.in_ok-of.field-0 c.in_ok-octets.ensures.are (c.in_ok-of.ensures ∙ ap (λ (x : List ℕ). strings_of x) c.deref.ensures.value) some
