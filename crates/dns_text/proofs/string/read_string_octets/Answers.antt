use Rattle.std.proofs.Common.{◌≡◌, length, sym, ◌∙◌, arith}
use Rattle.std.proofs.lemmas.Bool.Decides.{nat_tests}
use Rattle.dns_text.proofs.StringLaws.{octets_end}
use Rattle.dns_text.proofs.string.read_string_octets.Goals as goal

pub returns : goal.returns
returns c =
    let none : length c.loop-rest.rest.now ≡ 0 = grind (arith, nat_tests) in
    sym (octets_end _ _ none) ∙ c.loop-rest.invariant
