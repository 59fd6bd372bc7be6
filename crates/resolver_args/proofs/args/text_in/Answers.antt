use Rattle.std.proofs.Common.{◌≡◌, ◌∙◌, Some, None, ap, rules}
use Rattle.clap.specs.Matches.{first_value, found_of}
use Rattle.resolver_args.proofs.Giving.{text_is}
use Rattle.resolver_args.proofs.args.text_in.Goals as goal

pub returns-in_ok-from_str-in-Some : goal.returns-in_ok-from_str-in-Some
returns-in_ok-from_str-in-Some c =
    let some : first_value (found_of c.args.found.now) c.args.name.now ≡ Some c.in-Some.text.now = search rules in
    let is : c.in_ok-from_str-in-Some.field-0.bytes.items ≡ c.in-Some.text.now = search rules in
    ap Some is ∙ text_is c.args.found.now c.args.name.now (Some c.in-Some.text.now) some

pub returns-in-None : goal.returns-in-None
returns-in-None c =
    let none : first_value (found_of c.args.found.now) c.args.name.now ≡ None = search rules in
    text_is c.args.found.now c.args.name.now None none
