use Rattle.std.proofs.Common.{◌≡◌, ◌∙◌, Some, None, codes, List, Option, ap, map, option_map, rules, sym}
use Rattle.std.specs.List.{join_with_byte}
use Rattle.clap.specs.Walk.{Text, all_of}
use Rattle.resolver_args.specs.Given.{rows_in}
use Rattle.resolver_args.proofs.Giving.{texts_given}
use Rattle.resolver_args.proofs.args.line_in.Goals as goal

pub returns-in_ok-line_of-in-Some : goal.returns-in_ok-line_of-in-Some
returns-in_ok-line_of-in-Some c =
    let words = map (λ t. t.now) c.in-Some.words.now in
    let all : all_of (codes "LINE") (rows_in c.args.found.now) ≡ Some words = texts_given c.args.found.now (codes "LINE") (Some words) c.in-Some.ensures in
    let is : c.in_ok-line_of-in-Some.field-0.bytes.items ≡ join_with_byte 32 words = search rules in
    ap Some is ∙ sym (ap (λ (o : Option (List Text)). option_map (join_with_byte 32) o) all)

pub returns-in-None : goal.returns-in-None
returns-in-None c =
    let all : all_of (codes "LINE") (rows_in c.args.found.now) ≡ None = texts_given c.args.found.now (codes "LINE") None c.in-None.ensures in
    sym (ap (λ (o : Option (List Text)). option_map (join_with_byte 32) o) all)
