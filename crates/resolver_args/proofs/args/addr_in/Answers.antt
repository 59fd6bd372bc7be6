use Rattle.std.proofs.Common.{◌≡◌, Some, None, rules, inr}
use Rattle.std.proofs.lemmas.Result.{IfErr-weaker, IfOk-weaker}
use Rattle.clap.specs.Matches.{first_value, found_of}
use Rattle.resolver_args.proofs.Giving.{no_text, text_gives, text_lacks, word_refuses}
use Rattle.resolver_args.proofs.args.addr_in.Goals as goal

pub returns-in-None-clause-fault : goal.returns-in-None-clause-fault
returns-in-None-clause-fault c =
    let none : first_value (found_of c.args.found.now) c.args.name.now ≡ None = search rules in
    inr (c.unfit.ensures, no_text c.args.found.now c.args.name.now none)

pub returns-in-Some-clause-given : goal.returns-in-Some-clause-given
returns-in-Some-clause-given c =
    let some : first_value (found_of c.args.found.now) c.args.name.now ≡ Some c.in-Some.text.now = search rules in
    IfOk-weaker c.addr_of.result _ _ (λ addr is. text_gives c.args.found.now c.args.name.now c.in-Some.text.now addr some is) c.addr_of.ensures.given

pub returns-in-Some-clause-fault : goal.returns-in-Some-clause-fault
returns-in-Some-clause-fault c =
    let some : first_value (found_of c.args.found.now) c.args.name.now ≡ Some c.in-Some.text.now = search rules in
    IfErr-weaker c.addr_of.result _ _
    (λ fault why. word_refuses c.args.shown.now c.in-Some.text.now fault (text_lacks c.args.found.now c.args.name.now c.in-Some.text.now some) why)
    c.addr_of.ensures.fault
