use Rattle.std.proofs.Common.{length, sym}
use Rattle.std.proofs.lemmas.Bool.{eqb-true, eqb-false}
use Rattle.dns_wire.proofs.StringLaws.{txt_nothing, txt_spelled, txt_other}
use Rattle.dns_wire.proofs.read.rdata.txt_at.Goals as goal

pub returns-then-is_empty : goal.returns-then-is_empty
returns-then-is_empty c =
    let octets = c.split_at.result.1.now in
    λ _. rw (← c.split_at.ensures.back) (txt_nothing c.args.at octets (eqb-true (length octets) 0 (sym c.if-is_empty.ensures)))

pub returns-in-Some : goal.returns-in-Some
returns-in-Some c =
    let octets = c.split_at.result.1.now in
    let spelled = rw c.in-Some.is at c.in_ok-strings.ensures.some in
    rw (← c.split_at.ensures.back) (txt_spelled c.args.at octets c.in-Some.strings spelled (eqb-false (length octets) 0 (sym c.if-is_empty.ensures)))

pub returns-in-None : goal.returns-in-None
returns-in-None c =
    let none = rw c.in-None.is at c.in_ok-strings.ensures.none in
    λ _. rw (← c.split_at.ensures.back) (txt_other c.args.at c.split_at.result.1.now none)
