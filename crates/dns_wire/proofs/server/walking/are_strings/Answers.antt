use Rattle.std.proofs.Common.{length, refl, sym}
use Rattle.std.proofs.lemmas.Bool.{eqb-true, eqb-false}
use Rattle.dns_wire.proofs.StringLaws.{txt_nothing, txt_exactly}
use Rattle.dns_wire.proofs.server.walking.are_strings.Goals as goal

pub returns-then-is_empty : goal.returns-then-is_empty
returns-then-is_empty c =
    let octets = c.split_at.result.1.now in
    rw (← c.split_at.ensures.back) (rw (txt_nothing c.args.at octets (eqb-true (length octets) 0 (sym c.if-is_empty.ensures))) refl)

pub returns : goal.returns
returns c =
    let octets = c.split_at.result.1.now in
    rw (← c.split_at.ensures.back) (txt_exactly c.args.at octets c.spell_strings.result c.spell_strings.ensures (eqb-false (length octets) 0 (sym c.if-is_empty.ensures)))
