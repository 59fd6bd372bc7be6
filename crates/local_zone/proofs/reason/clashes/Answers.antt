use Rattle.std.proofs.Common.{List, nat_lt, length, ap, sym, ◌∙◌}
use Rattle.dns_text.specs.declared.record.Record.{Record}
use Rattle.local_zone.proofs.SetLaws.{cname_clashes, other_clashes}
use Rattle.local_zone.proofs.reason.clashes.Goals as goal

pub returns-then-is_cname : goal.returns-then-is_cname
returns-then-is_cname c =
    (λ i. nat_lt (length (c.set_of.ensures i)) (c.count_of.ensures i))
    ∙ cname_clashes c.args.new.now c.args.zones.now c.args.records.now (sym c.is_cname.ensures ∙ c.if-is_cname.true)

pub returns-else-is_cname : goal.returns-else-is_cname
returns-else-is_cname c =
    ap (λ (rs : List Record). nat_lt 0 (length rs)) c.set_of.ensures
    ∙ other_clashes c.args.new.now c.args.zones.now c.args.records.now (sym c.is_cname.ensures ∙ c.if-is_cname.false)
