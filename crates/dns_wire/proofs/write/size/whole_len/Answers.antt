use Rattle.std.proofs.Common.{◌<◌, Option, length, subst, sym, ap, arith}
use Rattle.std.specs.Prelude.{IfSome}
use Rattle.std.specs.Option.{option_copied}
use Rattle.dns_name.specs.Labels.{Labels, spelled}
use Rattle.dns_wire.proofs.WrittenSize.{whole_bound}
use Rattle.dns_wire.proofs.write.size.whole_len.Goals.{in_default-via-in-Some+else-wire_len-lt2, in_default-via-in_default}
use Rattle.dns_wire.proofs.write.size.whole_len.Goals as goal

pub returns-in_default : goal.returns-in_default
returns-in_default g c =
    whole_bound c.args.before (option_copied c.args.first) c.args.sections.now c.sections_len.result c.sections_len.ensures (elim c.in_default.branch [
      | in_default-via-in-Some+else-wire_len-lt2 w ↦ subst (λ (o : Option Labels). IfSome o (λ name. 0 < length (spelled name))) (sym (ap (λ o. option_copied o) w.in-Some.is)) (omega (arith, w.if-wire_len-lt2.false, w.wire_len.ensures.len))
      | in_default-via-in_default w ↦ subst (λ (o : Option Labels). IfSome o (λ name. 0 < length (spelled name))) (sym (ap (λ o. option_copied o) w.in_default.is)) tt
    ])
