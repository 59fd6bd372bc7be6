use Rattle.std.proofs.Common.{◌++◌, List, ap, sym, subst, ◌∙◌}
use Rattle.dns_text.specs.declared.record.Record.{Record}
use Rattle.local_zone.specs.Index.{IsGrouped}
use Rattle.local_zone.proofs.Keyed.{items, octets}
use Rattle.local_zone.proofs.join.move_all.Goals as goal

pub returns-clause-index : goal.returns-clause-index
returns-clause-index c records h =
    c.put_groups.ensures records
    (subst (λ gs. IsGrouped octets items records (gs ++ c.reserve.new.self.entries)) (sym (ap (λ m. m.entries) c.replace.ensures.value))
    (subst (λ es. IsGrouped octets items records (c.args.groups.now.entries ++ es)) (sym c.reserve.ensures.entries) h))
