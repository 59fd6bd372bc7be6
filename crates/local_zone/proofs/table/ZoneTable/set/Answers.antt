use Rattle.std.proofs.Common.{◌≡◌, ◌||◌, Bool, false, None, ap, sym, ◌∙◌, rules}
use Rattle.std.proofs.lemmas.Bool.{false≢true}
use Rattle.named_list.specs.TurnLaws.{puts_none_with}
use Rattle.local_zone.specs.declared.zone.Zone.{Zone}
use Rattle.local_zone.specs.Tables.{Tables}
use Rattle.local_zone.specs.Reason.{reason_of_set}
use Rattle.local_zone.proofs.ReasonLaws.{set_is_sound}
use Rattle.local_zone.proofs.table.ZoneTable.set.Goals as goal

pub invariant_of-self-2 : goal.invariant_of-self-2
invariant_of-self-2 c =
    let before : Tables = record { zones = c.self.inside.zones; records = c.self.inside.records } in
    let new : Zone = record { name = c.args.name; kind = c.args.kind } in
    let none : reason_of_set new before ≡ None = sym c.reason_of_set.ensures ∙ c.in_default.is in
    (rw (c.in_ok-zones.ensures.ok, c.in_ok-new.ensures) (set_is_sound new before c.self.invariant.0 none), c.in_ok-zones.ensures.zoned c.self.invariant.1)

pub returns-clause-frees : goal.returns-clause-frees
returns-clause-frees c =
    ap (λ (b : Bool). b || false) (puts_none_with (λ (z : Zone). z.name) c.in_ok-new.new c.in_ok-zones.zones c.put_zone.new.zones c.self.inside.zones c.in_ok-zones.ensures.ok c.in_ok-zones.ensures.saved)

pub returns-clause-saved : goal.returns-clause-saved
returns-clause-saved c = record {
  gives = search rules;
  fits = search rules;
  goes = search rules;
  sound = search rules;
  brings = λ back. absurd (false≢true back);
  takes = λ away. absurd (false≢true away);
}
