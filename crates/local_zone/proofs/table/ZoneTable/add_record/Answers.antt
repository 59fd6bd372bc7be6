use Rattle.std.proofs.Common.{◌≡◌, ◌||◌, Bool, false, List, length, ap, sym, ◌∙◌, rules, None, arith}
use Rattle.std.proofs.lemmas.Bool.{false≢true}
use Rattle.named_list.specs.TurnLaws.{puts_nothing}
use Rattle.local_zone.specs.declared.zone.Zone.{Zone}
use Rattle.local_zone.proofs.FreeLaws.{longer_for}
use Rattle.dns_text.specs.declared.record.Record.{Record}
use Rattle.local_zone.specs.Tables.{Tables}
use Rattle.local_zone.specs.Change.{zones_for}
use Rattle.local_zone.specs.Reason.{reason_of_add}
use Rattle.local_zone.proofs.ReasonLaws.{add_is_sound}
use Rattle.local_zone.proofs.table.ZoneTable.add_record.Goals as goal

pub invariant_of-self-in-Ok : goal.invariant_of-self-in-Ok
invariant_of-self-in-Ok c =
    let before : Tables = record { zones = c.self.inside.zones; records = c.self.inside.records } in
    let none : reason_of_add c.args.new before ≡ None = ap (λ (new : Record). reason_of_add new before) (sym c.get.ensures) ∙ sym c.reason_of_add.ensures ∙ c.in_default.is in
    let implied = c.in-Ok.ensures.ok ∙ ap (λ (new : Record). zones_for new.owner c.self.inside.zones) c.get-2.ensures in
    (rw (implied, c.in_ok-added.ensures.ok) (add_is_sound c.args.new before c.self.invariant.0 none), c.in-Ok.ensures.zoned (c.in_ok-added.ensures.zoned c.self.invariant.1))

pub returns-in-Ok-clause-frees : goal.returns-in-Ok-clause-frees
returns-in-Ok-clause-frees c =
    let before : List Zone = c.self.inside.zones in
    ap (λ (b : Bool). b || false) (puts_nothing (λ (z : Zone). z.name) c.in-Ok.zones c.put_implied.new.zones before c.in-Ok.ensures.saved (omega (arith, ap length c.in-Ok.ensures.ok, longer_for c.get-2.result.now.owner before)))

pub returns-in-Ok-clause-saved : goal.returns-in-Ok-clause-saved
returns-in-Ok-clause-saved c = record {
  gives = search rules;
  fits = search rules;
  goes = search rules;
  sound = search rules;
  brings = λ back. absurd (false≢true back);
  takes = λ away. absurd (false≢true away);
}
